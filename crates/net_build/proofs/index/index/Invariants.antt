use Rattle.std.proofs.Common.{◌≤◌, length, drop}
use Rattle.net_build.specs.Index.{Indexes, wires_with}
use Rattle.net_build.proofs.index.index.Given as goal

abbrev pub invariant-loop-n : goal.invariant-loop-n
invariant-loop-n l = (l.n ≤ length l.nodes) × Indexes (wires_with l.face) l.wires l.n (drop l.n l.nodes) l.least.items

abbrev pub decreases-loop-n : goal.decreases-loop-n
decreases-loop-n l = l.n
