use Rattle.std.proofs.Common.{◌≡◌, map, take}
use Rattle.net_build.specs.Views.{wire_of}
use Rattle.net_build.proofs.lists.same_wires.Given as goal

abbrev pub invariant-loop-i : goal.invariant-loop-i
invariant-loop-i l = map wire_of (take l.i l.left) ≡ map wire_of (take l.i l.right)
