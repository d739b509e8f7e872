use Rattle.std.proofs.Common.{length, reverse}
use Rattle.net_build.proofs.Joining.{IsLeaving}
use Rattle.net_build.proofs.joins.doors.Given as goal

abbrev pub invariant-loop-alloc : goal.invariant-loop-alloc
invariant-loop-alloc l = IsLeaving l.fn.parts l.parts l.depth (reverse l.fn.inside.items) (reverse l.inside.items) l.outside.items

abbrev pub decreases-loop-alloc : goal.decreases-loop-alloc
decreases-loop-alloc l = length (reverse l.inside.items)
