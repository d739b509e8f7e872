use Rattle.std.proofs.Common.{◌+◌, length, reverse}
use Rattle.net_build.proofs.Joining.{IsMerging}
use Rattle.net_build.proofs.joins.contract.Given as goal

abbrev pub invariant-loop-right : goal.invariant-loop-right
invariant-loop-right l =
    IsMerging l.fn.parts l.parts l.depth (reverse l.fn.left.items) (reverse l.fn.right.items) (reverse l.left.items) (reverse l.right.items)
    l.joined.items

abbrev pub decreases-loop-right : goal.decreases-loop-right
decreases-loop-right l = length (reverse l.left.items) + length (reverse l.right.items)
