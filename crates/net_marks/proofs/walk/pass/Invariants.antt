use Rattle.std.proofs.Common.{◌≡◌, ◌≤◌, length}
use Rattle.net_marks.specs.Passing.{pass}
use Rattle.net_marks.specs.Walks.{left}
use Rattle.net_marks.proofs.walk.pass.Given as goal

abbrev pub invariant-loop-walk : goal.invariant-loop-walk
invariant-loop-walk l =
    (l.walk.left ≤ length l.net.nodes) ×
    (pass l.outer l.inner l.next (left l.net l.walk) l.walk.marks.items ≡ pass l.fn.around l.fn.place l.fn.want (left l.net l.fn.walk)
    l.fn.walk.marks.items)

abbrev pub decreases-loop-walk : goal.decreases-loop-walk
decreases-loop-walk l = l.walk.left
