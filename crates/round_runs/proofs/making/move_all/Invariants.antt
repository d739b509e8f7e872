use Rattle.round_runs.proofs.Moving.{Midst, left_of}
use Rattle.round_runs.proofs.making.move_all.Given as goal

abbrev pub invariant-loop-next : goal.invariant-loop-next
invariant-loop-next l = Midst l.net l.fn.core l.core l.fn.tickets.items l.tickets.items l.next

abbrev pub decreases-loop-next : goal.decreases-loop-next
decreases-loop-next l = left_of l.fn.core l.next
