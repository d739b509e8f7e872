use Rattle.std.proofs.Common.{◌≡◌, ◌-◌, length}
use Rattle.net_terms.specs.Uses.{using_behind}
use Rattle.net_terms.proofs.uses.next_use.Given as goal

abbrev pub invariant-loop-next : goal.invariant-loop-next
invariant-loop-next l = using_behind l.net l.next ≡ using_behind l.net l.initial.next

abbrev pub decreases-loop-next : goal.decreases-loop-next
decreases-loop-next l = length l.net.nodes - l.next
