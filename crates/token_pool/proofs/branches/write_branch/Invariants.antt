use Rattle.std.specs.Prelude.{map, length}
use Rattle.schedule_log.specs.Logs.{by}
use Rattle.schedule_log.specs.LogsSeen.{with_entries}
use Rattle.branch_laws.specs.Branches.{name}
use Rattle.token_pool.proofs.Writing.{Writes}
use Rattle.token_pool.proofs.branches.write_branch.Given as goal

abbrev pub invariant-loop-left : goal.invariant-loop-left
invariant-loop-left l =
    Writes l.worker l.ticket l.next (with_entries l.fn.log (by l.worker (map (name l.ticket l.next) l.tickets))) l.log l.left

abbrev pub decreases-loop-left : goal.decreases-loop-left
decreases-loop-left l = length l.left
