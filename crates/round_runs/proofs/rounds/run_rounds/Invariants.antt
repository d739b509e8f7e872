use Rattle.std.proofs.Common.{◌≤◌, ◌-◌, length}
use Rattle.round_runs.specs.Making.{IsMade}
use Rattle.round_runs.proofs.rounds.run_rounds.Given as goal

abbrev pub invariant-loop-made : goal.invariant-loop-made
invariant-loop-made l = IsMade l.net l.made.tickets.items l.made.profile.items l.made.widest l.made.core ×
    (length l.made.tickets.items ≤ l.budget)

abbrev pub decreases-loop-made : goal.decreases-loop-made
decreases-loop-made l = l.budget - length l.made.tickets.items
