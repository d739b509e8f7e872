use Rattle.std.specs.Prelude.{length, ◌≤◌, ◌-◌}
use Rattle.interleave_core.specs.Parts.{state_of}
use Rattle.interleave_core.specs.Alone.{RunsAlone}
use Rattle.interleave_core.proofs.one_worker.run_one.Given as goal

abbrev pub invariant-loop-parts : goal.invariant-loop-parts
invariant-loop-parts l = RunsAlone l.net l.tickets (state_of l.parts) × (length l.tickets ≤ l.budget)

abbrev pub decreases-loop-parts : goal.decreases-loop-parts
decreases-loop-parts l = l.budget - length l.tickets
