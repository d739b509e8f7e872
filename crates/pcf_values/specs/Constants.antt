-- The constants of `limits` are the limits of the program.
use Rattle.std.specs.Prelude.{◌≡◌}
use Rattle.pcf_values.specs.declared.limits.TheConstants.{PROGRAM_BYTES, SCHEDULE_BYTES, PROGRAM_NODES, OPEN_PHRASES, WORKERS, BUDGET}
use Rattle.pcf_values.specs.declared.limits.TheConstants.{SCHEDULE_MOVES, DEMO}
use Rattle.pcf_values.specs.Most.{most_program_bytes, most_schedule_bytes, most_nodes, most_open, most_workers, most_budget, most_moves}
use Rattle.pcf_values.specs.Most.{most_demo}

-- each constant is the number of its name
pub record LimitsAre : Type 0 where
  pub program_bytes : PROGRAM_BYTES ≡ most_program_bytes
  pub schedule_bytes : SCHEDULE_BYTES ≡ most_schedule_bytes
  pub nodes : PROGRAM_NODES ≡ most_nodes
  pub open_phrases : OPEN_PHRASES ≡ most_open
  pub workers : WORKERS ≡ most_workers
  pub budget : BUDGET ≡ most_budget
  pub moves : SCHEDULE_MOVES ≡ most_moves
  pub demo : DEMO ≡ most_demo
