-- what a reader has to believe: rounds and units of time
-- all live tokens move at once
pub mod Rounds
-- any of them move, each once; and schedules, of any units and of p processors
pub mod Units
-- the state after so many rounds, of which the laws speak
pub mod AfterRounds
-- the laws, a file for the statements of each
-- rounds are a run, and answer as the one worker does
pub mod RoundLaws
-- the order within a unit
pub mod OrderLaws
-- rounds take the span, which the length bounds
pub mod SpanLaws
-- no schedule is faster, and p processors are nearly as fast
pub mod ScheduleLaws
-- what the rounds of a program's net come to
pub mod Programs
-- cases that the prover computes
pub mod Example
