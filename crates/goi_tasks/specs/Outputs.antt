-- What a job prints: its report for the standard output, notes for the error output behind it, and the status with which it ends.
use Rattle.std.specs.Prelude.{ℕ, List}

pub record Output : Type 0 where
  pub status : ℕ
  pub report : List ℕ
  pub notes : List ℕ

abbrev pub output : ℕ → List ℕ → List ℕ → Output
output status report notes = record { status = status; report = report; notes = notes }
