-- Rows of workers that go home.
use Rattle.std.proofs.Common.{ℕ, ⊎_elim, arith}
use Rattle.std.proofs.lemmas.Bool.{cases_lt}
use Rattle.gate_workers.specs.declared.turn.Turn.{Turn}
use Rattle.gate_workers.specs.Working.{AllGoHome}

-- a row of workers goes home where its two halves do
pub both_go_home : {B P : Type 0} (gives : B → ℕ → Turn P → B → Type 0) (halts : B → B → Type 0) (from middle to : ℕ)
    → AllGoHome gives halts from middle → AllGoHome gives halts middle to → AllGoHome gives halts from to
both_go_home gives halts from middle to first second w l m =
    ⊎_elim (λ below. first w l below) (λ n. second w (omega arith) m) (cases_lt w middle)
