-- Rounds of a program's net: the statement of `law_round_programs`.
use Rattle.std.specs.Prelude.{◌≡◌, ◌↔◌, ℕ, Some}
use Rattle.pcf_values.specs.declared.val.Val.{Val}
use Rattle.cbn_meaning.specs.Meaning.{Means}
use Rattle.net_build.specs.NetOf.{net_of}
use Rattle.interleave_laws.specs.States.{State}
use Rattle.adequacy_laws.specs.Questions.{Span}
use Rattle.adequacy_laws.specs.Adequacy.{OfEveryProgram}
use Rattle.round_laws.specs.AfterRounds.{rounds}

-- a program means a value exactly when its net has that value and a span
abbrev pub MeansSpan : Type 0
MeansSpan = OfEveryProgram (λ m. (v : Val) → Means m v ↔ ((n : ℕ) × Span (net_of m) v n))

-- and exactly when some number of rounds answers it
abbrev pub RoundsMean : Type 0
RoundsMean = OfEveryProgram (λ m. (v : Val) → Means m v ↔ ((k : ℕ) × (S : State) × (rounds (net_of m) k ≡ Some S) ×
    (S.answered ≡ Some v)))
