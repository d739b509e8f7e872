-- What the processor of a program answers is what the program means: the statements of `law_newest_program`.
use Rattle.std.specs.Prelude.{◌≡◌, ◌↔◌, ℕ, Option, Some, None}
use Rattle.pcf_values.specs.declared.val.Val.{Val}
use Rattle.pcf_values.specs.Terms.{TermTree}
use Rattle.cbn_meaning.specs.Meaning.{Means}
use Rattle.net_build.specs.NetOf.{net_of}
use Rattle.adequacy_laws.specs.Questions.{Length}
use Rattle.adequacy_laws.specs.Adequacy.{OfEveryProgram}
use Rattle.adequacy_laws.specs.Finished.{Within, Beyond}
use Rattle.newest_core.specs.Processor.{ticks, reset}

-- what a result and a count of moves tell of the program after k cycles
pub record Tells (m : TermTree) (k : ℕ) (result : Option Val) (moves : ℕ) : Type 0 where
  -- there is a result exactly where the program means it and its net's length is within k
  pub answers : (v : Val) → (result ≡ Some v) ↔ (Means m v × Within (net_of m) k v)
  -- and then that length was counted
  pub as_long : (v : Val) → result ≡ Some v → Length (net_of m) v moves
  -- there is none exactly where that length is absent or above k
  pub waits : (result ≡ None) ↔ Beyond (net_of m) k

-- the processor of every program tells the program's meaning
abbrev pub NewestMeans : Type 0
NewestMeans = OfEveryProgram (λ m. (k : ℕ) →
    Tells m k (ticks (net_of m) k (reset (net_of m))).result (ticks (net_of m) k (reset (net_of m))).moves)
