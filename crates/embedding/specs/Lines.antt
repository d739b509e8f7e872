-- What is printed for a text: three lines, of which each says what the text's program comes to, by another way into the machine, or that
-- the text is refused, with the place of its first fault.
use Rattle.std.specs.Prelude.{◌≡◌, ℕ, List, ◌++◌, codes, decimal, Option, Some, None}
use Rattle.pcf_values.specs.declared.val.Val.{Val}
use Rattle.pcf_values.specs.declared.val.Val.TheVariants.{Number, Overflow}
use Rattle.pcf_values.specs.Terms.{TermTree}
use Rattle.cbn_meaning.specs.Meaning.{Means}
use Rattle.net_build.specs.NetOf.{net_of}
use Rattle.program_runs.specs.declared.fault.ProgramFault.{ProgramFault}
use Rattle.program_runs.specs.Programs.{number, IsGround, FaultyProgram}
use Rattle.program_runs.specs.Runs.{Tells}
use Rattle.embedding.specs.Places.{place_of}

-- how many moves a run may make
abbrev pub budget : ℕ
budget = 10000

-- ---- texts

abbrev pub value_text : Option Val → List ℕ
value_text (Some (Number n)) = decimal n
value_text (Some Overflow) = codes "too large"
value_text None = codes "no value"

-- the line of a run by this way
abbrev pub run_line : List ℕ → Option Val → ℕ → List ℕ
run_line way answer moves = way ++ (codes ": " ++ (value_text answer ++ (codes " after " ++ (decimal moves ++ codes " moves\n"))))

-- that of a fault, with its place
abbrev pub placed_line : List ℕ → Option ℕ → List ℕ
placed_line way (Some at) = way ++ (codes ": refused at byte " ++ (decimal at ++ codes "\n"))
placed_line way None = way ++ codes ": refused\n"

abbrev pub refused_line : List ℕ → ProgramFault → List ℕ
refused_line way f = placed_line way (place_of f)

-- ---- which lines come for a text

-- The program's value, after as many moves as its net is long; or no value, where that length is absent or above the budget. Or the
-- text's first fault.
pub data RunLine (way bytes : List ℕ) : List ℕ → Type 0 where
  ran : (t : TermTree) (answer : Option Val) (moves : ℕ) → IsGround bytes t → Tells (Means t) (net_of t) budget answer moves →
      RunLine way bytes (run_line way answer moves)
  refused : (f : ProgramFault) → FaultyProgram number bytes f → RunLine way bytes (refused_line way f)

-- all that is printed
pub record IsTold (bytes text : List ℕ) : Type 0 where
  pub alone : List ℕ
  pub is_alone : RunLine (codes "alone") bytes alone
  pub together : List ℕ
  pub is_together : RunLine (codes "together") bytes together
  pub hand : List ℕ
  pub is_hand : RunLine (codes "by hand") bytes hand
  pub is : text ≡ alone ++ (together ++ hand)
