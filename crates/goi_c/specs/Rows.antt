-- What the call promises that runs one function at many rows of numbers.
use Rattle.std.specs.Prelude.{◌≡◌, ◌⊎◌, ◌*◌, ◌<◌, ℕ, List, length, take, drop, get_or, Option}
use Rattle.pcf_values.specs.declared.val.Val.{Val}
use Rattle.pcf_values.specs.Terms.{TermTree}
use Rattle.cbn_meaning.specs.Meaning.{Means}
use Rattle.net_build.specs.NetOf.{net_of}
use Rattle.open_net_laws.specs.Applied.{applied}
use Rattle.program_runs.specs.declared.fault.ProgramFault.{ProgramFault}
use Rattle.program_runs.specs.Runs.{Tells}
use Rattle.function_runs.specs.Functions.{CompilesText, FaultyFunction}
use Rattle.goi_jobs.specs.Ranges.{IsBudget}
use Rattle.goi_tasks.specs.declared.fault.Fault.TheVariants.{Program}
use Rattle.goi_tasks.specs.Refusals.{IsLine}
use Rattle.goi_tasks.specs.declared.answer.Answer.{Answer}
use Rattle.goi_tasks.specs.Backs.{Back, Comes, Gives, Nothing}
use Rattle.goi_tasks.specs.Numbers.{AnswerIs, TellsNone, rows_status}

-- the numbers of a row, where each row has so many and they stand one behind the other
abbrev pub row : ℕ → List ℕ → ℕ → List ℕ
row n values i = take n (drop (i * n) values)

-- the answer of a term that is applied to these numbers: its value with the length of its net, or none, where that length is absent or
-- above the budget
pub record TellsRow (m : TermTree) (budget : ℕ) (numbers : List ℕ) (a : Answer) : Type 0 where
  pub answer : Option Val
  pub moves : ℕ
  pub tells : Tells (Means (applied m numbers)) (net_of (applied m numbers)) budget answer moves
  pub told : AnswerIs answer moves a

-- each answer is that of the row with its number
abbrev pub TellsRows : TermTree → ℕ → ℕ → List ℕ → List Answer → Type 0
TellsRows m n budget values answers =
    (i : ℕ) (d : Answer) → i < length answers → TellsRow m budget (row n values i) (get_or answers i d)

-- what is given back of a function's rows: an answer for each, or the line of the text's first fault, or there was no memory
pub data TellsEach (n budget : ℕ) (values bytes : List ℕ) (answers : List Answer) (b : Back) : Type 0 where
  ran : (f : TermTree × ℕ) → CompilesText bytes n f → TellsRows f.0 n budget values answers → Nothing (rows_status answers) b →
      TellsEach n budget values bytes answers b
  refused : (f : ProgramFault) (line : List ℕ) → FaultyFunction n bytes f → IsLine (Program f) line → TellsNone answers →
      Gives 1 line b → TellsEach n budget values bytes answers b
  no_memory : TellsNone answers → Nothing 6 b → TellsEach n budget values bytes answers b

-- the numbers ask for something: the budget is within the limits, and there are as many numbers as the rows take
abbrev pub IsAskedEach : ℕ → ℕ → ℕ → List ℕ → Type 0
IsAskedEach n budget rows values = IsBudget budget × (length values ≡ n * rows)

-- the call; where its numbers ask for nothing, there is no answer
pub record CallsEach (n budget rows : ℕ) (values bytes : List ℕ) (answers : List Answer) (b : Back) : Type 0 where
  pub right : IsAskedEach n budget rows values → TellsEach n budget values bytes answers b
  pub wrong : (IsAskedEach n budget rows values → ⊥) → Nothing 2 b
  pub no_answers : (IsAskedEach n budget rows values → ⊥) → TellsNone answers

-- A text that is such a function is run, and one with a fault is refused, but for room and memory.
pub record OwnsEach (n : ℕ) (bytes : List ℕ) (b : Back) : Type 0 where
  pub done : (f : TermTree × ℕ) → CompilesText bytes n f → (b.status ≡ 0) ⊎ (b.status ≡ 5) ⊎ (b.status ≡ 6)
  pub refused : (f : ProgramFault) → FaultyFunction n bytes f → Comes 1 b
