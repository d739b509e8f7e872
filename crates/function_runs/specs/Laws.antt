-- That a text is one function, and that a call is the run of a text. Whether a text stands for a tree is the reader's business, so a law
-- speaks of any text that does.
use Rattle.std.specs.Prelude.{◌≡◌, ℕ, List, [], ◌∷◌, map, length, Option, Ok}
use Rattle.pcf_values.specs.declared.val.Val.{Val}
use Rattle.pcf_values.specs.Terms.{TermTree, nat}
use Rattle.pcf_values.specs.Named.{NamedTree, number_at, apply_at}
use Rattle.pcf_reader.specs.Correct.{Text}
use Rattle.pcf_types.specs.Checking.{type_of}
use Rattle.cbn_meaning.specs.Meaning.{Means}
use Rattle.net_build.specs.NetOf.{net_of}
use Rattle.open_net_laws.specs.Applied.{applied, numeric}
use Rattle.schedule_log.specs.declared.entry.Entry.{Entry}
use Rattle.program_runs.specs.declared.fault.ProgramFault.{ProgramFault}
use Rattle.program_runs.specs.Programs.{number, IsGround, OfProgram}
use Rattle.program_runs.specs.Runs.{IsProgramRun}
use Rattle.function_runs.specs.Functions.{CompilesText, FaultyFunction, FaultyAny}

-- a text is one function of so many numbers, or has one first fault, and never both
pub record OneFunction : Type 0 where
  pub one_function : (n : ℕ) (bytes : List ℕ) (f g : TermTree × ℕ) → CompilesText bytes n f → CompilesText bytes n g → f ≡ g
  pub one_fault : (n : ℕ) (bytes : List ℕ) (f g : ProgramFault) → FaultyFunction n bytes f → FaultyFunction n bytes g → f ≡ g
  pub not_both : (n : ℕ) (bytes : List ℕ) (f : TermTree × ℕ) (g : ProgramFault) → CompilesText bytes n f → FaultyFunction n bytes g → ⊥

-- a text is a function of one number of arguments, and one such function; or it has one first fault as whatever function; and never both
pub record OneOfAny : Type 0 where
  pub one_function : (n k : ℕ) (bytes : List ℕ) (f g : TermTree × ℕ) → CompilesText bytes n f → CompilesText bytes k g → (n ≡ k) × (f ≡ g)
  pub one_fault : (bytes : List ℕ) (f g : ProgramFault) → FaultyAny bytes f → FaultyAny bytes g → f ≡ g
  pub not_both : (n : ℕ) (bytes : List ℕ) (f : TermTree × ℕ) (g : ProgramFault) → CompilesText bytes n f → FaultyAny bytes g → ⊥

-- a number in a text: where it is, and where the application to it
pub record NumberAt : Type 0 where
  pub value : ℕ
  pub place : ℕ
  pub application : ℕ

abbrev pub values : List NumberAt → List ℕ
values = map (λ x. x.value)

-- a tree applied to numbers, one after another
abbrev pub applied_tree : NamedTree → List NumberAt → NamedTree
applied_tree tree [] = tree
applied_tree tree (x ∷ xs) = applied_tree (apply_at x.application tree (number_at x.place x.value)) xs

-- where the tree takes so many numbers, this is the term of it and of its numbers
abbrev pub AppliedTree : Type 0
AppliedTree =
    (tree : NamedTree) (xs : List NumberAt) (m : TermTree) → type_of [] tree ≡ Ok (m, numeric (length xs)) →
    type_of [] (applied_tree tree xs) ≡ Ok (applied m (values xs), nat)

-- so a text of it is a program of that term
abbrev pub AppliedText : Type 0
AppliedText =
    (tree : NamedTree) (xs : List NumberAt) (m : TermTree) → type_of [] tree ≡ Ok (m, numeric (length xs)) →
    (bytes : List ℕ) → Text bytes (applied_tree tree xs) → IsGround bytes (applied m (values xs))

-- Where a text is a program of a term applied to numbers, what one worker's run of it by name may come to, and what a call may, are one
-- answer and one log.
abbrev pub SameAsText : Type 0
SameAsText =
    (m : TermTree) (vs bytes : List ℕ) → IsGround bytes (applied m vs) → (budget : ℕ) (a b : Option Val) (k l : List Entry) →
    OfProgram number bytes (λ tree t A. IsProgramRun (Means t) (net_of t) 1 budget a k) →
    IsProgramRun (Means (applied m vs)) (net_of (applied m vs)) 1 budget b l → (a ≡ b) × (k ≡ l)
