-- Which texts are programs that can be run or looked at, and what is the first fault of one that isn't.
-- A text is judged in this order: it is read, its scope and its types are checked, its type is looked at where a number is wanted, and
-- then whether it has a translation where it is to be run by value.
-- A program here is a term; what is done with it is told elsewhere.
use Rattle.std.specs.Prelude.{◌≡◌, ◌≢◌, ℕ, Bool, true, false, List, [], Ok, Err}
use Rattle.pcf_values.specs.Terms.{TyTree, nat, TermTree}
use Rattle.pcf_values.specs.Named.{NamedTree}
use Rattle.pcf_reader.specs.declared.fault.ReadFault.{ReadFault}
use Rattle.pcf_reader.specs.Correct.{Text, FirstFault}
use Rattle.pcf_types.specs.declared.fault.TypeFault.{TypeFault}
use Rattle.pcf_types.specs.Checking.{type_of}
use Rattle.cbv_terms.specs.declared.fault.ByValueFault.{ByValueFault}
use Rattle.cbv_terms.specs.Faults.{IsFirstFault, IsFaultless}
use Rattle.program_runs.specs.declared.calling.Calling.{Calling}
use Rattle.program_runs.specs.declared.calling.Calling.TheVariants.{ByName, ByValue}
use Rattle.program_runs.specs.declared.fault.ProgramFault.{ProgramFault}
use Rattle.program_runs.specs.declared.fault.ProgramFault.TheVariants.{Read, Typing, NotGround, ByValue}

-- what is wanted of a program: that it has a type, that its type is `nat`, or that it is a number and has a translation by value
pub data Wanted : Type 0 where
  any_type : Wanted
  number : Wanted
  strict_number : Wanted

-- by value where that is asked for
abbrev pub calling_of : Bool → Calling
calling_of false = ByName
calling_of true = ByValue

-- what a run wants of its program, by name or by value
abbrev pub wanted_by_run : Calling → Wanted
wanted_by_run ByName = number
wanted_by_run ByValue = strict_number

-- a program of this tree and this type will do
abbrev pub WillDo : Wanted → NamedTree → TyTree → Type 0
WillDo any_type tree A = Unit {0}
WillDo number tree A = A ≡ nat
WillDo strict_number tree A = (A ≡ nat) × IsFaultless tree

-- the text stands for this tree, which is this term of this type, and the type will do
pub record IsProgram (wanted : Wanted) (bytes : List ℕ) (tree : NamedTree) (t : TermTree) (A : TyTree) : Type 0 where
  pub text : Text bytes tree
  pub typed : type_of [] tree ≡ Ok (t, A)
  pub will_do : WillDo wanted tree A

-- the text is such a program, and this is so of its tree, its term and its type
pub record OfProgram (wanted : Wanted) (bytes : List ℕ) (P : NamedTree → TermTree → TyTree → Type 0) : Type 0 where
  pub tree : NamedTree
  pub term : TermTree
  pub type : TyTree
  pub is : IsProgram wanted bytes tree term type
  pub so : P tree term type

-- the text is a program of this term, whose type is `nat`
abbrev pub IsGround : List ℕ → TermTree → Type 0
IsGround bytes t = (tree : NamedTree) × IsProgram number bytes tree t nat

-- and this is so of it
abbrev pub OfGround : List ℕ → (TermTree → Type 0) → Type 0
OfGround bytes P = (t : TermTree) × IsGround bytes t × P t

-- the tree is refused for this fault, which is its first
pub data FaultyTree (wanted : Wanted) (tree : NamedTree) : ProgramFault → Type 0 where
  -- its scope or its types are at fault
  untyped : (f : TypeFault) → type_of [] tree ≡ Err f → FaultyTree wanted tree (Typing f)
  -- a number is wanted, and it has another type
  no_number : (t : TermTree) (A : TyTree) → wanted ≢ any_type → type_of [] tree ≡ Ok (t, A) → A ≢ nat → FaultyTree wanted tree NotGround
  -- it is a number that is to be run by value, and has no translation
  untranslated : (t : TermTree) (f : ByValueFault) → wanted ≡ strict_number → type_of [] tree ≡ Ok (t, nat) → IsFirstFault tree f →
      FaultyTree wanted tree (ByValue f)

-- the text is refused for this fault, which is its first
pub data FaultyProgram (wanted : Wanted) (bytes : List ℕ) : ProgramFault → Type 0 where
  -- it stands for no tree
  unread : (f : ReadFault) → FirstFault bytes f → FaultyProgram wanted bytes (Read f)
  -- it stands for a tree that is refused
  of_tree : (tree : NamedTree) (f : ProgramFault) → Text bytes tree → FaultyTree wanted tree f → FaultyProgram wanted bytes f
