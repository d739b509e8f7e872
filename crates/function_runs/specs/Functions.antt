-- Which texts are functions of numbers, and what is the first fault of one that isn't.
-- A function is a closed term of type `nat -> .. -> nat`, with how many numbers it takes. With none it is a program of type `nat`.
-- A text is judged in the order in which a program is: it is read, its scope and its types are checked, and its type is looked at.
use Rattle.std.specs.Prelude.{◌≡◌, ◌≤◌, ℕ, List, [], Ok, Err}
use Rattle.pcf_values.specs.Terms.{TyTree, TermTree}
use Rattle.pcf_values.specs.Named.{NamedTree}
use Rattle.pcf_reader.specs.declared.fault.ReadFault.{ReadFault}
use Rattle.pcf_reader.specs.Correct.{Text, FirstFault}
use Rattle.pcf_types.specs.declared.fault.TypeFault.{TypeFault}
use Rattle.pcf_types.specs.Checking.{type_of}
use Rattle.open_net_laws.specs.Applied.{numeric}
use Rattle.program_runs.specs.declared.fault.ProgramFault.{ProgramFault}
use Rattle.program_runs.specs.declared.fault.ProgramFault.TheVariants.{Read, Typing, NotGround}

-- how many numbers a function may take
abbrev pub most_arguments : ℕ
most_arguments = 1000

-- the type is that of a function of so many numbers, which aren't too many
pub record Takes (n : ℕ) (A : TyTree) : Type 0 where
  pub type : A ≡ numeric n
  pub few : n ≤ most_arguments

-- the tree is a function of so many numbers, and this is it
pub record CompilesTree (tree : NamedTree) (n : ℕ) (f : TermTree × ℕ) : Type 0 where
  pub typed : type_of [] tree ≡ Ok (f.0, numeric n)
  pub takes : f.1 ≡ n
  pub few : n ≤ most_arguments

-- and so the text
abbrev pub CompilesText : List ℕ → ℕ → TermTree × ℕ → Type 0
CompilesText bytes n f = (tree : NamedTree) × Text bytes tree × CompilesTree tree n f

-- the tree is refused for this fault, which is its first
pub data FaultyTree (n : ℕ) (tree : NamedTree) : ProgramFault → Type 0 where
  -- its scope or its types are at fault
  untyped : (f : TypeFault) → type_of [] tree ≡ Err f → FaultyTree n tree (Typing f)
  -- it isn't a function of so many numbers, or they are too many
  other_type : (t : TermTree) (A : TyTree) → type_of [] tree ≡ Ok (t, A) → (Takes n A → ⊥) → FaultyTree n tree NotGround

-- the text is refused for this fault, which is its first
pub data FaultyFunction (n : ℕ) (bytes : List ℕ) : ProgramFault → Type 0 where
  -- it stands for no tree
  unread : (f : ReadFault) → FirstFault bytes f → FaultyFunction n bytes (Read f)
  -- it stands for a tree that is refused
  of_tree : (tree : NamedTree) (f : ProgramFault) → Text bytes tree → FaultyTree n tree f → FaultyFunction n bytes f

-- as a function of whatever number of arguments the text is refused for this fault, which is its first
abbrev pub FaultyAny : List ℕ → ProgramFault → Type 0
FaultyAny bytes f = (n : ℕ) → FaultyFunction n bytes f
