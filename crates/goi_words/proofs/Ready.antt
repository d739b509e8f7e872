-- What is to be shown of each command of the table, that all theorems hold of it: most of it by computing.
use Rattle.std.proofs.Common.{map, ◌≡◌, ◌⊎◌, ◌≤◌, true, false, codes, List, [], Option, None, Some, ℕ}
use Rattle.std.specs.Prelude.{⊤}
use Rattle.std.specs.List.{AllByRecursion, find}
use Rattle.std.specs.Str.{bytes_eq}
use Rattle.clap.specs.Walk.{Row, Rule, Text}
use Rattle.clap.specs.Simple.{Shape, built, built_leaf, inherited, marked_built, with_leaf_noted}
use Rattle.clap.specs.Faults.{check_fault, given_default_fault}
use Rattle.clap.specs.Kinds.{Kinds}
use Rattle.clap.specs.Takes.{is_given as is_row_given}
use Rattle.goi_words.specs.Findings.{Findings}
use Rattle.goi_words.specs.Commands.{Choice, CommandRow, IsUnfit, Operand, a_number, a_text, choice_name, goi_command, named, numbered}
use Rattle.goi_words.specs.Commands.{operand_name, some_numbers, subcommand, switch}
use Rattle.goi_words.specs.Asked.{findings, job_on}
use Rattle.goi_jobs.specs.Jobs.{IsWithinLimits, JobTree}
use Rattle.goi_words.proofs.Operands.{ArePlaced}
use Rattle.goi_words.proofs.Rows.{HasCleanDefaults, default_row}
use Rattle.goi_words.proofs.Settings.{IsKnown, all_known, each_equal, facts, wanted}
use Rattle.goi_words.proofs.Tops.{Enters}

-- a command as the parse sees it
abbrev pub leaf : CommandRow → Shape
leaf c = built_leaf (inherited (with_leaf_noted (marked_built goi_command.top)) (subcommand c))

-- a job within the limits
abbrev pub HasJob : Option JobTree → Type 0
HasJob o = (done : JobTree) × (o ≡ Some done) × IsWithinLimits done

-- the same is found for an argument
abbrev pub IsSameAt : Findings → Findings → Operand → Type 0
IsSameAt f g (a_text name) = f.text name ≡ g.text name
IsSameAt f g (a_number name least most) = f.number name ≡ g.number name
IsSameAt f g (some_numbers name) = f.numbers name ≡ g.numbers name

abbrev pub IsSameFor : Findings → Findings → Choice → Type 0
IsSameFor f g (switch name) = f.is_set name ≡ g.is_set name
IsSameFor f g (numbered name least most default) = f.number name ≡ g.number name
IsSameFor f g (named name default) = f.text name ≡ g.text name

-- what the argument asks for is found
abbrev pub IsFoundAt : Findings → Operand → Type 0
IsFoundAt f (a_text name) = (t : Text) × (f.text name ≡ Some t)
IsFoundAt f (a_number name least most) = (n : ℕ) × (f.number name ≡ Some n) × (least ≤ n) × (n ≤ most)
IsFoundAt f (some_numbers name) = (ns : List ℕ) × (f.numbers name ≡ Some ns)

abbrev pub IsFoundFor : Findings → Choice → Type 0
IsFoundFor f (switch name) = ⊤
IsFoundFor f (numbered name least most default) = (n : ℕ) × (f.number name ≡ Some n) × (least ≤ n) × (n ≤ most)
IsFoundFor f (named name default) = (t : Text) × (f.text name ≡ Some t)

-- the words give an option for both, or for neither
abbrev pub IsGivenAlike : Findings → Findings → Choice → Type 0
IsGivenAlike f g ch = f.is_given (choice_name ch) ≡ g.is_given (choice_name ch)

-- a command of this name has this job, or it is `circuit` and what is found is unfit
abbrev pub HasJobOf : Text → Findings → Option JobTree → Type 0
HasJobOf name f o = HasJob o ⊎ ((name ≡ codes "circuit") × IsUnfit f)

-- an operand that has to be there is
abbrev pub IsThere : List Row → Operand → Type 0
IsThere rows (some_numbers name) = ⊤
IsThere rows o = is_row_given (operand_name o) rows ≡ true

-- the first operand of its name, and without a default
abbrev pub IsOwn : Shape → List Operand → Operand → Type 0
IsOwn sh operands o =
    (find (λ p. bytes_eq (operand_name p) (operand_name o)) operands ≡ Some o) × (default_row (operand_name o) sh.rules ≡ None)

-- the fault of an argument's default, and none
abbrev pub default_fault : Rule → Kinds
default_fault a = given_default_fault a a.defaults

abbrev pub no_fault : Rule → Kinds
no_fault a = []

-- all of it
pub record IsReady (c : CommandRow) : Type 0 where
  -- its name enters it, and leads to its job
  pub enters : Enters (built goi_command) c.name (leaf c)
  pub job : (rows : List Row) → job_on c.name rows ≡ c.job (findings rows)
  -- its arguments are found
  pub placed : ArePlaced (leaf c) 1 c.operands
  pub own : AllByRecursion (IsOwn (leaf c) c.operands) c.operands
  pub known : map (facts (leaf c) c.operands c.choices) c.choices ≡ map wanted c.choices
  pub defaults : map default_fault (leaf c).rules ≡ map no_fault (leaf c).rules
  -- its last check asks for the operands that have to be there, and for nothing else
  pub checked : (rows : List Row) → AllByRecursion (IsThere rows) c.operands → check_fault (leaf c) rows false ≡ []
  pub asks : (rows : List Row) → check_fault (leaf c) rows false ≡ [] → AllByRecursion (IsThere rows) c.operands
  -- its job is of what is found for its arguments, and within the limits
  pub same : (f g : Findings) → AllByRecursion (IsSameAt f g) c.operands → AllByRecursion (IsSameFor f g) c.choices
      → AllByRecursion (IsGivenAlike f g) c.choices → c.job f ≡ c.job g
  pub has_job : (f : Findings) → AllByRecursion (IsFoundAt f) c.operands → AllByRecursion (IsFoundFor f) c.choices
      → HasJobOf c.name f (c.job f)

-- a command that is ready knows its options
pub knows : (c : CommandRow) → IsReady c → AllByRecursion (IsKnown (leaf c) c.operands c.choices) c.choices
knows c ready = all_known (leaf c) c.operands c.choices c.choices ready.known

-- and its defaults have no fault
pub cleanly : (c : CommandRow) → IsReady c → HasCleanDefaults (leaf c).rules
cleanly c ready = each_equal default_fault no_fault (leaf c).rules ready.defaults
