-- What is always true of programs and of their runs.
use Rattle.std.specs.Prelude.{◌≡◌, ◌⊎◌, ℕ, List, [], length, Option}
use Rattle.pcf_values.specs.declared.val.Val.{Val}
use Rattle.pcf_values.specs.Terms.{TyTree, nat, TermTree}
use Rattle.pcf_values.specs.Typing.{HasType}
use Rattle.pcf_values.specs.Named.{NamedTree}
use Rattle.cbn_meaning.specs.Meaning.{Means}
use Rattle.net_build.specs.NetOf.{net_of}
use Rattle.interleave_laws.specs.Maps.{MapState, LeadsToMap}
use Rattle.interleave_laws.specs.Finished.{Finished}
use Rattle.schedule_log.specs.declared.entry.Entry.{Entry}
use Rattle.net_runs.specs.IsRun.{IsRun, IsFirstWorkers}
use Rattle.program_runs.specs.declared.fault.ProgramFault.{ProgramFault}
use Rattle.program_runs.specs.Programs.{Wanted, IsProgram, OfProgram, FaultyProgram}
use Rattle.program_runs.specs.Runs.{Tells, IsProgramRun}

-- a text is one program, whatever is wanted of it
abbrev pub OneTerm : Type 0
OneTerm =
    (wanted other_wanted : Wanted) (bytes : List ℕ) (tree other : NamedTree) (t u : TermTree) (A B : TyTree) →
    IsProgram wanted bytes tree t A → IsProgram other_wanted bytes other u B → t ≡ u

-- a program has no fault
abbrev pub NoFault : Type 0
NoFault =
    (wanted : Wanted) (bytes : List ℕ) (tree : NamedTree) (t : TermTree) (A : TyTree) (f : ProgramFault) →
    IsProgram wanted bytes tree t A → FaultyProgram wanted bytes f → ⊥

-- a text has one first fault at most
abbrev pub OneProgramFault : Type 0
OneProgramFault =
    (wanted : Wanted) (bytes : List ℕ) (f g : ProgramFault) → FaultyProgram wanted bytes f → FaultyProgram wanted bytes g → f ≡ g

-- a text is a program or has a first fault
abbrev pub ProgramOrFault : Type 0
ProgramOrFault =
    (wanted : Wanted) (bytes : List ℕ) →
    OfProgram wanted bytes (λ tree t A. Unit {0}) ⊎ ((f : ProgramFault) × FaultyProgram wanted bytes f)

-- so a text is one program or has one first fault, and never both
pub record OneProgram : Type 0 where
  pub one_term : OneTerm
  pub one_fault : OneProgramFault
  pub not_both : NoFault
  pub either : ProgramOrFault

-- moves in any order that are finished within a budget say what the program means on whose net they were made
abbrev pub MovesTell : Type 0
MovesTell =
    (t : TermTree) → HasType [] t nat → (log : List ℕ) (S : MapState) → LeadsToMap (net_of t) log S → (budget : ℕ) →
    Finished S.answered log budget → Tells (Means t) (net_of t) budget S.answered (length log)

-- and so does each run of the net by so many workers
abbrev pub RunsTell : Type 0
RunsTell =
    (t : TermTree) → HasType [] t nat → (workers budget : ℕ) (answer : Option Val) (log : List Entry) →
    IsRun (net_of t) workers budget answer log → (workers ≡ 1 → IsFirstWorkers (net_of t) budget log) →
    IsProgramRun (Means t) (net_of t) workers budget answer log
