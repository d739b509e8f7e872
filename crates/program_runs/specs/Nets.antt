-- The nets on which programs run: that of a text's term, or that of its translation by value.
use Rattle.std.specs.Prelude.{◌≡◌, ℕ, List, [], length, Ok}
use Rattle.pcf_values.specs.declared.val.Val.{Val}
use Rattle.pcf_values.specs.Terms.{TyTree, nat, TermTree}
use Rattle.pcf_values.specs.Typing.{HasType}
use Rattle.pcf_values.specs.Named.{NamedTree}
use Rattle.pcf_types.specs.Checking.{type_of}
use Rattle.cbn_meaning.specs.Meaning.{Means}
use Rattle.net_build.specs.Nets.{NetTree}
use Rattle.interleave_laws.specs.Maps.{MapState, LeadsToMap}
use Rattle.interleave_laws.specs.Runs.{Runs}
use Rattle.interleave_laws.specs.Finished.{Finished}
use Rattle.program_runs.specs.declared.calling.Calling.{Calling}
use Rattle.program_runs.specs.Programs.{WillDo, OfProgram, wanted_by_run}
use Rattle.program_runs.specs.Runs.{meaning, run_as, net_run, Tells}

-- This is the net on which the term runs, which is of type `nat`, or whose translation is. The net runs, and moves on it that are finished
-- within a budget say what the term means, in whatever order they were made.
pub record RunsAs (calling : Calling) (t : TermTree) (net : NetTree) : Type 0 where
  pub typed : HasType [] (run_as calling t) nat
  pub net_is : net ≡ net_run calling t
  pub runs : Runs net
  pub tells : (log : List ℕ) (S : MapState) → LeadsToMap net log S → (budget : ℕ) → Finished S.answered log budget →
      Tells (meaning calling t) net budget S.answered (length log)

-- this is the net on which the text's program runs
abbrev pub IsNetFor : Calling → List ℕ → NetTree → Type 0
IsNetFor calling bytes net = OfProgram (wanted_by_run calling) bytes (λ tree t A. RunsAs calling t net)

-- this is the net on which the tree's program runs
pub record IsNetOfTree (calling : Calling) (tree : NamedTree) (net : NetTree) : Type 0 where
  pub term : TermTree
  pub accepted : type_of [] tree ≡ Ok (term, nat)
  pub will_do : WillDo (wanted_by_run calling) tree nat
  pub runs : RunsAs calling term net

-- this program runs for the tree's: it means by name what that one means
pub record IsRunner (calling : Calling) (tree : NamedTree) (p : TermTree × TyTree) : Type 0 where
  pub term : TermTree
  pub accepted : type_of [] tree ≡ Ok (term, nat)
  pub will_do : WillDo (wanted_by_run calling) tree nat
  pub is : p ≡ (run_as calling term, nat)
  pub typed : HasType [] (run_as calling term) nat
  pub means : (v : Val) → Means (run_as calling term) v → meaning calling term v
