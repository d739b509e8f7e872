-- What a program means and what runs for it, by name or by value; what a run says of it; and what is a run of it.
-- What a run of a net is stands in `net_runs`, with the order of its moves left open where there are several workers; so what is said of
-- the program doesn't depend on it.
use Rattle.std.specs.Prelude.{◌≡◌, ℕ, ◌≤◌, List, length, Option, None, Some}
use Rattle.pcf_values.specs.declared.val.Val.{Val}
use Rattle.pcf_values.specs.Terms.{TermTree}
use Rattle.cbn_meaning.specs.Meaning.{Means}
use Rattle.cbv_terms.specs.ByValue.{MeansByValue}
use Rattle.cbv_terms.specs.Translation.{translated}
use Rattle.net_build.specs.Nets.{NetTree}
use Rattle.net_build.specs.NetOf.{net_of}
use Rattle.adequacy_laws.specs.Questions.{Length}
use Rattle.adequacy_laws.specs.Finished.{Beyond}
use Rattle.schedule_log.specs.declared.entry.Entry.{Entry}
use Rattle.net_runs.specs.IsRun.{IsRun, IsFirstWorkers}
use Rattle.program_runs.specs.declared.calling.Calling.{Calling}
use Rattle.program_runs.specs.declared.calling.Calling.TheVariants.{ByName, ByValue}

-- what a term means, by name or by value
abbrev pub meaning : Calling → TermTree → Val → Type 0
meaning ByName t = Means t
meaning ByValue t = MeansByValue t

-- the term that runs for it: itself, or its translation
abbrev pub run_as : Calling → TermTree → TermTree
run_as ByName t = t
run_as ByValue t = translated t

-- the net on which it is run
abbrev pub net_run : Calling → TermTree → NetTree
net_run calling t = net_of (run_as calling t)

-- What an answer, or none, and a number of moves within a budget say of a program of this meaning and its net: an answer is what the
-- program means, and the net is as long as there were moves; no answer says that the net's length is absent or above the budget, and that
-- the budget was spent.
abbrev pub Tells : (Val → Type 0) → NetTree → ℕ → Option Val → ℕ → Type 0
Tells means net budget (Some v) moves = means v × Length net v moves × (moves ≤ budget)
Tells means net budget None moves = Beyond net budget × (moves ≡ budget)

-- The log is a run of the net of a program of this meaning, by so many workers within a budget of moves, and this is its answer, or none.
pub record IsProgramRun (means : Val → Type 0) (net : NetTree) (workers budget : ℕ) (answer : Option Val) (log : List Entry) : Type 0 where
  pub is_run : IsRun net workers budget answer log
  -- one worker moves alone, under the number of the first; so the whole log is known
  pub alone : workers ≡ 1 → IsFirstWorkers net budget log
  pub tells : Tells means net budget answer (length log)
