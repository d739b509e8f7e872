-- What a run that is finished within a budget tells of its net, and of the program whose net it is, in any order and by any number of
-- workers: the statements of `law_finished` and `law_enough_budget`.
use Rattle.std.specs.Prelude.{◌≡◌, ◌≤◌, ◌↔◌, ℕ, List, length, Option, Some, None}
use Rattle.pcf_values.specs.declared.val.Val.{Val}
use Rattle.pcf_values.specs.Terms.{TermTree}
use Rattle.cbn_meaning.specs.Meaning.{Means}
use Rattle.net_build.specs.Nets.{NetTree}
use Rattle.net_build.specs.NetOf.{net_of}
use Rattle.interleave_laws.specs.States.{State}
use Rattle.interleave_laws.specs.Runs.{LeadsTo, InEveryState}
use Rattle.interleave_laws.specs.Finished.{Finished}
use Rattle.interleave_laws.specs.OneWorker.{one}
use Rattle.interleave_laws.specs.Maps.{MapState, LeadsToMap}
use Rattle.interleave_laws.specs.MapRuns.{InEveryMapState}
use Rattle.adequacy_laws.specs.Questions.{Length}
use Rattle.adequacy_laws.specs.Adequacy.{OfEveryProgram}
use Rattle.adequacy_laws.specs.Finished.{Within, Beyond}

-- what a log answers, or that it doesn't, tells whether the net's length is within the budget
pub record TellsLength (net : NetTree) (log : List ℕ) (answered : Option Val) (budget : ℕ) : Type 0 where
  -- it answers a value exactly where that is the net's and the length is within the budget
  pub answers : (v : Val) → (answered ≡ Some v) ↔ Within net budget v
  -- and then it is as long as the net, within the budget
  pub as_long : (v : Val) → answered ≡ Some v → Length net v (length log) × (length log ≤ budget)
  -- it doesn't answer exactly where the length is absent or above the budget
  pub unanswered : (answered ≡ None) ↔ Beyond net budget
  -- and then it has as many moves as the budget allows
  pub spent : answered ≡ None → length log ≡ budget

-- what a log on the program's net answers, or that it doesn't, tells what the program means
pub record TellsMeaning (m : TermTree) (log : List ℕ) (answered : Option Val) (budget : ℕ) : Type 0 where
  -- it answers a value exactly where the program means it and the net's length is within the budget
  pub answers : (v : Val) → (answered ≡ Some v) ↔ (Means m v × Within (net_of m) budget v)
  -- and then it is as long as the net, within the budget
  pub as_long : (v : Val) → answered ≡ Some v → Length (net_of m) v (length log) × (length log ≤ budget)
  -- it doesn't answer exactly where the length is absent or above the budget
  pub unanswered : (answered ≡ None) ↔ Beyond (net_of m) budget
  -- and then it has as many moves as the budget allows
  pub spent : answered ≡ None → length log ≡ budget

-- every finished run of a sound net tells its length
abbrev pub FinishedTells : Type 0
FinishedTells = InEveryState (λ net log S. (budget : ℕ) → Finished S.answered log budget → TellsLength net log S.answered budget)

-- the same where states are finite maps
abbrev pub MapFinishedTells : Type 0
MapFinishedTells = InEveryMapState (λ net log S. (budget : ℕ) → Finished S.answered log budget →
    TellsLength net log S.answered budget)

-- every finished run of a program's net tells its meaning, whatever the order of moves was
abbrev pub FinishedMeans : Type 0
FinishedMeans = OfEveryProgram (λ m.
    (log : List ℕ) (S : State) → LeadsTo (net_of m) log S → (budget : ℕ) → Finished S.answered log budget →
    TellsMeaning m log S.answered budget)

-- the same where states are finite maps
abbrev pub MapFinishedMeans : Type 0
MapFinishedMeans = OfEveryProgram (λ m.
    (log : List ℕ) (S : MapState) → LeadsToMap (net_of m) log S → (budget : ℕ) → Finished S.answered log budget →
    TellsMeaning m log S.answered budget)

-- and so does the run of one worker, which is finished by what it is
abbrev pub OneMeans : Type 0
OneMeans = OfEveryProgram (λ m.
    (log : List ℕ) (S : MapState) → LeadsToMap (net_of m) log S → (budget : ℕ) → log ≡ one (net_of m) budget →
    TellsMeaning m log S.answered budget)

-- a program that means a value has a length, and every run that is finished within a budget of that length or more answers the value
abbrev pub EnoughBudget : Type 0
EnoughBudget = OfEveryProgram (λ m. (v : Val) → Means m v →
    (n : ℕ) × Length (net_of m) v n × (
    (log : List ℕ) (S : MapState) → LeadsToMap (net_of m) log S → (budget : ℕ) → Finished S.answered log budget →
    n ≤ budget →
    S.answered ≡ Some v))
