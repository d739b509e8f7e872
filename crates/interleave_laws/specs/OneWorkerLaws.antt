-- What holds of the one worker's run: the statements of `law_one_worker`.
-- The run of a shorter budget is a prefix of that of a longer one, so that a worker that has made some moves of it can go on. From any
-- state that a log leads to, whoever made its moves, the least live tickets lead on to an answer or to the budget.
use Rattle.std.specs.Prelude.{◌≡◌, ◌≤◌, ◌<◌, ◌+◌, ◌++◌, ℕ, suc, List, [], ◌∷◌, length, map, Some, None}
use Rattle.pcf_values.specs.declared.val.Val.{Val}
use Rattle.net_build.specs.Nets.{NetTree}
use Rattle.move_rules.specs.Places.{TokenTree}
use Rattle.move_rules.specs.Walks.{Walks}
use Rattle.interleave_laws.specs.States.{Tokens, State, step}
use Rattle.interleave_laws.specs.Runs.{LeadsTo, Runs, InEveryRun}
use Rattle.interleave_laws.specs.Finished.{Finished}
use Rattle.interleave_laws.specs.OneWorker.{least_from, one_from, one}

-- the log is the one worker's
abbrev pub IsOneWorkers : NetTree → List ℕ → Type 0
IsOneWorkers net log = one net (length log) ≡ log

-- a live ticket with no live one below it
pub record Least (S : State) (i : ℕ) : Type 0 where
  pub live : (x : TokenTree) × (S.tokens i ≡ Some x)
  pub below : (j : ℕ) → j < i → S.tokens j ≡ None

-- at each place of its log the one worker moves the least live ticket
abbrev pub OneIsLeast : Type 0
OneIsLeast = (net : NetTree) (b : ℕ) (S : State) (a c : List ℕ) (i : ℕ) → one net b ≡ a ++ i ∷ c → LeadsTo net a S →
    Least S i

-- the one worker's log leads to a state
abbrev pub OneLeads : Type 0
OneLeads = (net : NetTree) → Runs net → (b : ℕ) → (S : State) × LeadsTo net (one net b) S

-- and is finished within its budget
abbrev pub OneFinished : Type 0
OneFinished = (net : NetTree) → Runs net → (b : ℕ) (S : State) → LeadsTo net (one net b) S → Finished S.answered (one net b) b

-- what a log of the one worker begins with is a log of the one worker
abbrev pub OnePrefix : Type 0
OnePrefix = (net : NetTree) (b : ℕ) (a c : List ℕ) → one net b ≡ a ++ c → IsOneWorkers net a

-- a log of the one worker with the least live ticket behind it is the one worker's log of one move more
abbrev pub OneNext : Type 0
OneNext = InEveryRun (λ net log S. (i : ℕ) → IsOneWorkers net log → Least S i → one net (suc (length log)) ≡ log ++ i ∷ [])

-- and with what the one worker makes of the state that it leads to, it is the one worker's log of so many moves more
abbrev pub OneContinues : Type 0
OneContinues = (net : NetTree) (log : List ℕ) (S : State) → LeadsTo net log S → IsOneWorkers net log → (b : ℕ) →
    one net (length log + b) ≡ log ++ one_from net S b

-- and once it answers, it is the one worker's log with any higher bound
abbrev pub OneEnds : Type 0
OneEnds = InEveryRun (λ net log S. (v : Val) → IsOneWorkers net log → S.answered ≡ Some v → (b : ℕ) → length log ≤ b →
    one net b ≡ log)

-- the least live ticket is the least one after its own step too, as long as it lives
abbrev pub LeastStays : Type 0
LeastStays = InEveryRun (λ net log S. (T : State) (i : ℕ) (y : TokenTree) → Least S i → step net S i ≡ Some T →
    T.tokens i ≡ Some y → Least T i)

-- a log of the one worker with a walk of the least live ticket behind it is the one worker's
abbrev pub OneWalks : Type 0
OneWalks =
    InEveryRun (λ net log S. (trail : List ℕ) (i : ℕ) (x y : TokenTree) → IsOneWorkers net log → Least S i →
    S.tokens i ≡ Some x → Walks net x trail y → IsOneWorkers net (log ++ map (λ n. i) trail))

-- from every state that a log leads to, the one worker goes on to an answer, or as far as it may
abbrev pub OneFinishes : Type 0
OneFinishes = InEveryRun (λ net log S. (b : ℕ) → (T : State) × LeadsTo net (log ++ one_from net S b) T ×
    Finished T.answered (one_from net S b) b)

-- i is the first live ticket from k on
abbrev pub FirstFrom : Tokens → ℕ → ℕ → Type 0
FirstFrom f k i = (k ≤ i) × ((x : TokenTree) × (f i ≡ Some x)) × ((j : ℕ) → k ≤ j → j < i → f j ≡ None)

-- what the search for the least live ticket finds is the first one
abbrev pub SearchFinds : Type 0
SearchFinds = (f : Tokens) (n k i : ℕ) → least_from f k n ≡ Some i → FirstFrom f k i

-- and where it finds none, none of the tickets is live
abbrev pub SearchMisses : Type 0
SearchMisses = (f : Tokens) (n k : ℕ) → least_from f k n ≡ None → (j : ℕ) → k ≤ j → j < k + n → f j ≡ None
