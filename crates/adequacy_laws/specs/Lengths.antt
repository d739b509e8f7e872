-- Equal lengths, on every sound net: whatever the order of the moves, a log answers exactly where it is as long as the net.
-- These speak of every log, and so of the list of tickets of one worker and of many. They compare a machine that forks, keeps answers
-- and joins with `Length`, in which there are no tokens. What a program means is no part of them, and neither is that the net runs.
use Rattle.std.specs.Prelude.{◌≡◌, ◌≤◌, ◌↔◌, ℕ, List, length, Option, Some, None}
use Rattle.pcf_values.specs.declared.val.Val.{Val}
use Rattle.net_build.specs.Nets.{NetTree}
use Rattle.interleave_laws.specs.Runs.{InEveryState}
use Rattle.interleave_laws.specs.MapRuns.{InEveryMapState}
use Rattle.adequacy_laws.specs.Questions.{Join, Counts, Length}

-- more depth changes no result, so a net has one value and one count at most, whatever a join counts
abbrev pub OneCount : Type 0
OneCount = (join : Join) (net : NetTree) (v w : Val) (n m : ℕ) → Counts join net v n → Counts join net w m → (v ≡ w) × (n ≡ m)

-- so it has one value and one length
abbrev pub OneLength : Type 0
OneLength = (net : NetTree) (v w : Val) (n m : ℕ) → Length net v n → Length net w m → (v ≡ w) × (n ≡ m)

-- what a log answers, or that it doesn't answer yet, agrees with the net's length
pub record AgreesWithLength (net : NetTree) (log : List ℕ) (answered : Option Val) : Type 0 where
  -- it answers a value exactly where that is the net's value and the log is as long as the net
  pub answers : (v : Val) → (answered ≡ Some v) ↔ Length net v (length log)
  -- it is no longer than the net
  pub no_longer : (v : Val) (n : ℕ) → Length net v n → length log ≤ n
  -- where the net has no length, it doesn't answer
  pub unanswered : ((v : Val) (n : ℕ) → Length net v n → ⊥) → answered ≡ None

-- every log does
abbrev pub EqualLengths : Type 0
EqualLengths = InEveryState (λ net log S. AgreesWithLength net log S.answered)

-- and so it does where states are finite maps, as a running machine keeps them
abbrev pub MapEqualLengths : Type 0
MapEqualLengths = InEveryMapState (λ net log S. AgreesWithLength net log S.answered)
