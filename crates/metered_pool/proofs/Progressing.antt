-- Readings with the number of moves behind them, which is no less than what was booked.
use Rattle.std.proofs.Common.{◌≡◌, ℕ, ◌≤◌, List, [], ◌∷◌, ◌++◌, length, subst, sym, ap, ◌∙◌, length-append}
use Rattle.std.proofs.Common.{arith}
use Rattle.std.specs.Prelude.{All, Contains}
use Rattle.std.specs.List.Sorted.{IsNonDecreasing}
use Rattle.std.proofs.lemmas.List.Elements.{All-contains, All-weaker, All-tail}
use Rattle.std.proofs.lemmas.List.Sorted.{IsNonDecreasingBy-drop}
use Rattle.schedule_log.specs.Logs.{by}
use Rattle.token_pool.specs.declared.ending.Ended.{Ended}
use Rattle.token_pool.specs.Pools.{Pool}
use Rattle.token_pool.specs.Ending.{remaining, Finishes}
use Rattle.progress_meter.specs.Meters.{RisesFromZero, AreReadingsOf}
use Rattle.progress_meter.specs.Last.{last_of}
use Rattle.progress_meter.proofs.Lists.{last_of-push, never_down-push, at_most_last}
use Rattle.metered_pool.specs.Progress.{IsProgress}

-- the readings behind the first never go down
pub tail_rises : (published readings items : List ℕ) → readings ≡ 0 ∷ items → AreReadingsOf published readings →
    IsNonDecreasing items
tail_rises published readings items is are = IsNonDecreasingBy-drop (λ x. x) 1 (0 ∷ items) (subst IsNonDecreasing is are.0)

-- and none of them is above what was published last
pub tail_within : (published readings items : List ℕ) → readings ≡ 0 ∷ items → RisesFromZero published →
    AreReadingsOf published readings → All (λ n. n ≤ last_of published) items
tail_within published readings items is rises are =
    let most = last_of published in
    let all : All (λ n. n ≤ most) published = at_most_last published rises.rises in
    let within : All (λ n. n ≤ most) readings =
    All-weaker (Contains published) (λ n. n ≤ most) (λ x there. All-contains (λ n. n ≤ most) published x all there) readings
    are.1 in
    All-tail (λ n. n ≤ most) 0 items (subst (All (λ n. n ≤ most)) is within)

-- the last of numbers none of which is above a bound isn't above it
last_within : (most : ℕ) (xs : List ℕ) → All (λ x. x ≤ most) xs → last_of xs ≤ most
last_within most [] all = omega arith
last_within most (x ∷ []) all = all 0 0 (omega arith)
last_within most (x ∷ y ∷ ys) all = last_within most (y ∷ ys) (All-tail (λ n. n ≤ most) x (y ∷ ys) all)

-- sixteen readings that never go down, none above the moves that are booked, with at least as many moves behind them
pub progresses : (booked moves : ℕ) (readings numbers : List ℕ) → length readings ≡ 16 → IsNonDecreasing readings →
    All (λ n. n ≤ booked) readings
    → booked ≤ moves → numbers ≡ readings ++ moves ∷ [] → IsProgress moves numbers
progresses booked moves readings numbers many rises within more is =
    let below = last_within booked readings within in
    record {
      many = ap length is ∙ (let n = length-append readings (moves ∷ []) in omega (arith, n, many));
      never_down = subst IsNonDecreasing (sym is) (never_down-push readings moves rises (omega (arith, below, more)));
      ends = ap last_of is ∙ last_of-push readings moves;
    }

-- a finished log has the pool's moves, and others behind them
pub longer : (p : Pool) (e : Ended) → Finishes p e → length p.log ≤ length e.log.entries
longer p e f =
    let more = by p.workers (remaining p.net p.state p.budget p.log) in
    let n = ap length f.log in
    omega (arith, n, length-append p.log more)
