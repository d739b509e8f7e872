-- How a tally grows by one move, or by a run, and what its counts add up to.
use Rattle.std.proofs.Common.{◌≡◌, ℕ, zero, suc, ◌+◌, ◌<◌, ◌≤◌, List, [], ◌∷◌, length, take, get_or, refl, sym}
use Rattle.std.proofs.Common.{ap, ◌∙◌, arith}
use Rattle.std.specs.Prelude.{set, replicate, cond, false, nat_eq, sum}
use Rattle.std.proofs.lemmas.Bool.{eq-eqb, ne_eqb}
use Rattle.std.proofs.lemmas.List.{take_all}
use Rattle.std.proofs.lemmas.List.Folds.{sum_by-replicate}
use Rattle.std.proofs.lemmas.List.Sums.{sum_by_more, sum_by-set}
use Rattle.schedule_log.specs.declared.entry.Entry.{Entry}
use Rattle.schedule_log.specs.KeptRuns.{Each, MovesSeen, spread}
use Rattle.schedule_log.specs.Tally.{tally_of, tally_from, tally}
use Rattle.schedule_log.proofs.Counted.{count_fits}
use Rattle.schedule_log.proofs.RunByRun.{run_has, tally_run_more}
use Rattle.goi_reports.specs.Booked.{BookedWithin}

-- the second list has so many moves more, which this worker booked
abbrev More : ℕ → List Entry → List Entry → ℕ → Type 0
More c es fs worker = (w : ℕ) → tally_of fs w ≡ tally_of es w + cond (nat_eq worker w) c 0

module _ (c : ℕ) (es fs : List Entry) where
  -- any other worker's count stays
  same_count : (worker w : ℕ) → More c es fs worker → (worker ≡ w → ⊥) → tally_of fs w ≡ tally_of es w
  same_count worker w more other =
      let e : nat_eq worker w ≡ false = ne_eqb worker w other in
      let h : tally_of fs w ≡ tally_of es w + cond (nat_eq worker w) c 0 = more w in
      let k : tally_of es w + cond (nat_eq worker w) c 0 ≡ tally_of es w + 0 = ap (λ b. tally_of es w + cond b c 0) e in
      h ∙ k ∙ omega arith

  -- its worker's count grows by them
  own_count : (worker w : ℕ) → More c es fs worker → worker ≡ w → tally_of fs w ≡ tally_of es w + c
  own_count worker w more same = more w ∙ ap (λ b. tally_of es w + cond b c 0) (eq-eqb worker w same)

  -- the counts of the workers behind it stay
  same_behind : (worker w n : ℕ) → More c es fs worker → worker < w → tally_from fs w n ≡ tally_from es w n
  same_behind worker w zero more h = refl
  same_behind worker w (suc n) more h =
      let p : tally_of fs w ≡ tally_of es w = same_count worker w more (λ e. omega (arith, h, e)) in
      let q : tally_from fs (suc w) n ≡ tally_from es (suc w) n = same_behind worker (suc w) n more (omega (arith, h)) in
      λ i. p i ∷ q i

  -- the count of the worker who is j behind w grows by them, and the others stay
  one_set : (worker w j n : ℕ) → More c es fs worker → worker ≡ w + j → j < n →
      tally_from fs w n ≡ set (tally_from es w n) j (tally_of es worker + c)
  one_set worker w zero zero more e h = absurd (omega (arith, h))
  one_set worker w (suc j) zero more e h = absurd (omega (arith, h))
  one_set worker w zero (suc n) more e h =
      let s : worker ≡ w = e ∙ omega arith in
      let p : tally_of fs w ≡ tally_of es worker + c = own_count worker w more s ∙ ap (λ v. tally_of es v + c) (sym s) in
      let q : tally_from fs (suc w) n ≡ tally_from es (suc w) n = same_behind worker (suc w) n more (omega (arith, s)) in
      λ i. p i ∷ q i
  one_set worker w (suc j) (suc n) more e h =
      let p : tally_of fs w ≡ tally_of es w = same_count worker w more (λ s. omega (arith, s, e)) in
      let q : tally_from fs (suc w) n ≡ set (tally_from es (suc w) n) j (tally_of es worker + c) =
      one_set worker (suc w) j n more (omega (arith, e)) (omega (arith, h)) in
      λ i. p i ∷ q i

-- A tally has a count for each worker and the finisher.
from_length : (es : List Entry) (w n : ℕ) → length (tally_from es w n) ≡ n
from_length es w zero = refl
from_length es w (suc n) = ap suc (from_length es (suc w) n)

pub tally_length : (es : List Entry) (workers : ℕ) → length (tally es workers) ≡ workers + 1
tally_length es workers = from_length es 0 (suc workers) ∙ omega arith

-- The count that is j behind the first is that of the worker j behind w.
from_at : (es : List Entry) (worker w j n d : ℕ) → worker ≡ w + j → j < n → get_or (tally_from es w n) j d ≡ tally_of es worker
from_at es worker w zero zero d e h = absurd (omega (arith, h))
from_at es worker w (suc j) zero d e h = absurd (omega (arith, h))
from_at es worker w zero (suc n) d e h = let s : worker ≡ w = e ∙ omega arith in ap (tally_of es) (sym s)
from_at es worker w (suc j) (suc n) d e h = from_at es worker (suc w) j n d (omega (arith, e)) (omega (arith, h))

-- The count at a worker's place is that worker's.
pub tally_at : (es : List Entry) (workers worker d : ℕ) → worker ≤ workers →
    get_or (tally es workers) worker d ≡ tally_of es worker
tally_at es workers worker d h = from_at es worker 0 worker (suc workers) d (omega arith) (omega (arith, h))

-- The tally of no moves is all zeros.
none_from : (w n : ℕ) → tally_from [] w n ≡ replicate n 0
none_from w zero = refl
none_from w (suc n) = ap (λ cs. 0 ∷ cs) (none_from (suc w) n)

pub tally_none : (workers : ℕ) → tally [] workers ≡ replicate (suc workers) 0
tally_none workers = none_from 0 (suc workers)

-- The moves up to the next one are one more, which its worker booked.
one_more : (es : List Entry) (i : ℕ) (d : Entry) → i < length es → More 1 (take i es) (take (i + 1) es) (get_or es i d).worker
one_more es i d h w = sum_by_more (λ (e : Entry). cond (nat_eq e.worker w) 1 0) es i d h

-- More moves of one worker raise its count.
tally_more : (c : ℕ) (es fs : List Entry) (workers worker : ℕ) → More c es fs worker → worker ≤ workers →
    tally fs workers ≡ set (tally es workers) worker (tally_of es worker + c)
tally_more c es fs workers worker more within =
    one_set c es fs worker 0 worker (suc workers) more (omega arith) (omega (arith, within))

-- The counts of no moves add up to 0.
sum_none : (workers : ℕ) → sum (tally [] workers) ≡ 0
sum_none workers = ap sum (tally_none workers) ∙ sum_by-replicate (λ x. x) (suc workers) 0 ∙ omega arith

-- One more move adds one to the sum.
sum_more : (es : List Entry) (workers i : ℕ) (d : Entry) → i < length es → (get_or es i d).worker ≤ workers →
    sum (tally (take (i + 1) es) workers) ≡ sum (tally (take i es) workers) + 1
sum_more es workers i d h within =
    let worker = (get_or es i d).worker in
    let before = tally (take i es) workers in
    let long : length before ≡ workers + 1 = tally_length (take i es) workers in
    let at : get_or before worker 0 ≡ tally_of (take i es) worker = tally_at (take i es) workers worker 0 within in
    let grown : sum (set before worker (tally_of (take i es) worker + 1)) + get_or before worker 0
    ≡ sum before + (tally_of (take i es) worker + 1) =
    sum_by-set (λ x. x) before worker (tally_of (take i es) worker + 1) 0 (omega (arith, long, within)) in
    ap sum (tally_more 1 (take i es) (take (i + 1) es) workers worker (one_more es i d h) within) ∙ omega (arith, grown, at)

-- The counts of the first i moves add up to i.
sum_so_far : (es : List Entry) (workers : ℕ) (d : Entry) → BookedWithin workers es → (i : ℕ) → i ≤ length es →
    sum (tally (take i es) workers) ≡ i
sum_so_far es workers d within zero h = sum_none workers
sum_so_far es workers d within (suc i) h =
    let less : i < length es = omega (arith, h) in
    let next : suc i ≡ i + 1 = omega arith in
    ap (λ k. sum (tally (take k es) workers)) next
    ∙ sum_more es workers i d less (within i d less)
    ∙ ap (λ s. s + 1) (sum_so_far es workers d within i (omega (arith, less)))
    ∙ sym next

-- What is known of the counts of the moves of the first i runs when the next run is counted.
pub record Next (counts : List ℕ) (rs : List MovesSeen) (workers i : ℕ) (worker count : ℕ) : Type 0 where
  -- its worker has a place among the counts
  pub place : worker < length counts
  -- there is room for its moves in that count
  pub fits : (z : ℕ) → get_or counts worker z + count ≤ length (spread rs)
  -- with that count raised they are the counts with that run
  pub raised : (old : ℕ) → old ≡ get_or counts worker old →
      set counts worker (old + count) ≡ tally (spread (take (i + 1) rs)) workers

-- The moves of the next run, which one of so many workers booked, are counted at its worker's place.
pub next_run : (counts : List ℕ) (rs : List MovesSeen) (workers i : ℕ) (d : MovesSeen) → i < length rs → Each rs →
    BookedWithin workers (spread rs) → counts ≡ tally (spread (take i rs)) workers →
    Next counts rs workers i (get_or rs i d).worker (get_or rs i d).count
next_run counts rs workers i d less each booked counted =
    let worker = (get_or rs i d).worker in
    let count = (get_or rs i d).count in
    let before = spread (take i rs) in
    let within : worker ≤ workers = run_has (λ (e : Entry). e.worker ≤ workers) rs i d less each booked in
    let is : (z : ℕ) → get_or counts worker z ≡ tally_of before worker =
    λ z. ap (λ cs. get_or cs worker z) counted ∙ tally_at before workers worker z within in
    record {
      place = omega (arith, within, ap length counted, tally_length before workers);
      fits = λ z. let f = count_fits rs i d worker (tally_of before worker) less refl refl in omega (arith, f, is z);
      raised = λ old e. ap (λ c. set counts worker (c + count)) (e ∙ is old)
          ∙ ap (λ cs. set cs worker (tally_of before worker + count)) counted
          ∙ sym (tally_more count before (spread (take (i + 1) rs)) workers worker (λ w. tally_run_more rs i d w less) within);
    }

-- The counts add up to the number of moves.
pub adds_up : (es : List Entry) (workers : ℕ) → BookedWithin workers es → sum (tally es workers) ≡ length es
adds_up [] workers within = sum_none workers
adds_up (e ∷ es) workers within =
    ap (λ fs. sum (tally fs workers)) (sym (take_all (length (e ∷ es)) (e ∷ es) (omega arith)))
    ∙ sum_so_far (e ∷ es) workers e within (length (e ∷ es)) (omega arith)
