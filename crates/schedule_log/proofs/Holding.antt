-- Where a move stands in runs.
use Rattle.std.proofs.Common.{◌≡◌, ℕ, zero, suc, ◌+◌, ◌-◌, ◌<◌, ◌≤◌, List, [], ◌∷◌, ◌++◌, length, get_or, take, drop, refl, ap, ◌∙◌, arith}
use Rattle.std.specs.Prelude.{Some, None, replicate}
use Rattle.std.proofs.lemmas.List.{length-append, length-replicate, take_all, take_more}
use Rattle.schedule_log.specs.KeptRuns.{MovesSeen, spread, move_of, IsHeld}
use Rattle.schedule_log.specs.declared.entry.Entry.{Entry}
use Rattle.schedule_log.specs.LogsSeen.{ticket_at, worker_at}
use Rattle.schedule_log.proofs.Spread.{spread_more, spread_append}

-- the runs before a place, its run and those behind it
pub split : (rs : List MovesSeen) (i : ℕ) (d : MovesSeen) → i < length rs → rs ≡ take i rs ++ get_or rs i d ∷ drop (suc i) rs
split [] i d u = absurd (omega (arith, u))
split (r ∷ rs) zero d u = refl
split (r ∷ rs) (suc i) d u = ap (λ (l : List MovesSeen). r ∷ l) (split rs i d (omega (arith, u)))

-- how many moves the runs up to a place have
pub longer : (rs : List MovesSeen) (i : ℕ) (d : MovesSeen) → i < length rs →
    length (spread (take (i + 1) rs)) ≡ length (spread (take i rs)) + (get_or rs i d).count
longer rs i d u =
    let a = ap (λ (l : List MovesSeen). length (spread l)) (take_more rs i d u) in
    let b = ap (λ (l : List Entry). length l) (spread_more (take i rs) (get_or rs i d)) in
    let c = length-append (spread (take i rs)) (replicate (get_or rs i d).count (move_of (get_or rs i d))) in
    let e = length-replicate (get_or rs i d).count (move_of (get_or rs i d)) in omega (arith, a, b, c, e)

-- the move is one of this run
pub found : (rs : List MovesSeen) (i : ℕ) (d : MovesSeen) (k p : ℕ) → i < length rs → k < (get_or rs i d).count →
    k + length (spread (take i rs)) ≡ p → IsHeld rs p (get_or rs i d) (p - k)
found rs i d k p u h e = record {
  before = take i rs;
  after = drop (suc i) rs;
  runs_are = split rs i d u;
  begins = omega (arith, e);
  from = omega (arith, e);
  below = omega (arith, e, h);
}

-- it is behind this run
pub goes_on : (rs : List MovesSeen) (i : ℕ) (d : MovesSeen) (k m p : ℕ) → i < length rs → k ≡ (get_or rs i d).count + m →
    k + length (spread (take i rs)) ≡ p → m + length (spread (take (i + 1) rs)) ≡ p
goes_on rs i d k m p u h e = let a = longer rs i d u in omega (arith, a, h, e)

-- there is no run left
pub none_left : (rs : List MovesSeen) (i k p : ℕ) → length rs ≤ i → k + length (spread (take i rs)) ≡ p → length (spread rs) ≤ p
none_left rs i k p u e =
    let a = ap (λ (l : List MovesSeen). length (spread l)) (take_all i rs u) in omega (arith, a, e)

-- the move at a place among equal ones
ticket_among : (es : List Entry) (n : ℕ) (e : Entry) (fs : List Entry) (p : ℕ) → length es ≤ p → p < length es + n →
    ticket_at (es ++ (replicate n e ++ fs)) p ≡ Some e.ticket
ticket_among [] zero e fs p u w = absurd (omega (arith, w))
ticket_among [] (suc n) e fs zero u w = refl
ticket_among [] (suc n) e fs (suc p) u w = ticket_among [] n e fs p (omega arith) (omega (arith, w))
ticket_among (x ∷ es) n e fs zero u w = absurd (omega (arith, u))
ticket_among (x ∷ es) n e fs (suc p) u w = ticket_among es n e fs p (omega (arith, u)) (omega (arith, w))

worker_among : (es : List Entry) (n : ℕ) (e : Entry) (fs : List Entry) (p : ℕ) → length es ≤ p → p < length es + n →
    worker_at (es ++ (replicate n e ++ fs)) p ≡ Some e.worker
worker_among [] zero e fs p u w = absurd (omega (arith, w))
worker_among [] (suc n) e fs zero u w = refl
worker_among [] (suc n) e fs (suc p) u w = worker_among [] n e fs p (omega arith) (omega (arith, w))
worker_among (x ∷ es) n e fs zero u w = absurd (omega (arith, u))
worker_among (x ∷ es) n e fs (suc p) u w = worker_among es n e fs p (omega (arith, u)) (omega (arith, w))

-- the ticket of a move is that of the run that holds it
pub ticket_held : (rs : List MovesSeen) (p : ℕ) (r : MovesSeen) (b : ℕ) → IsHeld rs p r b → ticket_at (spread rs) p ≡ Some r.ticket
ticket_held rs p r b h =
    ap (λ (l : List MovesSeen). ticket_at (spread l) p) h.runs_are
    ∙ ap (λ (l : List Entry). ticket_at l p) (spread_append h.before (r ∷ h.after))
    ∙ ticket_among (spread h.before) r.count (move_of r) (spread h.after) p (omega (arith, h.begins, h.from))
    (omega (arith, h.begins, h.below))

-- and so is its worker
pub worker_held : (rs : List MovesSeen) (p : ℕ) (r : MovesSeen) (b : ℕ) → IsHeld rs p r b → worker_at (spread rs) p ≡ Some r.worker
worker_held rs p r b h =
    ap (λ (l : List MovesSeen). worker_at (spread l) p) h.runs_are
    ∙ ap (λ (l : List Entry). worker_at l p) (spread_append h.before (r ∷ h.after))
    ∙ worker_among (spread h.before) r.count (move_of r) (spread h.after) p (omega (arith, h.begins, h.from))
    (omega (arith, h.begins, h.below))

-- there is none past the end
pub ticket_past : (es : List Entry) (i : ℕ) → length es ≤ i → ticket_at es i ≡ None
ticket_past [] i u = refl
ticket_past (e ∷ es) zero u = absurd (omega (arith, u))
ticket_past (e ∷ es) (suc i) u = ticket_past es i (omega (arith, u))

pub worker_past : (es : List Entry) (i : ℕ) → length es ≤ i → worker_at es i ≡ None
worker_past [] i u = refl
worker_past (e ∷ es) zero u = absurd (omega (arith, u))
worker_past (e ∷ es) (suc i) u = worker_past es i (omega (arith, u))
