-- Neighbouring runs stay different, or the first of them full, and tickets small.
use Rattle.std.proofs.Common.{◌≡◌, ℕ, zero, suc, ◌<◌, ◌≤◌, ◌^◌, List, [], ◌∷◌, ◌++◌, length, get_or, set, sym, ap, ◌∙◌, arith, subst}
use Rattle.std.specs.Prelude.{replicate}
use Rattle.schedule_log.specs.KeptRuns.{MovesSeen, move_of, most_count, Apart}
use Rattle.schedule_log.specs.declared.entry.Entry.{Entry}
use Rattle.schedule_log.specs.Logs.{tickets_in_log}
use Rattle.schedule_log.specs.LogsSeen.{Small}

-- A first run stands apart.
pub apart_first : (rs : List MovesSeen) (r : MovesSeen) → length rs ≤ 0 → Apart (rs ++ r ∷ [])
apart_first [] r u = (tt, tt)
apart_first (q ∷ rs) r u = absurd (omega (arith, u))

-- One more run stands apart, which is of another move than the last one, or that one is full.
apart_behind : (rs : List MovesSeen) (i : ℕ) (d r : MovesSeen) → suc i ≡ length rs →
    (move_of (get_or rs i d) ≡ move_of r → (get_or rs i d).count ≡ most_count) → Apart rs → Apart (rs ++ r ∷ [])
apart_behind [] i d r e q h = absurd (omega (arith, e))
apart_behind (s ∷ []) zero d r e q h = (q, (tt, tt))
apart_behind (s ∷ []) (suc i) d r e q h = absurd (omega (arith, e))
apart_behind (s ∷ (t ∷ rs)) zero d r e q h = absurd (omega (arith, e))
apart_behind (s ∷ (t ∷ rs)) (suc i) d r e q h = (h.0, apart_behind (t ∷ rs) i d r (omega (arith, e)) q h.1)

-- The same, where the last run was read at its place.
pub apart_more : (rs : List MovesSeen) (i : ℕ) (l r : MovesSeen) → l ≡ get_or rs i l → suc i ≡ length rs →
    (move_of l ≡ move_of r → l.count ≡ most_count) → Apart rs → Apart (rs ++ r ∷ [])
apart_more rs i l r g e q h = apart_behind rs i l r e (λ m. sym (ap (λ (x : MovesSeen). x.count) g) ∙ q (ap move_of g ∙ m)) h

-- The last run may have another count.
apart_set : (rs : List MovesSeen) (i : ℕ) (d : MovesSeen) (c : ℕ) → suc i ≡ length rs → Apart rs →
    Apart (set rs i (record { ticket = (get_or rs i d).ticket; worker = (get_or rs i d).worker; count = c }))
apart_set [] i d c e h = tt
apart_set (r ∷ []) zero d c e h = (tt, tt)
apart_set (r ∷ []) (suc i) d c e h = (tt, tt)
apart_set (r ∷ (q ∷ rs)) zero d c e h = absurd (omega (arith, e))
apart_set (r ∷ (q ∷ rs)) (suc zero) d c e h = (h.0, apart_set (q ∷ rs) zero d c (omega (arith, e)) h.1)
apart_set (r ∷ (q ∷ rs)) (suc (suc i)) d c e h = (h.0, apart_set (q ∷ rs) (suc i) d c (omega (arith, e)) h.1)

-- The same, where the run was read at its place.
pub apart_grown : (rs : List MovesSeen) (i : ℕ) (r : MovesSeen) (t w c : ℕ) → r ≡ get_or rs i r → r.ticket ≡ t → r.worker ≡ w →
    suc i ≡ length rs → Apart rs → Apart (set rs i (record { ticket = t; worker = w; count = c }))
apart_grown rs i r t w c e f g k h =
    let a : (get_or rs i r).ticket ≡ t = sym (ap (λ (m : MovesSeen). m.ticket) e) ∙ f in
    let b : (get_or rs i r).worker ≡ w = sym (ap (λ (m : MovesSeen). m.worker) e) ∙ g in
    subst Apart (λ j. set rs i (record { ticket = a j; worker = b j; count = c })) (apart_set rs i r c k h)

small_run : (n : ℕ) (e : Entry) → e.ticket < 2 ^ 32 → Small (tickets_in_log (replicate n e))
small_run zero e u = tt
small_run (suc n) e u = (u, small_run n e u)

-- The tickets are small with more moves of a small one behind them.
pub small_more : (es : List Entry) (n : ℕ) (e : Entry) → Small (tickets_in_log es) → e.ticket < 2 ^ 32 →
    Small (tickets_in_log (es ++ replicate n e))
small_more [] n e h u = small_run n e u
small_more (d ∷ es) n e h u = (h.0, small_more es n e h.1 u)
