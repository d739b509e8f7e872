-- Runs that are spread, with one more run behind them, or with the last one longer.
use Rattle.std.proofs.Common.{◌≡◌, ℕ, zero, suc, ◌+◌, ◌<◌, ◌≤◌, List, [], ◌∷◌, ◌++◌, length, get_or, set, refl, sym, ap, ◌∙◌, arith}
use Rattle.std.proofs.Common.{append_assoc}
use Rattle.std.specs.Prelude.{replicate}
use Rattle.std.proofs.lemmas.List.{replicate-append-replicate, length-replicate, length-append, append-nil}
use Rattle.schedule_log.specs.KeptRuns.{MovesSeen, spread, move_of, Each, Fair}
use Rattle.schedule_log.specs.declared.entry.Entry.{Entry}

-- More runs are behind others.
pub spread_append : (rs qs : List MovesSeen) → spread (rs ++ qs) ≡ spread rs ++ spread qs
spread_append [] qs = refl
spread_append (r ∷ rs) qs =
    ap (λ (l : List Entry). replicate r.count (move_of r) ++ l) (spread_append rs qs)
    ∙ sym (append_assoc (replicate r.count (move_of r)) (spread rs) (spread qs))

-- One more run is behind others.
pub spread_more : (rs : List MovesSeen) (r : MovesSeen) → spread (rs ++ r ∷ []) ≡ spread rs ++ replicate r.count (move_of r)
spread_more [] r = append-nil (replicate r.count (move_of r))
spread_more (q ∷ rs) r =
    ap (λ l. replicate q.count (move_of q) ++ l) (spread_more rs r)
    ∙ sym (append_assoc (replicate q.count (move_of q)) (spread rs) (replicate r.count (move_of r)))

-- The last run is made longer.
pub spread_grown : (rs : List MovesSeen) (i : ℕ) (d : MovesSeen) (c : ℕ) → suc i ≡ length rs →
    spread (set rs i (record { ticket = (get_or rs i d).ticket; worker = (get_or rs i d).worker; count = (get_or rs i d).count + c })) ≡
    spread rs ++ replicate c (move_of (get_or rs i d))
spread_grown [] i d c e = absurd (omega (arith, e))
spread_grown (r ∷ []) zero d c e =
    append-nil (replicate (r.count + c) (move_of r)) ∙ sym (replicate-append-replicate r.count c (move_of r))
    ∙ ap (λ l. l ++ replicate c (move_of r)) (sym (append-nil (replicate r.count (move_of r))))
spread_grown (r ∷ []) (suc i) d c e = absurd (omega (arith, e))
spread_grown (r ∷ (q ∷ rs)) zero d c e = absurd (omega (arith, e))
spread_grown (r ∷ (q ∷ rs)) (suc i) d c e =
    ap (λ l. replicate r.count (move_of r) ++ l) (spread_grown (q ∷ rs) i d c (omega (arith, e)))
    ∙ sym (append_assoc (replicate r.count (move_of r)) (spread (q ∷ rs)) (replicate c (move_of (get_or (q ∷ rs) i d))))

-- No run is longer than all of them.
pub count_within : (rs : List MovesSeen) (i : ℕ) (d : MovesSeen) → i < length rs → (get_or rs i d).count ≤ length (spread rs)
count_within [] i d u = absurd (omega (arith, u))
count_within (r ∷ rs) zero d u =
    let a = length-append (replicate r.count (move_of r)) (spread rs) in
    let b = length-replicate r.count (move_of r) in omega (arith, a, b)
count_within (r ∷ rs) (suc i) d u =
    let a = length-append (replicate r.count (move_of r)) (spread rs) in
    let h = count_within rs i d (omega (arith, u)) in omega (arith, a, h)

-- The same, where the last run was read at its place.
pub grown : (rs : List MovesSeen) (i : ℕ) (r : MovesSeen) (t w c : ℕ) → r ≡ get_or rs i r → r.ticket ≡ t → r.worker ≡ w →
    suc i ≡ length rs →
    spread (set rs i (record { ticket = t; worker = w; count = r.count + c })) ≡
    spread rs ++ replicate c (record { ticket = t; worker = w })
grown rs i r t w c is ticket worker last =
    let a : t ≡ (get_or rs i r).ticket = sym ticket ∙ ap (λ (m : MovesSeen). m.ticket) is in
    let b : w ≡ (get_or rs i r).worker = sym worker ∙ ap (λ (m : MovesSeen). m.worker) is in
    let d : r.count ≡ (get_or rs i r).count = ap (λ (m : MovesSeen). m.count) is in
    (λ j. spread (set rs i (record { ticket = a j; worker = b j; count = d j + c })))
    ∙ spread_grown rs i r c last
    ∙ (λ j. spread rs ++ replicate c (record { ticket = sym a j; worker = sym b j }))

-- One more run has a move.
pub each_more : (rs : List MovesSeen) (r : MovesSeen) → Each rs → Fair r → Each (rs ++ r ∷ [])
each_more [] r h u = (u, tt)
each_more (q ∷ rs) r h u = (h.0, each_more rs r h.1 u)

-- A run in the place of another one has a move.
pub each_set : (rs : List MovesSeen) (i : ℕ) (r : MovesSeen) → Each rs → Fair r → Each (set rs i r)
each_set [] i r h u = tt
each_set (q ∷ rs) zero r h u = (u, h.1)
each_set (q ∷ rs) (suc i) r h u = (h.0, each_set rs i r h.1 u)

-- The run at a place has a move.
pub each_at : (rs : List MovesSeen) (i : ℕ) (d : MovesSeen) → Each rs → i < length rs → Fair (get_or rs i d)
each_at [] i d h u = absurd (omega (arith, u))
each_at (q ∷ rs) zero d h u = h.0
each_at (q ∷ rs) (suc i) d h u = each_at rs i d h.1 (omega (arith, u))

-- There are no more runs than moves.
pub no_more_runs : (rs : List MovesSeen) → Each rs → length rs ≤ length (spread rs)
no_more_runs [] h = omega arith
no_more_runs (r ∷ rs) h =
    let a = no_more_runs rs h.1 in
    let b = length-append (replicate r.count (move_of r)) (spread rs) in
    let c = length-replicate r.count (move_of r) in
    let u = h.0.0 in omega (arith, a, b, c, u)
