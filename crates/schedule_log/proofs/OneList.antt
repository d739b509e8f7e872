-- Moves are kept as runs in one way only.
use Rattle.std.proofs.Common.{◌≡◌, ℕ, zero, suc, ◌<◌, ◌≤◌, List, [], ◌∷◌, ◌++◌, refl, sym, ap, ◌∙◌, arith, subst}
use Rattle.std.specs.Prelude.{replicate}
use Rattle.schedule_log.specs.KeptRuns.{MovesSeen, spread, move_of, Differs, Each, most_count}
use Rattle.schedule_log.specs.declared.entry.Entry.{Entry}
use Rattle.schedule_log.specs.Laws.{OneWayToRun}

-- the first of these entries, if there is one, isn't this one
abbrev Other : Entry → List Entry → Type 0
Other e [] = Unit {0}
Other e (x ∷ xs) = e ≡ x → ⊥

-- the first of entries, and those behind it
abbrev first_or : Entry → List Entry → Entry
first_or d [] = d
first_or d (e ∷ es) = e

abbrev behind_first : List Entry → List Entry
behind_first [] = []
behind_first (e ∷ es) = es

other_run : (n : ℕ) (e x : Entry) (es : List Entry) → 1 ≤ n → (e ≡ x → ⊥) → Other e (replicate n x ++ es)
other_run zero e x es u q = absurd (omega (arith, u))
other_run (suc n) e x es u q = q

-- what follows a run that isn't full begins with another move
other : (r : MovesSeen) (rs : List MovesSeen) → Each rs → Differs r rs → r.count < most_count → Other (move_of r) (spread rs)
other r [] h q u = tt
other r (s ∷ rs) h q u = other_run s.count (move_of r) (move_of s) (spread rs) h.0.0 (λ e. let g = q e in absurd (omega (arith, u, g)))

-- as many equal moves and the same behind them
record Same (n m : ℕ) (xs ys : List Entry) : Type 0 where
  pub count : n ≡ m
  pub rest : xs ≡ ys

no_other : (e : Entry) (xs ys : List Entry) → Other e xs → xs ≡ e ∷ ys → ⊥
no_other e [] ys q h = cc
no_other e (x ∷ xs) ys q h = q (sym (ap (first_or e) h))

same : (n m k : ℕ) (e : Entry) (xs ys : List Entry) → n ≤ k → m ≤ k → (n < k → Other e xs) → (m < k → Other e ys) →
    replicate n e ++ xs ≡ replicate m e ++ ys → Same n m xs ys
same zero zero k e xs ys a b p q h = record { count = refl; rest = h }
same zero (suc m) k e xs ys a b p q h = absurd (no_other e xs (replicate m e ++ ys) (p (omega (arith, b))) h)
same (suc n) zero k e xs ys a b p q h = absurd (no_other e ys (replicate n e ++ xs) (q (omega (arith, a))) (sym h))
same (suc n) (suc m) zero e xs ys a b p q h = absurd (omega (arith, a))
same (suc n) (suc m) (suc k) e xs ys a b p q h =
    let s = same n m k e xs ys (omega (arith, a)) (omega (arith, b)) (λ u. p (omega (arith, u))) (λ u. q (omega (arith, u)))
    (ap behind_first h) in record { count = ap suc s.count; rest = s.rest }

-- a run has a first move
starts : (n : ℕ) (e d : Entry) (es : List Entry) → 1 ≤ n → first_or d (replicate n e ++ es) ≡ e
starts zero e d es u = absurd (omega (arith, u))
starts (suc n) e d es u = refl

not_none : (n : ℕ) (e : Entry) (es : List Entry) → 1 ≤ n → replicate n e ++ es ≡ [] → ⊥
not_none zero e es u h = absurd (omega (arith, u))
not_none (suc n) e es u h = cc

same_move : (r q : MovesSeen) (xs ys : List Entry) → 1 ≤ r.count → 1 ≤ q.count →
    replicate r.count (move_of r) ++ xs ≡ replicate q.count (move_of q) ++ ys → move_of r ≡ move_of q
same_move r q xs ys u w h =
    sym (starts r.count (move_of r) (move_of r) xs u) ∙ ap (first_or (move_of r)) h ∙ starts q.count (move_of q) (move_of r) ys w

put_together : (r q : MovesSeen) (rs qs : List MovesSeen) → move_of r ≡ move_of q → r.count ≡ q.count → rs ≡ qs → r ∷ rs ≡ q ∷ qs
put_together r q rs qs m c e =
    let t : r.ticket ≡ q.ticket = ap (λ (x : Entry). x.ticket) m in
    let w : r.worker ≡ q.worker = ap (λ (x : Entry). x.worker) m in
    λ j. record { ticket = t j; worker = w j; count = c j } ∷ e j

-- Lists of runs of the same moves are the same list: their first runs are, and what stands behind them.
pub one_way : OneWayToRun
one_way [] [] a b c d h = refl
one_way [] (q ∷ qs) a b c d h = absurd (not_none q.count (move_of q) (spread qs) c.0.0 (sym h))
one_way (r ∷ rs) [] a b c d h = absurd (not_none r.count (move_of r) (spread rs) a.0.0 h)
one_way (r ∷ rs) (q ∷ qs) a b c d h =
    let m : move_of r ≡ move_of q = same_move r q (spread rs) (spread qs) a.0.0 c.0.0 h in
    let g : replicate r.count (move_of r) ++ spread rs ≡ replicate q.count (move_of r) ++ spread qs =
    h ∙ ap (λ (e : Entry). replicate q.count e ++ spread qs) (sym m) in
    let s = same r.count q.count most_count (move_of r) (spread rs) (spread qs) a.0.1 c.0.1 (other r rs a.1 b.0)
    (λ u. subst (λ (e : Entry). Other e (spread qs)) (sym m) (other q qs c.1 d.0 u)) g in
    put_together r q rs qs m s.count (one_way rs qs a.1 b.1 c.1 d.1 s.rest)
