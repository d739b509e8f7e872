-- The counts of a tally add up.
use Rattle.std.proofs.Common.{◌≡◌, ℕ, zero, suc, ◌+◌, ◌<◌, ◌≤◌, List, [], ◌∷◌, length, refl, ap, ◌∙◌}
use Rattle.std.proofs.Common.{arith}
use Rattle.std.specs.Prelude.{Bool, true, false, cond, sum, nat_eq}
use Rattle.std.proofs.lemmas.Bool.{eqb-true, eqb-false, ne_eqb}
use Rattle.std.proofs.lemmas.List.Sums.{sum_by-cons}
use Rattle.schedule_log.specs.declared.entry.Entry.{Entry}
use Rattle.schedule_log.specs.Tally.{tally_of, tally_from, tally}
use Rattle.schedule_log.specs.Laws.{WorkersUpTo}

-- 1 where the entry is of the worker, else 0
abbrev of_worker : Bool → ℕ
of_worker b = cond b 1 0

-- One more entry counts where it is of the worker.
more_of : (e : Entry) (es : List Entry) (w : ℕ) → tally_of (e ∷ es) w ≡ of_worker (nat_eq e.worker w) + tally_of es w
more_of e es w = sum_by-cons (λ (x : Entry). cond (nat_eq x.worker w) 1 0) e es

-- A sum by its first number.
first_sum : (n : ℕ) (ns : List ℕ) → sum (n ∷ ns) ≡ n + sum ns
first_sum n ns = sum_by-cons (λ n. n) n ns

-- The counts from a worker on, with one more entry, by whether it is of this worker and by how often it counts from the next one on.
one_more : (e : Entry) (es : List Entry) (w n k : ℕ) → of_worker (nat_eq e.worker w) + k ≡ 1 →
    sum (tally_from (e ∷ es) (suc w) n) ≡ k + sum (tally_from es (suc w) n) →
    sum (tally_from (e ∷ es) w (suc n)) ≡ suc (sum (tally_from es w (suc n)))
one_more e es w n k c d =
    let a = first_sum (tally_of (e ∷ es) w) (tally_from (e ∷ es) (suc w) n) in
    let b = more_of e es w in
    let f = first_sum (tally_of es w) (tally_from es (suc w) n) in
    omega (arith, a, b, c, d, f)

-- An entry of a worker below all that are counted counts nowhere.
below : (e : Entry) (es : List Entry) (w n : ℕ) → e.worker < w → sum (tally_from (e ∷ es) w n) ≡ sum (tally_from es w n)
below e es w zero u = refl
below e es w (suc n) u =
    let a = first_sum (tally_of (e ∷ es) w) (tally_from (e ∷ es) (suc w) n) in
    let b = more_of e es w in
    let c : of_worker (nat_eq e.worker w) ≡ 0 = ap of_worker (ne_eqb e.worker w (omega (arith, u))) in
    let d = below e es (suc w) n (omega (arith, u)) in
    let f = first_sum (tally_of es w) (tally_from es (suc w) n) in
    omega (arith, a, b, c, d, f)

-- An entry of one of the workers that are counted counts once.
within : (e : Entry) (es : List Entry) (w n : ℕ) → w ≤ e.worker → e.worker < w + n →
    sum (tally_from (e ∷ es) w n) ≡ suc (sum (tally_from es w n))
within e es w zero u v = absurd (omega (arith, u, v))
within e es w (suc n) u v = go (nat_eq e.worker w) refl (within e es (suc w) n)
  where
    go : (b : Bool) → nat_eq e.worker w ≡ b →
        (suc w ≤ e.worker → e.worker < suc w + n → sum (tally_from (e ∷ es) (suc w) n) ≡ suc (sum (tally_from es (suc w) n))) →
        sum (tally_from (e ∷ es) w (suc n)) ≡ suc (sum (tally_from es w (suc n)))
    go true h f =
        let k = eqb-true e.worker w h in
        let d = below e es (suc w) n (omega (arith, k)) in
        one_more e es w n 0 (ap (λ b. of_worker b + 0) h) (omega (arith, d))
    go false h f =
        let k = eqb-false e.worker w h in
        let d = f (omega (arith, k, u)) (omega (arith, v)) in
        one_more e es w n 1 (ap (λ b. of_worker b + 1) h) (omega (arith, d))

-- No entry, no count.
none : (w n : ℕ) → sum (tally_from [] w n) ≡ 0
none w zero = refl
none w (suc n) = let a = first_sum (tally_of [] w) (tally_from [] (suc w) n) in let d = none (suc w) n in omega (arith, a, d)

-- The counts add up to the number of entries.
pub tally_adds_up : (es : List Entry) (workers : ℕ) → WorkersUpTo workers es → sum (tally es workers) ≡ length es
tally_adds_up [] workers h = none 0 (suc workers)
tally_adds_up (e ∷ es) workers h =
    within e es 0 (suc workers) (omega arith) (omega (arith, h.0)) ∙ ap suc (tally_adds_up es workers h.1)
