-- Numbers that are exchanged one after another are exchanged all at once.
use Rattle.std.proofs.Common.{◌≡◌, ℕ, zero, suc, ◌+◌, ◌≤◌, ◌<◌, List, [], ◌∷◌, length, Option, Some, None, refl, sym, ap, ◌∙◌, arith}
use Rattle.std.proofs.Common.{cond, get_or, drop, take, replicate, ◌-◌}
use Rattle.std.proofs.lemmas.Bool.{eq-eqb, ne_eqb}
use Rattle.std.proofs.lemmas.List.{length-replicate}
use Rattle.net_build.specs.declared.node.Node.{Node}
use Rattle.net_build.specs.Nets.{NetTree}
use Rattle.net_build.specs.Numbers.{set_number, set_at, with_number}
use Rattle.open_net_laws.specs.Numbers.{set_given, set_all, given, places_from, with_numbers}
use Rattle.open_net_laws.proofs.Exchanged.{set_same, low}

-- nothing is exchanged
pub none_set : (f : ℕ → Option ℕ) → ((i : ℕ) → f i ≡ None) → (k : ℕ) (ns : List Node) → set_all f k ns ≡ ns
none_set f h k [] = refl
none_set f h k (n ∷ ns) = ap (λ o. set_given o n ∷ set_all f (suc k) ns) (h k) ∙ ap (λ xs. n ∷ xs) (none_set f h (suc k) ns)

-- one number that is exchanged before the others
module _ (f g : ℕ → Option ℕ) (k v : ℕ) (a : f k ≡ None) (b : g k ≡ Some v) (same : (i : ℕ) → (k ≡ i → ⊥) → f i ≡ g i) where
  one_before : (j d : ℕ) (ns : List Node) → j + d ≡ k → set_all f j (set_at d v ns) ≡ set_all g j ns
  one_before j d [] e = refl
  one_before j zero (n ∷ ns) e =
      let q : k ≡ j = omega arith in
      ap (λ o. set_given o (set_number v n) ∷ set_all f (suc j) ns) (ap f (sym q) ∙ a) ∙
      ap (λ o. set_given o n ∷ set_all f (suc j) ns) (sym (ap g (sym q) ∙ b)) ∙
      ap (λ xs. set_given (g j) n ∷ xs) (set_same f g (suc j) ns (λ i l. same i (λ z. absurd (omega arith))))
  one_before j (suc d) (n ∷ ns) e =
      ap (λ o. set_given o n ∷ set_all f (suc j) (set_at d v ns)) (same j (λ z. absurd (omega arith))) ∙
      ap (λ xs. set_given (g j) n ∷ xs) (one_before (suc j) d ns (omega arith))

pub first_then : (k n v : ℕ) (vs : List ℕ) (ns : List Node) →
    set_all (given (places_from (suc (suc (suc k))) n) vs) 0 (set_at k v ns) ≡ set_all (given (places_from k (suc n)) (v ∷ vs)) 0 ns
first_then k n v vs ns =
    let rest = given (places_from (suc (suc (suc k))) n) vs in
    one_before rest (given (places_from k (suc n)) (v ∷ vs)) k v (low (suc (suc (suc k))) n vs k (omega arith))
    (ap (λ b. cond b (Some v) (rest k)) (eq-eqb k k refl))
    (λ i q. sym (ap (λ b. cond b (Some v) (rest i)) (ne_eqb k i q)))
    0 k ns (omega arith)

-- ---- the descent

none_left : (k : ℕ) (vs : List ℕ) (ns : List Node) → length vs < 1 → ns ≡ set_all (given (places_from k (length vs)) vs) 0 ns
none_left k [] ns l = sym (none_set (given [] []) (λ i. refl) 0 ns)
none_left k (v ∷ vs) ns l = absurd (omega arith)

all_of : (xs : List ℕ) → take (length xs) xs ≡ xs
all_of [] = refl
all_of (x ∷ xs) = ap (λ ys. x ∷ ys) (all_of xs)

pub head_tail : (vs : List ℕ) (d : ℕ) → 1 ≤ length vs → vs ≡ get_or vs 0 d ∷ take (length vs - 1) (drop 1 vs)
head_tail [] d l = absurd (omega arith)
head_tail (v ∷ vs) d l =
    let e : length (v ∷ vs) - 1 ≡ length vs = omega arith in
    ap (λ xs. v ∷ xs) (sym (ap (λ k. take k vs) e ∙ all_of vs))

one_then : (k v : ℕ) (vs rest : List ℕ) (ns ns' ns'' : List Node) → vs ≡ v ∷ rest → ns' ≡ set_at k v ns →
    ns'' ≡ set_all (given (places_from (k + 3) (length rest)) rest) 0 ns' → ns'' ≡ set_all (given (places_from k (length vs)) vs) 0 ns
one_then k v vs rest ns ns' ns'' e g h =
    let q : k + 3 ≡ suc (suc (suc k)) = omega arith in
    h ∙ ap (λ xs. set_all (given (places_from (k + 3) (length rest)) rest) 0 xs) g ∙
    ap (λ j. set_all (given (places_from j (length rest)) rest) 0 (set_at k v ns)) q ∙ first_then k (length rest) v rest ns ∙
    ap (λ xs. set_all (given (places_from k (length xs)) xs) 0 ns) (sym e)

-- and so in a net

abbrev with_nodes : NetTree → List Node → NetTree
with_nodes net ns = record { wires = net.wires; nodes = ns }

pub no_more : (k : ℕ) (vs : List ℕ) (net : NetTree) → length vs < 1 → net ≡ with_numbers net (places_from k (length vs)) vs
no_more k vs net l = ap (with_nodes net) (none_left k vs net.nodes l)

pub one_more : (k v : ℕ) (vs rest : List ℕ) (net net' net'' : NetTree) → vs ≡ v ∷ rest → net' ≡ with_number net k v →
    net'' ≡ with_numbers net' (places_from (k + 3) (length rest)) rest → net'' ≡ with_numbers net (places_from k (length vs)) vs
one_more k v vs rest net net' net'' e g h =
    h ∙ ap (λ n. with_numbers n (places_from (k + 3) (length rest)) rest) g ∙
    ap (with_nodes net)
    (one_then k v vs rest net.nodes (set_at k v net.nodes)
    (set_all (given (places_from (k + 3) (length rest)) rest) 0 (set_at k v net.nodes)) e refl refl)

-- no zero
pub no_zeros : (k n : ℕ) (net : NetTree) → n ≡ 0 → net ≡ with_numbers net (places_from k n) (replicate n 0)
no_zeros k zero net e = no_more k [] net (omega arith)
no_zeros k (suc n) net e = absurd (omega (arith, e))

-- one zero, and then the others
pub one_zero : (k n : ℕ) (net net' net'' : NetTree) → 1 ≤ n → net' ≡ with_number net k 0 →
    net'' ≡ with_numbers net' (places_from (k + 3) (n - 1)) (replicate (n - 1) 0) →
    net'' ≡ with_numbers net (places_from k n) (replicate n 0)
one_zero k zero net net' net'' l g h = absurd (omega (arith, l))
one_zero k (suc n) net net' net'' l g h =
    let p : suc n - 1 ≡ n = omega arith in
    let q : length (replicate {A = ℕ} n 0) ≡ n = length-replicate {A = ℕ} n 0 in
    one_more k 0 (replicate (suc n) 0) (replicate n 0) net net' net'' refl g
    (h ∙ ap (λ j. with_numbers net' (places_from (k + 3) j) (replicate j 0)) p ∙
    ap (λ j. with_numbers net' (places_from (k + 3) j) (replicate n 0)) (sym q)) ∙
    ap (λ j. with_numbers net (places_from k (suc j)) (replicate (suc n) 0)) q
