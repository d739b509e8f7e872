-- The map of the live tokens has as many entries as there are live tickets in the list.
use Rattle.std.proofs.Common.{◌≡◌, ℕ, zero, suc, ◌+◌, ◌-◌, ◌<◌, ◌≤◌, cond, length, Option, Some, None, refl, sym, ap, ◌∙◌}
use Rattle.std.proofs.Common.{⊎_elim, arith}
use Rattle.std.proofs.lemmas.Bool.{cases_eq, ne_eqb, eq-eqb}
use Rattle.std.proofs.lemmas.Cmp.{nat_cmp_total}
use Rattle.std.specs.Prelude.{is_some}
use Rattle.std.specs.Ordering.{nat_cmp}
use Rattle.std.specs.FinMap.{FinMap, get, remove, len, empty, empty_of_len, get-empty, get-remove, len-empty, len-remove}
use Rattle.std.specs.FinMap.{same_map, nat_cmp-IsAntisymmetric}
use Rattle.move_rules.specs.Places.{TokenTree}
use Rattle.interleave_laws.specs.States.{Tokens}
use Rattle.interleave_laws.specs.Maps.{MapState, seen}
use Rattle.interleave_laws.proofs.Tickets.{test_nat}
use Rattle.round_laws.specs.Rounds.{if_live, live_from, live_of}

-- the list from a ticket on depends on the tokens from there on alone
same_from : (f g : Tokens) (n k : ℕ) → ((j : ℕ) → k ≤ j → f j ≡ g j) → live_from f k n ≡ live_from g k n
same_from f g zero k h = refl
same_from f g (suc n) k h =
    ap (λ o. if_live o k (live_from f (suc k) n)) (h k (omega arith)) ∙
    ap (if_live (g k) k) (same_from f g n (suc k) (λ j l. h j (omega (arith, l))))

-- a map with an entry isn't empty
some_entry : (m : FinMap nat_cmp TokenTree) (k : ℕ) (x : TokenTree) → get m k ≡ Some x → 1 ≤ len m
some_entry m k x h = go (len m) refl
  where
    go : (n : ℕ) → len m ≡ n → 1 ≤ n
    go zero e =
        let none : None ≡ Some x = sym (ap (λ m. get m k) (empty_of_len m e) ∙ get-empty nat_cmp k) ∙ h in
        absurd cc
    go (suc n) e = omega arith

-- without the entry of a ticket, the others are as they were
others_left : (m : FinMap nat_cmp TokenTree) (k j : ℕ) → (j ≡ k → ⊥) → get (remove m k) j ≡ get m j
others_left m k j d = get-remove nat_cmp_total m k j ∙ ap (λ b. cond b None (get m j)) (test_nat j k ∙ ne_eqb j k d)

-- and that ticket has none
none_left : (m : FinMap nat_cmp TokenTree) (k : ℕ) → get (remove m k) k ≡ None
none_left m k = get-remove nat_cmp_total m k k ∙ ap (λ b. cond b None (get m k)) (test_nat k k ∙ eq-eqb k k refl)

-- where all tickets of the map are in a range, it has as many as the list of the range
counted : (n k : ℕ) (m : FinMap nat_cmp TokenTree) → ((j : ℕ) (x : TokenTree) → get m j ≡ Some x → (k ≤ j) × (j < k + n)) →
    len m ≡ length (live_from (λ j. get m j) k n)
counted zero k m low =
    ap len (same_map nat_cmp_total nat_cmp-IsAntisymmetric m empty (λ j. none j (get m j) refl ∙ sym (get-empty nat_cmp j))) ∙
    len-empty nat_cmp TokenTree
  where
    none : (j : ℕ) (o : Option TokenTree) → get m j ≡ o → get m j ≡ None
    none j None e = e
    none j (Some x) e = let (a, b) = low j x e in absurd (omega (arith, a, b))
counted (suc n) k m low = go (counted n (suc k)) (get m k) refl
  where
    above : (j : ℕ) (x : TokenTree) → get m j ≡ Some x → (j ≡ k → ⊥) → (suc k ≤ j) × (j < suc k + n)
    above j x e d = let (a, b) = low j x e in (⊎_elim (λ q. absurd (d q)) (λ d. omega (arith, a, d)) (cases_eq j k), omega (arith, b))

    go : ((m : FinMap nat_cmp TokenTree) → ((j : ℕ) (x : TokenTree) → get m j ≡ Some x → (suc k ≤ j) × (j < suc k + n)) →
        len m ≡ length (live_from (λ j. get m j) (suc k) n)) → (o : Option TokenTree) → get m k ≡ o →
        len m ≡ length (if_live (get m k) k (live_from (λ j. get m j) (suc k) n))
    go ih None e =
        ih m (λ j x h. above j x h (λ q. let bad : None ≡ Some x = sym e ∙ ap (get m) (sym q) ∙ h in absurd cc)) ∙
        ap (λ o. length (if_live o k (live_from (λ j. get m j) (suc k) n))) (sym e)
    go ih (Some x) e =
        let rest = ih (remove m k) (λ j y h.
        let differ : j ≡ k → ⊥ = λ q.
        let bad : None ≡ Some y = sym (none_left m k) ∙ ap (get (remove m k)) (sym q) ∙ h in absurd cc in
        above j y (sym (others_left m k j differ) ∙ h) differ) in
        let fewer : len (remove m k) ≡ len m - 1 =
        len-remove nat_cmp_total m k ∙ ap (λ o. cond (is_some o) (len m - 1) (len m)) e in
        let some = some_entry m k x e in
        let one : len m ≡ suc (len (remove m k)) = omega (arith, fewer, some) in
        let same = same_from (λ j. get (remove m k) j) (λ j. get m j) n (suc k)
        (λ j l. others_left m k j (λ q. omega (arith, l, q))) in
        one ∙ ap suc rest ∙ ap (λ l. suc (length l)) same ∙
        ap (λ o. length (if_live o k (live_from (λ j. get m j) (suc k) n))) (sym e)

-- the live tokens are as many as the live tickets, where these are below the next
pub count_live : (S : MapState) → ((i : ℕ) (x : TokenTree) → get S.tokens i ≡ Some x → i < S.next) →
    len S.tokens ≡ length (live_of (seen S))
count_live S low = counted S.next 0 S.tokens (λ j x h. let b = low j x h in (omega arith, omega (arith, b)))
