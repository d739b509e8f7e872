-- Parts of a list that change places, and words of a list that are written.
use Rattle.std.proofs.Common.{◌≡◌, ℕ, ◌+◌, ◌-◌, ◌≤◌, ◌⊎◌, inl, inr, refl, List, [], ◌∷◌, ◌++◌, length, take, drop, set, sym, ◌∙◌, ap, arith}
use Rattle.std.proofs.Common.{length-append}
use Rattle.std.proofs.lemmas.List.{append_assoc, take_at, drop_at}
use borrow.Rule.Slice.PartMut.{post_of}
use Rattle.token_stacks.specs.Parts.{Swaps, Writes}
use Rattle.token_stacks.proofs.Ends.{take_after, drop_after, set_after, one_on, length_on}

-- no words change places with others
pub swaps_none : (ws : List ℕ) (from middle end : ℕ) → (from ≡ middle) ⊎ (middle ≡ end) → Swaps ws ws from middle end
swaps_none ws from middle end h = record {
  parts = λ a b c d e ha hb hc. elim h [
    | inl x ↦ (let z = none b (omega (arith, ha, hb, x)) in
        e ∙ ap (λ (y : List ℕ). a ++ (y ++ (c ++ d))) z ∙ ap (λ (y : List ℕ). a ++ (c ++ (y ++ d))) (sym z))
    | inr x ↦ (let z = none c (omega (arith, hb, hc, x)) in
        e ∙ ap (λ (y : List ℕ). a ++ (b ++ (y ++ d))) z ∙ ap (λ (y : List ℕ). a ++ (y ++ (b ++ d))) (sym z))
  ];
}
  where
    none : (xs : List ℕ) → length xs ≡ 0 → xs ≡ []
    none [] q = refl
    none (x ∷ xs) q = absurd (omega (arith, q))

-- a part that was rotated within a list
pub rotated : (ws xs r : List ℕ) (n from middle end : ℕ) → from ≤ middle → middle ≤ end → xs ≡ ws → n ≡ length ws
    → r ≡ drop (middle - from) (take (end - from) (drop from xs)) ++ take (middle - from) (take (end - from) (drop from xs))
    → Swaps ws (take n ((take from xs ++ (r ++ post_of from (end - from) xs)) ++ drop
    (length (take from xs ++ (r ++ post_of from (end - from) xs))) ws)) from middle end
rotated ws xs r n from middle end f m x ln y = record {
  parts = λ a b c d e ha hb hc.
      let k : ℕ = end - from in
      let xs' : xs ≡ a ++ (b ++ (c ++ d)) = x ∙ e in
      let lbc : length (b ++ c) ≡ k = let p = length-append b c in omega (arith, p, ha, hb, hc, f, m) in
      let lb : length b ≡ middle - from = omega (arith, ha, hb, f) in
      let front : take from xs ≡ a = take_after a (b ++ (c ++ d)) xs from xs' (sym ha) in
      let behind : drop from xs ≡ (b ++ c) ++ d = drop_after a (b ++ (c ++ d)) xs from xs' (sym ha) ∙ sym (append_assoc b c d) in
      let part : take k (drop from xs) ≡ b ++ c = ap (λ (z : List ℕ). take k z) behind ∙ take_at (b ++ c) d k lbc in
      let rest : post_of from k xs ≡ d = ap (λ (z : List ℕ). drop k z) behind ∙ drop_at (b ++ c) d k lbc in
      let turned : r ≡ c ++ b =
      y ∙ ap (λ (z : List ℕ). drop (middle - from) z ++ take (middle - from) z) part
      ∙ ap (λ (z : List ℕ). z ++ take (middle - from) (b ++ c)) (drop_at b c (middle - from) lb)
      ∙ ap (λ (z : List ℕ). c ++ z) (take_at b c (middle - from) lb) in
      let whole : take from xs ++ (r ++ post_of from k xs) ≡ a ++ (c ++ (b ++ d)) =
      ap (λ (z : List ℕ). z ++ (r ++ post_of from k xs)) front
      ∙ ap (λ (z : List ℕ). a ++ (z ++ post_of from k xs)) turned
      ∙ ap (λ (z : List ℕ). a ++ ((c ++ b) ++ z)) rest ∙ ap (λ (z : List ℕ). a ++ z) (append_assoc c b d) in
      let long : length (a ++ (c ++ (b ++ d))) ≡ n =
      let p = length-append a (c ++ (b ++ d)) in
      let q = length-append c (b ++ d) in
      let s = length-append b d in
      let t = ap length e in
      let u = length-append a (b ++ (c ++ d)) in
      let v = length-append b (c ++ d) in
      let w = length-append c d in omega (arith, p, q, s, t, u, v, w, ln) in
      ap (λ (z : List ℕ). take n (z ++ drop (length z) ws)) whole
      ∙ take_at (a ++ (c ++ (b ++ d))) (drop (length (a ++ (c ++ (b ++ d)))) ws) n long;
}

-- three words, one after another
pub writes_three : (ws : List ℕ) (at first second third : ℕ) →
    Writes ws (set (set (set ws at first) (at + 1) second) (at + 2) third) at first second third
writes_three ws at first second third = record {
  parts = λ f g x y z e h.
      let one : set ws at first ≡ (f ++ first ∷ []) ++ y ∷ z ∷ g =
      set_after f x (y ∷ z ∷ g) ws at first e (sym h) ∙ one_on f first (y ∷ z ∷ g) in
      let l = length_on f first in
      let two : set (set ws at first) (at + 1) second ≡ ((f ++ first ∷ []) ++ second ∷ []) ++ z ∷ g =
      set_after (f ++ first ∷ []) y (z ∷ g) (set ws at first) (at + 1) second one (omega (arith, l, h))
      ∙ one_on (f ++ first ∷ []) second (z ∷ g) in
      let k = length_on (f ++ first ∷ []) second in
      set_after ((f ++ first ∷ []) ++ second ∷ []) z g (set (set ws at first) (at + 1) second) (at + 2) third two (omega (arith, l, k, h))
      ∙ append_assoc (f ++ first ∷ []) (second ∷ []) (third ∷ g)
      ∙ append_assoc f (first ∷ []) (second ∷ third ∷ g);
}
