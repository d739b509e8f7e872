-- A vector that is made of pointers, the first one lowest, above another number.
use Rattle.std.proofs.Common.{◌≡◌, ◌<◌, ◌≤◌, ℕ, zero, suc, ◌+◌, ◌-◌, ◌*◌, ◌/◌, ◌%◌, ◌^◌, List, [], ◌∷◌, length, sym, ap, subst, ◌∙◌, arith}
use Rattle.std.proofs.lemmas.Nat.{mod_low, shr_high, pow_pos, mod_below, mod-pow-add}
use Prim.Native.String.{String}
use Rattle.verilog_tree.specs.Tree.{Expr, name, cat}
use Rattle.verilog_tree.specs.Meaning.{Scope, Store, bits, value}
use Rattle.verilog_tree.proofs.Numbers.{fits}
use Rattle.joined_module.specs.Module.{Widths, pointers_above}
use Rattle.joined_module.specs.Machine.{Tagged, tagged_at}
use Rattle.joined_edges.specs.Stands.{pointer_width, pointer_number, PointerFits, InVector}
use Rattle.joined_edges.proofs.Sources.{pair_low}

pub one_more_of : (w j : ℕ) → w * suc j ≡ w + w * j
one_more_of w j = omega arith

-- a number that is told by its lower bits and those above
split : (V a v k w : ℕ) → v < 2 ^ k → V % 2 ^ (w + k) ≡ a * 2 ^ k + v → (V % 2 ^ k ≡ v) × (V / 2 ^ k % 2 ^ w ≡ a)
split V a v k w l e =
    let m = mod-pow-add V w k in
    let r : V % 2 ^ k < 2 ^ k = mod_below V (2 ^ k) (pow_pos k) in
    let q : (V / 2 ^ k % 2 ^ w) * 2 ^ k + V % 2 ^ k ≡ a * 2 ^ k + v = sym m ∙ e in (
      sym (mod_low (V / 2 ^ k % 2 ^ w) k (V % 2 ^ k) r) ∙ ap (λ n. n % 2 ^ k) q ∙ mod_low a k v l,
      sym (shr_high (V / 2 ^ k % 2 ^ w) k (V % 2 ^ k) r) ∙ ap (λ n. n / 2 ^ k) q ∙ shr_high a k v l,
    )

-- the bits that are left of a number that is cut further up
pub lower_bits : (V a k m : ℕ) → k + m ≤ a → V % 2 ^ a / 2 ^ k % 2 ^ m ≡ V / 2 ^ k % 2 ^ m
lower_bits V a k m l =
    let b : ℕ = a - k - m in
    let e1 : a ≡ b + m + k = omega arith in
    let s = mod-pow-add V (b + m) k in
    let t = mod-pow-add (V / 2 ^ k) b m in
    ap (λ n. V % 2 ^ n / 2 ^ k % 2 ^ m) e1 ∙ ap (λ n. n / 2 ^ k % 2 ^ m) s
    ∙ ap (λ n. n % 2 ^ m) (shr_high (V / 2 ^ k % 2 ^ (b + m)) k (V % 2 ^ k) (mod_below V (2 ^ k) (pow_pos k))) ∙ ap (λ n. n % 2 ^ m) t
    ∙ mod_low (V / 2 ^ k / 2 ^ m % 2 ^ b) m (V / 2 ^ k % 2 ^ m) (mod_below (V / 2 ^ k) (2 ^ m) (pow_pos m))

-- and so is the lowest part
pub lowest_bits : (V a m : ℕ) → m ≤ a → V % 2 ^ a % 2 ^ m ≡ V % 2 ^ m
lowest_bits V a m l =
    let h = lower_bits V a 0 m (omega arith) in
    (let z : V % 2 ^ a ≡ V % 2 ^ a / 2 ^ 0 = omega arith in ap (λ n. n % 2 ^ m) z) ∙ h
    ∙ (let z : V / 2 ^ 0 ≡ V = omega arith in ap (λ n. n % 2 ^ m) z)

-- a vector of pointers that is cut behind them
pub vector_cut : (W : Widths) (V a l : ℕ) (ps : List Tagged) → l + pointer_width W * length ps ≤ a → InVector W V l ps → InVector W
    (V % 2 ^ a) l ps
vector_cut W V a l [] k h = tt
vector_cut W V a l (p ∷ ps) k h =
    let m = one_more_of (pointer_width W) (length ps) in (
      lower_bits V a l (pointer_width W) (omega arith) ∙ h.0,
      (h.1.0, vector_cut W V a (l + pointer_width W) ps (omega arith) h.1.1),
    )

module _ (P : Scope) (R : Store) (w : ℕ) (x : ℕ → String) where
  -- names of so many bits each
  abbrev pub AllLow : ℕ → ℕ → Type 0
  AllLow i n = (j : ℕ) → j < n → (P.width (x (i + j)) ≡ w) × (R.vec (x (i + j)) < 2 ^ w)

  pub record Vector (V l v i n : ℕ) : Type 0 where
    pub low : V < 2 ^ (l + w * n)
    pub below : V % 2 ^ l ≡ v
    pub at : (j : ℕ) → j < n → V / 2 ^ (l + w * j) % 2 ^ w ≡ R.vec (x (i + j))

  shift_names : (i n : ℕ) → AllLow i (suc n) → AllLow (suc i) n
  shift_names i n h j l =
      subst (λ k. (P.width (x k) ≡ w) × (R.vec (x k) < 2 ^ w)) (let e : i + suc j ≡ suc i + j = omega arith in e) (h (suc j) (omega arith))

  first_name : (i n : ℕ) → AllLow i (suc n) → (P.width (x i) ≡ w) × (R.vec (x i) < 2 ^ w)
  first_name i n h =
      subst (λ k. (P.width (x k) ≡ w) × (R.vec (x k) < 2 ^ w)) (let e : i + 0 ≡ i = omega arith in e) (h 0 (omega arith))

  one_more : (j : ℕ) → w * suc j ≡ w + w * j
  one_more j = omega arith

  pub vector_of : (n i l v : ℕ) (e : Expr) → bits P e ≡ l → v < 2 ^ l → ((u : ℕ) → value P R u e ≡ v) → AllLow i n → (u : ℕ) →
      Vector (value P R u (pointers_above x i n e)) l v i n
  vector_of zero i l v e b k h names u = record {
    low = let q = h u in let z : l + w * 0 ≡ l = omega arith in subst (λ m. value P R u e < 2 ^ m) (sym z)
        (subst (λ m. m < 2 ^ l) (sym q) k);
    below = ap (λ m. m % 2 ^ l) (h u) ∙ fits l v k;
    at = λ j q. absurd (omega arith);
  }
  vector_of (suc n) i l v e b k h names u =
      let (xw, xl) = first_name i n names in
      let a : ℕ = R.vec (x i) in
      let bits_now : bits P (cat (name (x i)) e) ≡ w + l = (λ p. xw p + b p) in
      let value_now : (u : ℕ) → value P R u (cat (name (x i)) e) ≡ a * 2 ^ l + v = λ u. (let q = h (bits P e) in λ p. a * 2 ^ b p + q p) in
      let ih = vector_of n (suc i) (w + l) (a * 2 ^ l + v) (cat (name (x i)) e) bits_now (pair_low w l a v xl k) value_now
      (shift_names i n names) u in
      let V : ℕ = value P R u (pointers_above x i (suc n) e) in
      let parts = split V a v l w k ih.below in
      record {
        low = subst (λ m. V < 2 ^ m) (let m = one_more n in let z : w + l + w * n ≡ l + w * suc n = omega arith in z) ih.low;
        below = parts.0;
        at = all_at V l i n parts.1 ih.at;
      }
    where
      all_at : (V l i n : ℕ) → V / 2 ^ l % 2 ^ w ≡ R.vec (x i) →
          ((j : ℕ) → j < n → V / 2 ^ (w + l + w * j) % 2 ^ w ≡ R.vec (x (suc i + j))) →
          (j : ℕ) → j < suc n → V / 2 ^ (l + w * j) % 2 ^ w ≡ R.vec (x (i + j))
      all_at V l i n f g zero m =
          (let z : l + w * 0 ≡ l = omega arith in ap (λ q. V / 2 ^ q % 2 ^ w) z) ∙ f
          ∙ (let z : i ≡ i + 0 = omega arith in ap (λ q. R.vec (x q)) z)
      all_at V l i n f g (suc j) m =
          (let q = one_more_of w j in let z : l + w * suc j ≡ w + l + w * j = omega arith in
          ap (λ q. V / 2 ^ q % 2 ^ w) z) ∙ g j (omega arith)
          ∙ (let z : suc i + j ≡ i + suc j = omega arith in ap (λ q. R.vec (x q)) z)

-- a vector that has pointers at its places
pub in_vector_of : (W : Widths) (V l : ℕ) (ps : List Tagged) →
    ((j : ℕ) → j < length ps → (V / 2 ^ (l + pointer_width W * j) % 2 ^ pointer_width W ≡ pointer_number W (tagged_at ps j))
    × PointerFits W (tagged_at ps j)) → InVector W V l ps
in_vector_of W V l [] h = tt
in_vector_of W V l (p ∷ ps) h =
    let a = h 0 (omega arith) in (
      (let z : l ≡ l + pointer_width W * 0 = omega arith in ap (λ q. V / 2 ^ q % 2 ^ pointer_width W) z) ∙ a.0,
      (
        a.1,
        in_vector_of W V (l + pointer_width W) ps (λ j k.
            let b = h (suc j) (omega arith) in (
              (let q = one_more_of (pointer_width W) j in
                  let z : l + pointer_width W + pointer_width W * j ≡ l + pointer_width W * suc j = omega arith in
                  ap (λ q. V / 2 ^ q % 2 ^ pointer_width W) z) ∙ b.0,
              b.1,
            )),
      ),
    )
