-- What a question comes to, whatever a join counts: it is told by what the questions behind it come to, more depth changes nothing of it,
-- it is one, and where one join counts another does too.
use Rattle.std.proofs.Common.{◌≡◌, ℕ, zero, suc, ◌+◌, ◌≤◌, refl, sym, ap, ◌∙◌, ⊎_elim, arith}
use Rattle.pcf_values.specs.declared.val.Val.{Val}
use Rattle.pcf_values.specs.declared.val.Val.TheVariants.{Number}
use Rattle.pcf_values.specs.Values.{val_op, at_zero}
use Rattle.net_build.specs.Nets.{NetTree}
use Rattle.move_rules.specs.Places.{Place}
use Rattle.move_rules.specs.Moves.{Look, dead, constant, pass, one, test, two, look}
use Rattle.interleave_laws.specs.Start.{start_of}
use Rattle.adequacy_laws.specs.Questions.{Asked, gives, stuck, after, then_ask, Join, in_turn, both, ask_look, counts, Counts, asks}
use Rattle.adequacy_laws.proofs.Combined.{after_gives, after_stuck, then_gives, then_stuck, both_gives, both_stuck, stuck_right}

-- a question comes to a value with a count, to some depth
abbrev pub ComesTo : Join → NetTree → Place → Val → ℕ → Type 0
ComesTo join net p v n = (d : ℕ) × (counts join net d p ≡ gives v n)

-- what a question that comes to a value met, where R says what the questions behind it come to
abbrev pub Met : Join → (Place → Val → ℕ → Type 0) → Look → Val → ℕ → Type 0
Met join R dead v n = ⊥
Met join R (constant k m) v n = (v ≡ Number m) × (n ≡ 1)
Met join R (pass k q) v n = (i : ℕ) × R q v i × (n ≡ i + 2)
Met join R (one k f q) v n = (w : Val) × (i : ℕ) × R q w i × (v ≡ f w) × (n ≡ i + 2)
Met join R (test k c a b) v n = (w : Val) × (i : ℕ) × R c w i × (j : ℕ) × R (at_zero w a b) v j × (n ≡ j + (i + 3))
Met join R (two k op s a b) v n = (x y : Val) × (i j : ℕ) × R a x i × R b y j × (v ≡ val_op op x y) × (n ≡ join i j)

-- so it is by the recursion
look_met : (join : Join) (go : Place → Asked) (l : Look) (v : Val) (n : ℕ) → ask_look join go l ≡ gives v n →
    Met join (λ p v n. go p ≡ gives v n) l v n
look_met join go dead v n h = cc
look_met join go (constant k m) v n h = let a : Number m ≡ v = cc in let b : 1 ≡ n = cc in (sym a, sym b)
look_met join go (pass k q) v n h =
    let (w, i, a, b, z) = after_gives (λ v. v) 2 (go q) v n h in
    (i, a ∙ ap (λ w. gives w i) (sym b), z)
look_met join go (one k f q) v n h = after_gives f 2 (go q) v n h
look_met join go (test k c a b) v n h = then_gives 3 (go c) (λ v. go (at_zero v a b)) v n h
look_met join go (two k op s a b) v n h = both_gives join (val_op op) (go a) (go b) v n h

-- and the other way round
met_look : (join : Join) (go : Place → Asked) (l : Look) (v : Val) (n : ℕ) → Met join (λ p v n. go p ≡ gives v n) l v n →
    ask_look join go l ≡ gives v n
met_look join go dead v n x = absurd x
met_look join go (constant k m) v n (a, b) = ap (λ v. gives v 1) (sym a) ∙ ap (gives v) (sym b)
met_look join go (pass k q) v n (i, x, z) = ap (after (λ v. v) 2) x ∙ ap (gives v) (sym z)
met_look join go (one k f q) v n (w, i, x, a, z) = ap (after f 2) x ∙ ap (λ v. gives v (i + 2)) (sym a) ∙ ap (gives v) (sym z)
met_look join go (test k c a b) v n (w, i, x, j, y, z) =
    ap (λ o. then_ask 3 o (λ v. go (at_zero v a b))) x ∙ ap (after (λ w. w) (i + 3)) y ∙ ap (gives v) (sym z)
met_look join go (two k op s a b) v n (x, y, i, j, g, g', e, z) =
    ap (λ o. both join (val_op op) o (go b)) g ∙ ap (both join (val_op op) (gives x i)) g' ∙
    ap (λ v. gives v (join i j)) (sym e) ∙ ap (gives v) (sym z)

-- what holds of the questions behind it may be exchanged for what follows from it
met_from : (join : Join) (R Q : Place → Val → ℕ → Type 0) → ((p : Place) (v : Val) (n : ℕ) → R p v n → Q p v n) → (l : Look) (v : Val)
    (n : ℕ) → Met join R l v n → Met join Q l v n
met_from join R Q h dead v n x = x
met_from join R Q h (constant k m) v n x = x
met_from join R Q h (pass k q) v n (i, x, z) = (i, h q v i x, z)
met_from join R Q h (one k f q) v n (w, i, x, a, z) = (w, i, h q w i x, a, z)
met_from join R Q h (test k c a b) v n (w, i, x, j, y, z) = (w, i, h c w i x, j, h (at_zero w a b) v j y, z)
met_from join R Q h (two k op s a b) v n (x, y, i, j, g, g', e, z) = (x, y, i, j, h a x i g, h b y j g', e, z)

module _ (join : Join) (net : NetTree) where
  -- to a depth a question comes to a value with a count
  abbrev At : ℕ → Place → Val → ℕ → Type 0
  At d p v n = counts join net d p ≡ gives v n

  -- more depth changes no value
  pub gives_le : (e d : ℕ) (p : Place) (v : Val) (n : ℕ) → d ≤ e → At d p v n → At e p v n
  gives_le e zero p v n l h = cc
  gives_le zero (suc d) p v n l h = absurd (omega arith)
  gives_le (suc e) (suc d) p v n l h =
      met_look join (counts join net e) (look net p) v n
      (met_from join (At d) (At e) (λ q w i. gives_le e d q w i (omega arith)) (look net p) v n
      (look_met join (counts join net d) (look net p) v n h))

  -- there is one depth for all questions behind
  at_one : (l : Look) (v : Val) (n : ℕ) → Met join (ComesTo join net) l v n → (d : ℕ) × Met join (At d) l v n
  at_one dead v n x = absurd x
  at_one (constant k m) v n x = (0, x)
  at_one (pass k q) v n (i, (d, x), z) = (d, (i, x, z))
  at_one (one k f q) v n (w, i, (d, x), a, z) = (d, (w, i, x, a, z))
  at_one (test k c a b) v n (w, i, (d, x), j, (e, y), z) =
      let x' = gives_le (d + e) d c w i (omega arith) x in
      let y' = gives_le (d + e) e (at_zero w a b) v j (omega arith) y in
      (d + e, (w, i, x', j, y', z))
  at_one (two k op s a b) v n (x, y, i, j, (d, g), (e, g'), q, z) =
      let h = gives_le (d + e) d a x i (omega arith) g in
      let h' = gives_le (d + e) e b y j (omega arith) g' in
      (d + e, (x, y, i, j, h, h', q, z))

  -- a question that comes to a value met this
  pub met : (p : Place) (v : Val) (n : ℕ) (l : Look) → look net p ≡ l → ComesTo join net p v n → Met join (ComesTo join net) l v n
  met p v n l h (zero, e) = cc
  met p v n l h (suc d, e) =
      met_from join (At d) (ComesTo join net) (λ p v n x. (d, x)) l v n
      (look_met join (counts join net d) l v n (ap (ask_look join (counts join net d)) (sym h) ∙ e))

  -- and one that met this comes to the value
  pub comes : (p : Place) (v : Val) (n : ℕ) (l : Look) → look net p ≡ l → Met join (ComesTo join net) l v n → ComesTo join net p v n
  comes p v n l h x =
      let (d, y) = at_one l v n x in
      (suc d, ap (ask_look join (counts join net d)) h ∙ met_look join (counts join net d) l v n y)

  -- one value and one count
  pub once : (p : Place) (v w : Val) (n m : ℕ) → ComesTo join net p v n → ComesTo join net p w m → (v ≡ w) × (n ≡ m)
  once p v w n m (d, h) (e, g) =
      let a = gives_le (d + e) d p v n (omega arith) h in
      let b = gives_le (d + e) e p w m (omega arith) g in
      let z : gives v n ≡ gives w m = sym a ∙ b in
      (cc, cc)

  -- so a net has one value and one count
  pub one_count : (v w : Val) (n m : ℕ) → Counts join net v n → Counts join net w m → (v ≡ w) × (n ≡ m)
  one_count v w n m (k, i, e, a) (l, j, g, b) =
      let (x, y) = once (start_of net) v w i j (k, e) (l, g) in
      (x, a ∙ ap suc y ∙ sym b)

module _ (net : NetTree) where
  -- more depth frees no question that is stuck
  pub stuck_le : (e d : ℕ) (p : Place) → d ≤ e → asks net d p ≡ stuck → asks net e p ≡ stuck
  stuck_le e zero p l h = cc
  stuck_le zero (suc d) p l h = absurd (omega arith)
  stuck_le (suc e) (suc d) p l h = go (λ q. stuck_le e d q (omega arith)) (look net p) h
    where
      go : ((q : Place) → asks net d q ≡ stuck → asks net e q ≡ stuck) → (l : Look) → ask_look in_turn (asks net d) l ≡ stuck →
          ask_look in_turn (asks net e) l ≡ stuck
      go ih dead h = refl
      go ih (constant k m) h = cc
      go ih (pass k q) h = ap (after (λ v. v) 2) (ih q (after_stuck (λ v. v) 2 (asks net d q) h))
      go ih (one k f q) h = ap (after f 2) (ih q (after_stuck f 2 (asks net d q) h))
      go ih (test k c a b) h =
          ⊎_elim (λ g. ap (λ o. then_ask 3 o (λ v. asks net e (at_zero v a b))) (ih c g))
          (λ (w, i, g, g').
          let first = gives_le in_turn net e d c w i (omega (arith, l)) g in
          ap (λ o. then_ask 3 o (λ v. asks net e (at_zero v a b))) first ∙ ap (after (λ w. w) (i + 3)) (ih (at_zero w a b) g'))
          (then_stuck 3 (asks net d c) (λ v. asks net d (at_zero v a b)) h)
      go ih (two k op s a b) h =
          ⊎_elim (λ g. ap (λ o. both in_turn (val_op op) o (asks net e b)) (ih a g))
          (λ g. ap (both in_turn (val_op op) (asks net e a)) (ih b g) ∙ stuck_right in_turn (val_op op) (asks net e a))
          (both_stuck in_turn (val_op op) (asks net d a) (asks net d b) h)

-- a join is no greater than another, of numbers that are no greater
abbrev pub IsBelow : Join → Join → Type 0
IsBelow join other = (a b c d : ℕ) → a ≤ b → c ≤ d → join a c ≤ other b d

module _ (join other : Join) (net : NetTree) where
  -- by another join a question comes to the same value, and to a count that is no less where that join isn't
  rises : (k : ℕ) (p : Place) (v : Val) (n : ℕ) → counts join net k p ≡ gives v n →
      (m : ℕ) × ComesTo other net p v m × (IsBelow join other → n ≤ m)
  rises zero p v n h = cc
  rises (suc k) p v n h =
      let (m, x, l) = go (rises k) (look net p) v n (look_met join (counts join net k) (look net p) v n h) in
      (m, comes other net p v m (look net p) refl x, l)
    where
      go : ((p : Place) (v : Val) (n : ℕ) → counts join net k p ≡ gives v n →
          (m : ℕ) × ComesTo other net p v m × (IsBelow join other → n ≤ m)) → (l : Look) (v : Val) (n : ℕ) →
          Met join (λ p v n. counts join net k p ≡ gives v n) l v n →
          (m : ℕ) × Met other (ComesTo other net) l v m × (IsBelow join other → n ≤ m)
      go ih dead v n x = absurd x
      go ih (constant i m) v n (a, b) = (1, (a, refl), λ l. omega (arith, b))
      go ih (pass i q) v n (j, x, z) = let (m, y, l) = ih q v j x in (m + 2, (m, y, refl), λ b. omega (arith, z, l b))
      go ih (one i f q) v n (w, j, x, a, z) =
          let (m, y, l) = ih q w j x in
          (m + 2, (w, m, y, a, refl), λ b. omega (arith, z, l b))
      go ih (test i c a b) v n (w, j, x, j', x', z) =
          let (m, y, l) = ih c w j x in
          let (m', y', l') = ih (at_zero w a b) v j' x' in
          (m' + (m + 3), (w, m, y, m', y', refl), λ b. omega (arith, z, l b, l' b))
      go ih (two i op s a b) v n (x, y, j, j', g, g', e, z) =
          let (m, h, l) = ih a x j g in
          let (m', h', l') = ih b y j' g' in
          (other m m', (x, y, m, m', h, h', e, refl), λ b. let r = b j m j' m' (l b) (l' b) in omega (arith, z, r))

  -- and so a net has a count by it
  pub counts_rise : (v : Val) (n : ℕ) → Counts join net v n → (m : ℕ) × Counts other net v m × (IsBelow join other → n ≤ m)
  counts_rise v n (k, i, e, z) =
      let (m, (d, g), l) = rises k (start_of net) v i e in
      (suc m, (d, m, g, refl), λ b. let r = l b in omega (arith, z, r))
