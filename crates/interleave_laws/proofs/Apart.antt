-- Live tokens of a tree ask different questions, and an open tree has a live token.
use Rattle.std.proofs.Common.{◌≡◌, ◌⊎◌, ℕ, zero, suc, Bool, true, false, cond, Option, Some, None, refl, sym, ap, ◌∙◌}
use Rattle.std.proofs.Common.{⊎_elim, inl, inr}
use Rattle.std.proofs.lemmas.Bool.{eq-eqb, eqb-true}
use Rattle.std.specs.Prelude.{nat_eq}
use Rattle.pcf_values.specs.Values.{at_zero}
use Rattle.token_stacks.specs.Signatures.{Work, Boxes}
use Rattle.net_build.specs.Nets.{NetTree}
use Rattle.net_build.specs.declared.node.Node.{Node}
use Rattle.net_build.specs.declared.node.Node.TheVariants.{Const, Succ, Pred, Ifz, Binary}
use Rattle.net_build.specs.Faces.{node_above, node_below}
use Rattle.net_build.specs.Sound.{Sound}
use Rattle.move_rules.specs.Places.{Place, up, down, turned, TokenTree, ask, ans}
use Rattle.move_rules.specs.Table.{on_found, plain_up, plain_down, or_else}
use Rattle.move_rules.specs.Moves.{dead, pass, one, test, two, pass_at, look_up, look}
use Rattle.move_rules.proofs.Rows.{turned_twice, from_found}
use Rattle.interleave_laws.proofs.Parents.{branch_parent, parent, above_operand, turned_option, Fork, known}
use Rattle.interleave_laws.proofs.Tree.{Tree, asking, coming, kept, passed, applied, tested, chosen, forked, Open, Valid, token_in}
use Rattle.interleave_laws.proofs.Tree.{ancestor}
use Rattle.interleave_laws.proofs.Below.{ancestor_snoc, not_both, Rooted, rooted_down}

-- the question of a token
abbrev pub asked : TokenTree → Place
asked (ask q) = q
asked (ans v q) = turned q

module _ (net : NetTree) (sound : Sound net) where
  -- a token's question is below the tree's place
  pub token_below : (t : Tree) (p : Place) (j : ℕ) (x : TokenTree) → Valid net t p → token_in t p j ≡ Some x → (m : ℕ) ×
      (ancestor net m (asked x) ≡ Some p)
  token_below (asking i) p j x v h = go (nat_eq j i) h
    where
      go : (b : Bool) → cond b (Some (ask p)) None ≡ Some x → (m : ℕ) × (ancestor net m (asked x) ≡ Some p)
      go true h = let e : ask p ≡ x = cc in (zero, ap (λ x. Some (asked x)) (sym e))
      go false h = cc
  token_below (coming i w n) p j x v h = go (nat_eq j i) h
    where
      go : (b : Bool) → cond b (Some (ans w (turned p))) None ≡ Some x → (m : ℕ) × (ancestor net m (asked x) ≡ Some p)
      go true h = let e : ans w (turned p) ≡ x = cc in (zero, ap (λ x. Some (asked x)) (sym e) ∙ ap Some (turned_twice p))
      go false h = cc
  token_below (kept w n) p j x v h = cc
  token_below (passed k q t) p j x v h = let (m, e) = token_below t q j x v.2 h in
      (suc m, ancestor_snoc net m (asked x) q p e (known net sound p (pass k q) v.0).0)
  token_below (applied k f q t) p j x v h = let (m, e) = token_below t q j x v.2 h in
      (suc m, ancestor_snoc net m (asked x) q p e (known net sound p (one k f q) v.0).0)
  token_below (tested k c a b t) p j x v h = let (m, e) = token_below t c j x v.2 h in
      (suc m, ancestor_snoc net m (asked x) c p e (known net sound p (test k c a b) v.0).0.0)
  token_below (chosen k c a b w n t) p j x v h = let (m, e) = token_below t (at_zero w a b) j x v.3 h in
      (suc m, ancestor_snoc net m (asked x) (at_zero w a b) p e (branch_parent net sound k c a b p w v.0))
  token_below (forked k op s a b l r) p j x v h = go (token_in l a j) (token_below l a j x v.2) (token_below r b j x v.3) refl h
    where
      f : Fork net p k op s a b
      f = known net sound p (two k op s a b) v.0

      go : (o : Option TokenTree) → (token_in l a j ≡ Some x → (m : ℕ) × (ancestor net m (asked x) ≡ Some a)) →
          (token_in r b j ≡ Some x → (m : ℕ) × (ancestor net m (asked x) ≡ Some b)) → token_in l a j ≡ o →
          or_else o (token_in r b j) ≡ Some x → (m : ℕ) × (ancestor net m (asked x) ≡ Some p)
      go (Some y) u u' e h = let (m, z) = u (e ∙ h) in (suc m, ancestor_snoc net m (asked x) a p z f.left_parent)
      go None u u' e h = let (m, z) = u' h in (suc m, ancestor_snoc net m (asked x) b p z f.right_parent)

  module _ (root : Place) (top : parent net root ≡ None) where
    -- different tickets are of different questions
    pub asked_apart : (t : Tree) (p : Place) (i j : ℕ) (x y : TokenTree) → Valid net t p → Rooted net sound root top p →
        token_in t p i ≡ Some x → token_in t p j ≡ Some y → (i ≡ j → ⊥) → asked x ≡ asked y → ⊥
    asked_apart (asking k) p i j x y v d h g n e = go (nat_eq i k) (nat_eq j k) refl refl h g
      where
        go : (b c : Bool) → nat_eq i k ≡ b → nat_eq j k ≡ c → cond b (Some (ask p)) None ≡ Some x →
            cond c (Some (ask p)) None ≡ Some y → ⊥
        go true true u w h g = n (eqb-true i k u ∙ sym (eqb-true j k w))
        go true false u w h g = cc
        go false c u w h g = cc
    asked_apart (coming k w' m) p i j x y v d h g n e = go (nat_eq i k) (nat_eq j k) refl refl h g
      where
        go : (b c : Bool) → nat_eq i k ≡ b → nat_eq j k ≡ c → cond b (Some (ans w' (turned p))) None ≡ Some x →
            cond c (Some (ans w' (turned p))) None ≡ Some y → ⊥
        go true true u w h g = n (eqb-true i k u ∙ sym (eqb-true j k w))
        go true false u w h g = cc
        go false c u w h g = cc
    asked_apart (kept w m) p i j x y v d h g n e = cc
    asked_apart (passed k q t) p i j x y v d h g n e =
        asked_apart t q i j x y v.2 (rooted_down net sound root top p q (known net sound p (pass k q) v.0).0 d) h g n e
    asked_apart (applied k f q t) p i j x y v d h g n e =
        asked_apart t q i j x y v.2 (rooted_down net sound root top p q (known net sound p (one k f q) v.0).0 d) h g n e
    asked_apart (tested k c a b t) p i j x y v d h g n e =
        asked_apart t c i j x y v.2 (rooted_down net sound root top p c (known net sound p (test k c a b) v.0).0.0 d) h g n e
    asked_apart (chosen k c a b w m t) p i j x y v d h g n e =
        asked_apart t (at_zero w a b) i j x y v.3
        (rooted_down net sound root top p (at_zero w a b) (branch_parent net sound k c a b p w v.0) d) h g n e
    asked_apart (forked k op s a b l r) p i j x y v d h g n e =
        go (token_in l a i) (token_in l a j) refl refl
        (asked_apart l a i j x y v.2 (rooted_down net sound root top p a f.left_parent d))
        (asked_apart r b i j x y v.3 (rooted_down net sound root top p b f.right_parent d)) h g
      where
        f : Fork net p k op s a b
        f = known net sound p (two k op s a b) v.0

        cross : (x y : TokenTree) (i j : ℕ) → token_in l a i ≡ Some x → token_in r b j ≡ Some y → asked x ≡ asked y → ⊥
        cross x y i j h g e =
            let (m, z) = token_below l a i x v.2 h in
            let (m', z') = token_below r b j y v.3 g in
            not_both net sound root top p a b (asked x) m m' d f.left_parent f.right_parent f.differ z (ap (ancestor net m') e ∙ z')

        go : (o o' : Option TokenTree) → token_in l a i ≡ o → token_in l a j ≡ o' →
            (token_in l a i ≡ Some x → token_in l a j ≡ Some y → (i ≡ j → ⊥) → asked x ≡ asked y → ⊥) →
            (token_in r b i ≡ Some x → token_in r b j ≡ Some y → (i ≡ j → ⊥) → asked x ≡ asked y → ⊥) →
            or_else o (token_in r b i) ≡ Some x → or_else o' (token_in r b j) ≡ Some y → ⊥
        go (Some z) (Some z') u u' il ir h g = il (u ∙ h) (u' ∙ g) n e
        go (Some z) None u u' il ir h g = cross x y i j (u ∙ h) g e
        go None (Some z') u u' il ir h g = cross y x j i (u' ∙ g) h (sym e)
        go None None u u' il ir h g = ir h g n e

-- a tree has a live token
pub some_live : (t : Tree) (p : Place) → Open t → (net : NetTree) → Valid net t p → (j : ℕ) × (x : TokenTree) ×
    (token_in t p j ≡ Some x)
some_live (asking i) p o net v = (i, ask p, ap (λ b. cond b (Some (ask p)) None) (eq-eqb i i refl))
some_live (coming i w n) p o net v = (i, ans w (turned p), ap (λ b. cond b (Some (ans w (turned p))) None) (eq-eqb i i refl))
some_live (kept w n) p o net v = elim o [ ]
some_live (passed k q t) p o net v = some_live t q v.1 net v.2
some_live (applied k f q t) p o net v = some_live t q v.1 net v.2
some_live (tested k c a b t) p o net v = some_live t c v.1 net v.2
some_live (chosen k c a b w n t) p o net v = some_live t (at_zero w a b) v.2 net v.3
some_live (forked k op s a b l r) p o net v = go v.1 (λ o. some_live l a o net v.2) (λ o. some_live r b o net v.3)
  where
    or_any : (o : Option TokenTree) (x : TokenTree) → (y : TokenTree) × (or_else o (Some x) ≡ Some y)
    or_any None x = (x, refl)
    or_any (Some z) x = (z, refl)

    go : Open l ⊎ Open r → (Open l → (j : ℕ) × (x : TokenTree) × (token_in l a j ≡ Some x)) →
        (Open r → (j : ℕ) × (x : TokenTree) × (token_in r b j ≡ Some x)) → (j : ℕ) × (x : TokenTree) ×
        (or_else (token_in l a j) (token_in r b j) ≡ Some x)
    go (inl o) f g = let (j, x, e) = f o in (j, x, ap (λ z. or_else z (token_in r b j)) e)
    go (inr o) f g = let (j, x, e) = g o in let (y, e') = or_any (token_in l a j) x in (j, y, ap (or_else (token_in l a j)) e ∙ e')

-- a question that goes down a way that was asked meets the end of that way, where nothing fits
turn_down : (i : ℕ) (n : Node) (m : Work) (t : Boxes) (w : ℕ) (r : Place) →
    above_operand n m t (turned_option (plain_down n w m t)) ≡ Some r → (pass_at i (plain_down n w m t) ≡ dead) ⊎
    (pass_at i (plain_down n w m t) ≡ pass i (turned r))
turn_down i n m t w r h = go n (plain_down n w m t) refl h
  where
    back : (s : Place) → Some (turned s) ≡ Some r → pass i s ≡ pass i (turned r)
    back s h = let e : turned s ≡ r = cc in ap (pass i) (sym (turned_twice s) ∙ ap turned e)

    go : (n : Node) (o : Option Place) → plain_down n w m t ≡ o → above_operand n m t (turned_option o) ≡ Some r →
        (pass_at i o ≡ dead) ⊎ (pass_at i o ≡ pass i (turned r))
    go n None e h = inl refl
    go (Succ a c) (Some s) e h = cc
    go (Pred a c) (Some s) e h = cc
    go (Ifz b p q c) (Some s) e h = cc
    go (Binary o a b c) (Some s) e h = cc
    go n (Some s) e h = inr (back s h)

-- where a plain rule leads from a conclusion, a question there is passed on to where it leads
turn_up : (i : ℕ) (n : Node) (w : ℕ) (m : Work) (t : Boxes) (r : Place) → turned_option (plain_up n w m t) ≡ Some r →
    look_up i n w m t ≡ pass i (turned r)
turn_up i (Const v c) w m t r h = cc
turn_up i (Succ a c) w m t r h = cc
turn_up i (Pred a c) w m t r h = cc
turn_up i (Ifz b p q c) w m t r h = cc
turn_up i (Binary o a b c) w m t r h = cc
turn_up i n w m t r h = go (plain_up n w m t) h
  where
    go : (o : Option Place) → turned_option o ≡ Some r → pass_at i o ≡ pass i (turned r)
    go None h = cc
    go (Some s) h = let e : turned s ≡ r = cc in ap (pass i) (sym (turned_twice s) ∙ ap turned e)

-- a question that goes down a way that was asked meets nothing, or goes back the way
pub turned_look : (net : NetTree) (q r : Place) → parent net q ≡ Some r → (look net (turned q) ≡ dead) ⊎
    ((i : ℕ) × (look net (turned q) ≡ pass i (turned r)))
turned_look net (up w m t) r h =
    let (i, n, e, g) = from_found (node_below net w) (λ i n. above_operand n m t (turned_option (plain_down n w m t))) r h in
    let z = ap (λ o. on_found o dead (λ i n. pass_at i (plain_down n w m t))) e in
    ⊎_elim (λ y. inl (z ∙ y)) (λ y. inr (i, z ∙ y)) (turn_down i n m t w r g)
turned_look net (down w m t) r h =
    let (i, n, e, g) = from_found (node_above net w) (λ i n. turned_option (plain_up n w m t)) r h in
    inr (i, ap (λ o. on_found o dead (λ i n. look_up i n w m t)) e ∙ turn_up i n w m t r g)
