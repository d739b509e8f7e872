-- What stands below a place, that is, what was asked from it on.
-- The tokens of a tree are those of its tickets, its entries are of places below its own, and a place is below itself by no question
-- asked, and below one of two questions of a place at most.
use Rattle.std.proofs.Common.{◌≡◌, ◌⊎◌, ℕ, zero, suc, ◌+◌, ◌≤◌, Bool, true, false, cond, [], Option, Some, None}
use Rattle.std.proofs.Common.{refl, sym, ap, ◌∙◌, subst, ⊎_elim, inl, inr, arith}
use Rattle.std.specs.Prelude.{nat_eq, if◌then◌else◌}
use Rattle.pcf_values.specs.declared.val.Val.{Val}
use Rattle.pcf_values.specs.Values.{at_zero}
use Rattle.pcf_values.specs.declared.operator.Operator.{Operator}
use Rattle.pcf_values.specs.declared.side.Side.{Side}
use Rattle.token_stacks.specs.Signatures.{Boxes}
use Rattle.fork_join.specs.Entries.{Entry, pending, kept_as, same_key}
use Rattle.net_build.specs.Nets.{NetTree}
use Rattle.net_build.specs.Sound.{Sound}
use Rattle.move_rules.specs.Places.{Place, down, turned, TokenTree, ask, ans}
use Rattle.move_rules.specs.Moves.{pass, one, test, two, look, solo, fork, join, move}
use Rattle.move_rules.specs.Table.{or_else}
use Rattle.interleave_laws.specs.States.{Entries, other}
use Rattle.interleave_laws.proofs.Parents.{parent, branch_parent, Fork, known}
use Rattle.fork_join.proofs.Keys.{key_true}
use Rattle.interleave_laws.proofs.Tree.{Tree, asking, coming, kept, passed, applied, tested, chosen, forked, Valid, token_in, status}
use Rattle.interleave_laws.proofs.Tree.{entry_in, tickets, Effect, turn, opens, keeps, closes, and_then, ancestor}

-- what a tree has of a ticket
pub token_ticket : (t : Tree) (p : Place) (j : ℕ) (x : TokenTree) → token_in t p j ≡ Some x → 1 ≤ tickets t j
token_ticket (asking i) p j x h = go (nat_eq j i) h
  where
    go : (b : Bool) → cond b (Some (ask p)) None ≡ Some x → 1 ≤ (if b then 1 else 0)
    go true h = omega arith
    go false h = cc
token_ticket (coming i v n) p j x h = go (nat_eq j i) h
  where
    go : (b : Bool) → cond b (Some (ans v (turned p))) None ≡ Some x → 1 ≤ (if b then 1 else 0)
    go true h = omega arith
    go false h = cc
token_ticket (kept v n) p j x h = cc
token_ticket (passed k q t) p j x h = token_ticket t q j x h
token_ticket (applied k f q t) p j x h = token_ticket t q j x h
token_ticket (tested k c a b t) p j x h = token_ticket t c j x h
token_ticket (chosen k c a b v n t) p j x h = token_ticket t (at_zero v a b) j x h
token_ticket (forked k op s a b l r) p j x h = go (token_in l a j) (token_ticket l a j) (token_ticket r b j x) h
  where
    go : (o : Option TokenTree) → ((x : TokenTree) → o ≡ Some x → 1 ≤ tickets l j) →
        (token_in r b j ≡ Some x → 1 ≤ tickets r j) → or_else o (token_in r b j) ≡ Some x → 1 ≤ tickets l j + tickets r j
    go (Some y) f g h = omega (arith, f y refl)
    go None f g h = omega (arith, g h)

-- an option is none or some
pub none_or_some : {A : Type 0} (o : Option A) → (o ≡ None) ⊎ ((x : A) × (o ≡ Some x))
none_or_some None = inl refl
none_or_some (Some x) = inr (x, refl)

-- a ticket that a tree doesn't have has no token in it
pub no_ticket : (t : Tree) (p : Place) (j : ℕ) → tickets t j ≡ 0 → token_in t p j ≡ None
no_ticket t p j h = ⊎_elim (λ e. e) (λ (x, e). let k = token_ticket t p j x e in absurd (omega arith)) (none_or_some (token_in t p j))

module _ (net : NetTree) where
  -- so many questions before, and so many more
  pub ancestor_add : (n m k : ℕ) (q r p : Place) → k ≡ n + m → ancestor net n q ≡ Some r → ancestor net m r ≡ Some p →
      ancestor net k q ≡ Some p
  ancestor_add zero m k q r p z h g = let e : q ≡ r = cc in let z' : m ≡ k = omega arith in
      subst (λ k. ancestor net k q ≡ Some p) z' (ap (ancestor net m) e ∙ g)
  ancestor_add (suc n) m zero q r p z h g = absurd (omega arith)
  ancestor_add (suc n) m (suc k) q r p z h g = go (λ q'. ancestor_add n m k q' r p (omega arith)) (parent net q) h
    where
      go : ((q' : Place) → ancestor net n q' ≡ Some r → ancestor net m r ≡ Some p → ancestor net k q' ≡ Some p) →
          (o : Option Place) → and_then o (ancestor net n) ≡ Some r → and_then o (ancestor net k) ≡ Some p
      go ih None h = cc
      go ih (Some q') h = ih q' h g

  -- one question more
  pub ancestor_snoc : (n : ℕ) (q r p : Place) → ancestor net n q ≡ Some r → parent net r ≡ Some p →
      ancestor net (suc n) q ≡ Some p
  ancestor_snoc n q r p h g = ancestor_add n 1 (suc n) q r p (omega arith) h (ap (λ o. and_then o (ancestor net zero)) g)

  -- an entry of a place below p
  abbrev pub BelowKey : Place → ℕ → Boxes → Type 0
  BelowKey p n s = (q : Place) × (m : ℕ) × (op : Operator) × (a : Place) × (b : Place) × (look net q ≡ two n op s a b) ×
      (ancestor net m q ≡ Some p)

  -- an effect concerns what stands below a place
  abbrev pub EffectBelow : Place → Effect → Type 0
  EffectBelow p (turn x) = Unit {0}
  EffectBelow p (opens n s l r) = BelowKey p n s
  EffectBelow p (keeps n s e) = BelowKey p n s
  EffectBelow p (closes n s x) = BelowKey p n s

  -- the entries of the places below p are those of the tree
  abbrev pub Agree : Entries → Tree → Place → Type 0
  Agree E t p = (q : Place) (m n : ℕ) (op : Operator) (s : Boxes) (a b : Place) → look net q ≡ two n op s a b →
      ancestor net m q ≡ Some p → E n s ≡ entry_in t n s

  -- the effect is what the machine does with the token
  abbrev pub Does : Entries → TokenTree → Effect → Type 0
  Does E x (turn y) = (k : ℕ) × (move net x ≡ solo k y)
  Does E x (opens n s l r) = (move net x ≡ fork n l r s) × (E n s ≡ None)
  Does E x (keeps n s e) = (op : Operator) × (d : Side) × (v : Val) × (w : ℕ) × (move net x ≡ join n op d v w s) ×
      (E n s ≡ Some pending) × (e ≡ kept_as d v)
  Does E x (closes n s y) = (op : Operator) × (d : Side) × (v : Val) × (w : ℕ) × (e : Entry) × (u : Val) ×
      (move net x ≡ join n op d v w s) × (E n s ≡ Some e) × (other op e d v ≡ Some u) × (y ≡ ans u (down w [] s))

  -- what stands below a question stands below the place that asked it
  pub below_up : (p q : Place) (n : ℕ) (s : Boxes) → parent net q ≡ Some p → BelowKey q n s → BelowKey p n s
  below_up p q n s h (r, m, op, a, b, l, g) = (r, suc m, op, a, b, l, ancestor_snoc m r q p g h)

  -- and so does an effect
  pub effect_up : (p q : Place) (f : Effect) → parent net q ≡ Some p → EffectBelow q f → EffectBelow p f
  effect_up p q (turn x) h g = tt
  effect_up p q (opens n s l r) h g = below_up p q n s h g
  effect_up p q (keeps n s e) h g = below_up p q n s h g
  effect_up p q (closes n s x) h g = below_up p q n s h g

  -- entries that agree with a tree at a place agree below it with a tree of the same entries
  pub agree_down : (E : Entries) (t t' : Tree) (p q : Place) → parent net q ≡ Some p →
      ((n : ℕ) (s : Boxes) → entry_in t n s ≡ entry_in t' n s) → Agree E t p → Agree E t' q
  agree_down E t t' p q h e g r m n op s a b l k = g r (suc m) n op s a b l (ancestor_snoc m r q p k h) ∙ e n s

module _ (net : NetTree) (sound : Sound net) where
  -- an entry of a tree is of a place below
  pub entry_below : (t : Tree) (p : Place) (n : ℕ) (s : Boxes) (e : Entry) → Valid net t p → entry_in t n s ≡ Some e →
      BelowKey net p n s
  entry_below (asking i) p n s e v h = cc
  entry_below (coming i w m) p n s e v h = cc
  entry_below (kept w m) p n s e v h = cc
  entry_below (passed k q t) p n s e v h = below_up net p q n s (known net sound p (pass k q) v.0).0 (entry_below t q n s e v.2 h)
  entry_below (applied k f q t) p n s e v h = below_up net p q n s (known net sound p (one k f q) v.0).0 (entry_below t q n s e v.2 h)
  entry_below (tested k c a b t) p n s e v h = below_up net p c n s (known net sound p (test k c a b) v.0).0.0 (entry_below t c n s e v.2 h)
  entry_below (chosen k c a b w m t) p n s e v h =
      below_up net p (at_zero w a b) n s (branch_parent net sound k c a b p w v.0) (entry_below t (at_zero w a b) n s e v.3 h)
  entry_below (forked k op u a b l r) p n s e v h =
      go (same_key n s k u) refl (entry_in l n s) (entry_below l a n s) (entry_below r b n s e v.3) h
    where
      f : Fork net p k op u a b
      f = known net sound p (two k op u a b) v.0

      go : (c : Bool) → same_key n s k u ≡ c → (o : Option Entry) →
          ((e : Entry) → Valid net l a → o ≡ Some e → BelowKey net a n s) → (entry_in r n s ≡ Some e → BelowKey net b n s) →
          cond c (Some (status l r)) (or_else o (entry_in r n s)) ≡ Some e → BelowKey net p n s
      go true z o i j h =
          let (y, y') = key_true n s k u z in
          (p, zero, op, a, b, v.0 ∙ ap (λ k. two k op u a b) (sym y) ∙ ap (λ u. two n op u a b) (sym y'), refl)
      go false z (Some y) i j h = below_up net p a n s f.left_parent (i y v.2 refl)
      go false z None i j h = below_up net p b n s f.right_parent (j h)

  module _ (root : Place) (top : parent net root ≡ None) where
    -- a place was asked from the root on
    abbrev pub Rooted : Place → Type 0
    Rooted p = (d : ℕ) × (ancestor net d p ≡ Some root)

    -- and so were its questions
    pub rooted_down : (p q : Place) → parent net q ≡ Some p → Rooted p → Rooted q
    rooted_down p q h (d, e) = (suc d, ap (λ o. and_then o (ancestor net d)) h ∙ e)

    -- a place was asked after one number of questions
    pub one_depth : (n m : ℕ) (q : Place) → ancestor net n q ≡ Some root → ancestor net m q ≡ Some root → n ≡ m
    one_depth zero zero q h g = refl
    one_depth zero (suc m) q h g = let e : q ≡ root = cc in let z = ap (λ o. and_then o (ancestor net m)) (ap (parent net) e ∙ top) in
        let no : None ≡ Some root = sym z ∙ g in cc
    one_depth (suc n) zero q h g = let e : q ≡ root = cc in let z = ap (λ o. and_then o (ancestor net n)) (ap (parent net) e ∙ top) in
        let no : None ≡ Some root = sym z ∙ h in cc
    one_depth (suc n) (suc m) q h g = go (one_depth n m) (parent net q) h g
      where
        go : ((q : Place) → ancestor net n q ≡ Some root → ancestor net m q ≡ Some root → n ≡ m) → (o : Option Place) →
            and_then o (ancestor net n) ≡ Some root → and_then o (ancestor net m) ≡ Some root → suc n ≡ suc m
        go ih None h g = cc
        go ih (Some q') h g = ap suc (ih q' h g)

    -- a place is not below its own child
    pub not_below : (p a : Place) (m : ℕ) → Rooted p → parent net a ≡ Some p → ancestor net m p ≡ Some a → ⊥
    not_below p a m (d, e) h g =
        let up = rooted_down p a h (d, e) in
        let all = ancestor_add net m up.0 (m + up.0) p a root refl g up.1 in
        let z = one_depth (m + up.0) d p all e in
        let one = one_depth up.0 (suc d) a up.1 (ap (λ o. and_then o (ancestor net d)) h ∙ e) in
        omega arith

    -- no place is below both children
    pub not_both : (p a b q : Place) (m n : ℕ) → Rooted p → parent net a ≡ Some p → parent net b ≡ Some p →
        (a ≡ b → ⊥) → ancestor net m q ≡ Some a → ancestor net n q ≡ Some b → ⊥
    not_both p a b q m n (d, e) h g differ i j =
        let ua : ancestor net (suc d) a ≡ Some root = ap (λ o. and_then o (ancestor net d)) h ∙ e in
        let ub : ancestor net (suc d) b ≡ Some root = ap (λ o. and_then o (ancestor net d)) g ∙ e in
        let la = ancestor_add net m (suc d) (m + suc d) q a root refl i ua in
        let lb = ancestor_add net n (suc d) (n + suc d) q b root refl j ub in
        let z = one_depth (m + suc d) (n + suc d) q la lb in
        let z' : m ≡ n = omega arith in
        let same : Some a ≡ Some b = sym i ∙ ap (λ m. ancestor net m q) z' ∙ j in
        differ cc
