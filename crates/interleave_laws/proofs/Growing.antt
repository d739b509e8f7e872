-- One step of a tree at each of its forms: the question goes on, or the answer of a part is back.
use Rattle.std.proofs.Common.{◌≡◌, ℕ, zero, suc, ◌+◌, Bool, true, false, cond, Some, None, refl, sym, ap, ◌∙◌, ⊎_elim}
use Rattle.std.proofs.Common.{inl, inr, arith}
use Rattle.std.proofs.lemmas.Bool.{eqb-true}
use Rattle.std.specs.Prelude.{nat_eq}
use Rattle.pcf_values.specs.declared.val.Val.{Val}
use Rattle.pcf_values.specs.declared.val.Val.TheVariants.{Number, Overflow}
use Rattle.pcf_values.specs.Values.{val_op, at_zero}
use Rattle.pcf_values.specs.declared.operator.Operator.{Operator}
use Rattle.pcf_values.specs.declared.side.Side.TheVariants.{Left, Right}
use Rattle.token_stacks.specs.Signatures.{Boxes}
use Rattle.fork_join.specs.Entries.{has_left, has_right, same_key}
use Rattle.net_build.specs.Nets.{NetTree}
use Rattle.net_build.specs.Sound.{Sound}
use Rattle.move_rules.specs.Places.{Place, turned, TokenTree, ask, ans}
use Rattle.move_rules.specs.Moves.{Look, dead, constant, pass, one, test, two, look, solo, move, ask_move}
use Rattle.move_rules.specs.Table.{or_else}
use Rattle.interleave_laws.specs.States.{Entries}
use Rattle.interleave_laws.proofs.Parents.{parent, branch_parent, Fork, known}
use Rattle.interleave_laws.proofs.Tree.{Tree, asking, coming, kept, passed, applied, tested, chosen, forked, Open, Gives, by_number}
use Rattle.interleave_laws.proofs.Tree.{by_pass, by_one, by_test, by_two, Valid, token_in, status, entry_in, Below, Visited, turn, opens}
use Rattle.interleave_laws.proofs.Tree.{keeps, closes, ancestor}
use Rattle.interleave_laws.proofs.Below.{ancestor_snoc, Agree, effect_up, Rooted, not_below, not_both}
use Rattle.interleave_laws.proofs.Effects.{right_pending, right_kept, twice, none_right, Progress, Outcome}

module _ (net : NetTree) (sound : Sound net) where
  pub below_down : (p r q : Place) → parent net r ≡ Some p → Below net r q → Below net p q
  below_down p r q h (m, e) = (suc m, ancestor_snoc net m q r p e h)

  pub test_differ : (k : ℕ) (c a b p : Place) (w : Val) → look net p ≡ test k c a b → c ≡ at_zero w a b → ⊥
  test_differ k c a b p (Number zero) h = (known net sound p (test k c a b) h).3
  test_differ k c a b p (Number (suc n)) h = (known net sound p (test k c a b) h).4
  test_differ k c a b p Overflow h = (known net sound p (test k c a b) h).4

  -- what was asked for a tree stands below it
  pub visited_below : (t : Tree) (p q : Place) → Valid net t p → Visited net t p q → Below net p q
  visited_below (asking i) p q v h = (zero, ap Some h)
  visited_below (coming i w n) p q v h = h
  visited_below (kept w n) p q v h = h
  visited_below (passed k r t) p q v h = ⊎_elim (λ e. (zero, ap Some e))
      (λ s. below_down p r q (known net sound p (pass k r) v.0).0 (visited_below t r q v.2 s)) h
  visited_below (applied k f r t) p q v h = ⊎_elim (λ e. (zero, ap Some e))
      (λ s. below_down p r q (known net sound p (one k f r) v.0).0 (visited_below t r q v.2 s)) h
  visited_below (tested k c a b t) p q v h = ⊎_elim (λ e. (zero, ap Some e))
      (λ s. below_down p c q (known net sound p (test k c a b) v.0).0.0 (visited_below t c q v.2 s)) h
  visited_below (chosen k c a b w n t) p q v h =
      ⊎_elim (λ e. (zero, ap Some e)) (⊎_elim (λ s. below_down p c q (known net sound p (test k c a b) v.0).0.0 s)
      (λ s. below_down p (at_zero w a b) q (branch_parent net sound k c a b p w v.0) (visited_below t (at_zero w a b) q v.3 s))) h
  visited_below (forked k op s a b l r) p q v h =
      let f : Fork net p k op s a b = known net sound p (two k op s a b) v.0 in
      ⊎_elim (λ e. (zero, ap Some e)) (⊎_elim (λ s. below_down p a q f.left_parent (visited_below l a q v.2 s))
      (λ s. below_down p b q f.right_parent (visited_below r b q v.3 s))) h

module _ (net : NetTree) (sound : Sound net) (root : Place) (top : parent net root ≡ None) (E : Entries) (i nx : ℕ)
    (x : TokenTree) where
  -- a child is not its parent, and what is below a child isn't either
  pub not_self : (p r q : Place) → Rooted net sound root top p → parent net r ≡ Some p → Below net r q → q ≡ p → ⊥
  not_self p r q d h (m, e) z = not_below net sound root top p r m d h (ap (ancestor net m) (sym z) ∙ e)

  -- no place is below two children
  pub not_two : (p a b q : Place) → Rooted net sound root top p → parent net a ≡ Some p → parent net b ≡ Some p →
      (a ≡ b → ⊥) → Below net a q → Below net b q → ⊥
  not_two p a b q d h g differ (m, e) (n, z) = not_both net sound root top p a b q m n d h g differ e z

  pub the_fork : (p : Place) (k : ℕ) (op : Operator) (s : Boxes) (a b : Place) → look net p ≡ two k op s a b → Fork net p k op s a b
  the_fork p k op s a b h = known net sound p (two k op s a b) h

  pub asks_here : (p : Place) (l : Look) → look net p ≡ l → x ≡ ask p → (i ≡ nx → ⊥) → Agree net E (asking i) p →
      Rooted net sound root top p → Outcome net E i nx x (asking i) p
  asks_here p dead h e d g dp = inr (inl (p, e, h))
  asks_here p (constant k v) h e d g dp = inr (inr (record {
    tree = coming i (Number v) 1;
    effect = turn (ans (Number v) (turned p));
    does = (k, ap (move net) e ∙ ap (λ l. ask_move l p) h);
    valid = by_number h;
    opened = tt;
    spends = refl;
    counts = λ j. refl;
    has_tokens = λ j. twice (nat_eq j i) _ _ _;
    has_entries = λ n s. refl;
    below = tt;
    visited = λ q h. (zero, ap Some h);
    new = λ q h. elim h [ ];
    differ = tt;
  }))
  asks_here p (pass k q) h0 e d g dp = inr (inr (record {
    tree = passed k q (asking i);
    effect = turn (ask q);
    does = (k, ap (move net) e ∙ ap (λ l. ask_move l p) h0);
    valid = (h0, tt, tt);
    opened = tt;
    spends = refl;
    counts = λ j. refl;
    has_tokens = λ j. twice (nat_eq j i) _ _ _;
    has_entries = λ n s. refl;
    below = tt;
    visited = λ r h. inl h;
    new = λ r h. (inr h, not_self p q r dp (known net sound p (pass k q) h0).0 (zero, ap Some h));
    differ = tt;
  }))
  asks_here p (one k f q) h0 e d g dp = inr (inr (record {
    tree = applied k f q (asking i);
    effect = turn (ask q);
    does = (k, ap (move net) e ∙ ap (λ l. ask_move l p) h0);
    valid = (h0, tt, tt);
    opened = tt;
    spends = refl;
    counts = λ j. refl;
    has_tokens = λ j. twice (nat_eq j i) _ _ _;
    has_entries = λ n s. refl;
    below = tt;
    visited = λ r h. inl h;
    new = λ r h. (inr h, not_self p q r dp (known net sound p (one k f q) h0).0 (zero, ap Some h));
    differ = tt;
  }))
  asks_here p (test k c a b) h0 e d g dp = inr (inr (record {
    tree = tested k c a b (asking i);
    effect = turn (ask c);
    does = (k, ap (move net) e ∙ ap (λ l. ask_move l p) h0);
    valid = (h0, tt, tt);
    opened = tt;
    spends = refl;
    counts = λ j. refl;
    has_tokens = λ j. twice (nat_eq j i) _ _ _;
    has_entries = λ n s. refl;
    below = tt;
    visited = λ r h. inl h;
    new = λ r h. (inr h, not_self p c r dp (known net sound p (test k c a b) h0).0.0 (zero, ap Some h));
    differ = tt;
  }))
  asks_here p (two k op s a b) h e d g dp = inr (inr (record {
    tree = forked k op s a b (asking i) (asking nx);
    effect = opens k s a b;
    does = (ap (move net) e ∙ ap (λ l. ask_move l p) h, g p zero k op s a b h refl);
    valid = (h, inl tt, tt, tt);
    opened = tt;
    spends = omega arith;
    counts = λ j. omega arith;
    has_tokens = λ j. fresh j (nat_eq j i) (nat_eq j nx) refl refl;
    has_entries = λ n s. refl;
    below = (p, zero, op, a, b, h, refl);
    visited = λ q h. inl h;
    new = λ q z. (
      inr z,
      λ e. ⊎_elim (λ y. not_self p a q dp (the_fork p k op s a b h).left_parent (zero, ap Some y) e)
          (λ y. not_self p b q dp (the_fork p k op s a b h).right_parent (zero, ap Some y) e) z,
    );
    differ = (the_fork p k op s a b h).differ;
  }))
    where
      fresh : (j : ℕ) (c d : Bool) → nat_eq j i ≡ c → nat_eq j nx ≡ d →
          or_else (cond c (Some (ask a)) None) (cond d (Some (ask b)) None) ≡ cond d (Some (ask b))
          (cond c (Some (ask a)) (cond c (Some (ask p)) None))
      fresh j true true y z = absurd (d (sym (eqb-true j i y) ∙ eqb-true j nx z))
      fresh j true false y z = refl
      fresh j false true y z = refl
      fresh j false false y z = refl

  -- a step of the one child is one of the tree
  pub up_passed : (k : ℕ) (q : Place) (t : Tree) (p : Place) → look net p ≡ pass k q → Rooted net sound root top p →
      Progress net E i nx x t q → Progress net E i nx x (passed k q t) p
  up_passed k q t p h dp g = record {
    visited = λ r. ⊎_elim inl (λ z. inr (g.visited r z));
    differ = g.differ;
    new = λ r z. let (y, unseen) = g.new r z in
        (inr y, ⊎_elim (not_self p q r dp (known net sound p (pass k q) h).0 (visited_below net sound g.tree q r g.valid y)) unseen);
    tree = passed k q g.tree;
    effect = g.effect;
    does = g.does;
    valid = (h, g.opened, g.valid);
    opened = tt;
    spends = ap suc g.spends;
    counts = g.counts;
    has_tokens = g.has_tokens;
    has_entries = g.has_entries;
    below = effect_up net p q g.effect (known net sound p (pass k q) h).0 g.below;
  }

  pub up_applied : (k : ℕ) (f : Val → Val) (q : Place) (t : Tree) (p : Place) → look net p ≡ one k f q →
      Rooted net sound root top p → Progress net E i nx x t q → Progress net E i nx x (applied k f q t) p
  up_applied k f q t p h dp g = record {
    visited = λ r. ⊎_elim inl (λ z. inr (g.visited r z));
    differ = g.differ;
    new = λ r z. let (y, unseen) = g.new r z in
        (inr y, ⊎_elim (not_self p q r dp (known net sound p (one k f q) h).0 (visited_below net sound g.tree q r g.valid y)) unseen);
    tree = applied k f q g.tree;
    effect = g.effect;
    does = g.does;
    valid = (h, g.opened, g.valid);
    opened = tt;
    spends = ap suc g.spends;
    counts = g.counts;
    has_tokens = g.has_tokens;
    has_entries = g.has_entries;
    below = effect_up net p q g.effect (known net sound p (one k f q) h).0 g.below;
  }

  pub up_tested : (k : ℕ) (c a b : Place) (t : Tree) (p : Place) → look net p ≡ test k c a b → Rooted net sound root top p →
      Progress net E i nx x t c → Progress net E i nx x (tested k c a b t) p
  up_tested k c a b t p h dp g = record {
    visited = λ r. ⊎_elim inl (λ z. inr (g.visited r z));
    differ = g.differ;
    new = λ r z. let (y, unseen) = g.new r z in (
      inr y,
      ⊎_elim (not_self p c r dp (known net sound p (test k c a b) h).0.0 (visited_below net sound g.tree c r g.valid y))
          unseen,
    );
    tree = tested k c a b g.tree;
    effect = g.effect;
    does = g.does;
    valid = (h, g.opened, g.valid);
    opened = tt;
    spends = ap suc g.spends;
    counts = g.counts;
    has_tokens = g.has_tokens;
    has_entries = g.has_entries;
    below = effect_up net p c g.effect (known net sound p (test k c a b) h).0.0 g.below;
  }

  pub branch_back : (k : ℕ) (c a b p : Place) (w v : Val) → look net p ≡ test k c a b → (j : ℕ) ×
      (move net (ans v (turned (at_zero w a b))) ≡ solo j (ans v (turned p)))
  branch_back k c a b p (Number zero) v h = (known net sound p (test k c a b) h).1.1 v
  branch_back k c a b p (Number (suc n)) v h = (known net sound p (test k c a b) h).2.1 v
  branch_back k c a b p Overflow v h = (known net sound p (test k c a b) h).2.1 v

  pub up_chosen : (k : ℕ) (c a b : Place) (w : Val) (m : ℕ) (t : Tree) (p : Place) → look net p ≡ test k c a b →
      Gives net c w m → Rooted net sound root top p → Progress net E i nx x t (at_zero w a b) →
      Progress net E i nx x (chosen k c a b w m t) p
  up_chosen k c a b w m t p h y dp g = record {
    visited = λ r. ⊎_elim inl (⊎_elim (λ z. inr (inl z)) (λ z. inr (inr (g.visited r z))));
    differ = g.differ;
    new = λ r z. let (u, unseen) = g.new r z in let bl = visited_below net sound g.tree (at_zero w a b) r g.valid u in (
      inr (inr u),
      ⊎_elim (not_self p (at_zero w a b) r dp (branch_parent net sound k c a b p w h) bl)
          (⊎_elim (λ z. not_two p c (at_zero w a b) r dp (known net sound p (test k c a b) h).0.0 (branch_parent net sound k c a b p w h)
          (test_differ net sound k c a b p w h) z bl) unseen),
    );
    tree = chosen k c a b w m g.tree;
    effect = g.effect;
    does = g.does;
    valid = (h, y, g.opened, g.valid);
    opened = tt;
    spends = let z = g.spends in omega arith;
    counts = g.counts;
    has_tokens = g.has_tokens;
    has_entries = g.has_entries;
    below = effect_up net p (at_zero w a b) g.effect (branch_parent net sound k c a b p w h) g.below;
  }

  -- the answer of the one child is back
  pub end_passed : (k : ℕ) (q : Place) (v : Val) (n : ℕ) (p : Place) → look net p ≡ pass k q → Gives net q v n →
      x ≡ ans v (turned q) → Progress net E i nx x (passed k q (coming i v n)) p
  end_passed k q v n p h y e =
      let (j, z) = (known net sound p (pass k q) h).1 v in
      record {
        tree = coming i v (n + 2);
        effect = turn (ans v (turned p));
        does = (j, ap (move net) e ∙ z);
        valid = by_pass h y;
        opened = tt;
        spends = omega arith;
        counts = λ j. refl;
        has_tokens = λ j. twice (nat_eq j i) _ _ _;
        has_entries = λ n s. refl;
        below = tt;
        visited = λ r. ⊎_elim (λ e. (zero, ap Some e)) (below_down net sound p q r (known net sound p (pass k q) h).0);
        new = λ r z. elim z [ ];
        differ = tt;
      }

  pub end_applied : (k : ℕ) (f : Val → Val) (q : Place) (v : Val) (n : ℕ) (p : Place) → look net p ≡ one k f q →
      Gives net q v n → x ≡ ans v (turned q) → Progress net E i nx x (applied k f q (coming i v n)) p
  end_applied k f q v n p h y e =
      let (j, z) = (known net sound p (one k f q) h).1 v in
      record {
        tree = coming i (f v) (n + 2);
        effect = turn (ans (f v) (turned p));
        does = (j, ap (move net) e ∙ z);
        valid = by_one h y;
        opened = tt;
        spends = omega arith;
        counts = λ j. refl;
        has_tokens = λ j. twice (nat_eq j i) _ _ _;
        has_entries = λ n s. refl;
        below = tt;
        visited = λ r. ⊎_elim (λ e. (zero, ap Some e)) (below_down net sound p q r (known net sound p (one k f q) h).0);
        new = λ r z. elim z [ ];
        differ = tt;
      }

  pub end_tested : (k : ℕ) (c a b : Place) (v : Val) (n : ℕ) (p : Place) → look net p ≡ test k c a b →
      Rooted net sound root top p → Gives net c v n → x ≡ ans v (turned c) → Progress net E i nx x (tested k c a b (coming i v n)) p
  end_tested k c a b v n p h dp y e =
      let (j, z) = (known net sound p (test k c a b) h).0.1 v in
      record {
        tree = chosen k c a b v n (asking i);
        effect = turn (ask (at_zero v a b));
        does = (j, ap (move net) e ∙ z);
        valid = (h, y, tt, tt);
        opened = tt;
        spends = omega arith;
        counts = λ j. refl;
        has_tokens = λ j. twice (nat_eq j i) _ _ _;
        has_entries = λ n s. refl;
        below = tt;
        visited = λ r. ⊎_elim inl (λ z. inr (inl z));
        differ = tt;
        new = λ r z. (
          inr (inr z),
          ⊎_elim (not_self p (at_zero v a b) r dp (branch_parent net sound k c a b p v h) (zero, ap Some z))
              (λ u. not_two p c (at_zero v a b) r dp (known net sound p (test k c a b) h).0.0 (branch_parent net sound k c a b p v h)
              (test_differ net sound k c a b p v h) u (zero, ap Some z)),
        );
      }

  pub end_chosen : (k : ℕ) (c a b : Place) (w : Val) (m : ℕ) (v : Val) (n : ℕ) (p : Place) → look net p ≡ test k c a b →
      Gives net c w m → Gives net (at_zero w a b) v n → x ≡ ans v (turned (at_zero w a b)) →
      Progress net E i nx x (chosen k c a b w m (coming i v n)) p
  end_chosen k c a b w m v n p h y y' e =
      let (j, z) = branch_back k c a b p w v h in
      record {
        tree = coming i v (n + (m + 3));
        effect = turn (ans v (turned p));
        does = (j, ap (move net) e ∙ z);
        valid = by_test h y y';
        opened = tt;
        spends = omega arith;
        counts = λ j. refl;
        has_tokens = λ j. twice (nat_eq j i) _ _ _;
        has_entries = λ n s. refl;
        below = tt;
        new = λ r z. elim z [ ];
        differ = tt;
        visited = λ r. ⊎_elim (λ e. (zero, ap Some e))
            (⊎_elim (below_down net sound p c r (known net sound p (test k c a b) h).0.0)
            (below_down net sound p (at_zero w a b) r (branch_parent net sound k c a b p w h)));
      }

  pub left_last : (k : ℕ) (op : Operator) (s : Boxes) (a b : Place) (v w : Val) (n m : ℕ) (p : Place) → look net p ≡ two k op s a b →
      Gives net a v n → Gives net b w m → x ≡ ans v (turned a) → E k s ≡ Some (has_right w) →
      Progress net E i nx x (forked k op s a b (coming i v n) (kept w m)) p
  left_last k op s a b v w n m p h y z e g =
      let f : Fork net p k op s a b = known net sound p (two k op s a b) h in
      record {
        tree = coming i (val_op op v w) (n + m + 3);
        effect = closes k s (ans (val_op op v w) (turned p));
        does = (
          op,
          Left,
          v,
          f.out,
          has_right w,
          val_op op v w,
          ap (move net) e ∙ f.left_joins v,
          g,
          refl,
          ap (λ p. ans (val_op op v w) (turned p)) f.is_up,
        );
        valid = by_two h y z;
        opened = tt;
        spends = omega arith;
        counts = λ j. omega arith;
        has_tokens = λ j. now (nat_eq j i);
        has_entries = λ u t. gone (same_key u t k s);
        below = (p, zero, op, a, b, h, refl);
        new = λ r z. elim z [ ];
        differ = tt;
        visited = λ r. ⊎_elim (λ e. (zero, ap Some e))
            (⊎_elim (below_down net sound p a r f.left_parent) (below_down net sound p b r f.right_parent));
      }
    where
      now : (c : Bool) → cond c (Some (ans (val_op op v w) (turned p))) None ≡ cond c (Some (ans (val_op op v w) (turned p)))
          (or_else (cond c (Some (ans v (turned a))) None) None)
      now true = refl
      now false = refl

      gone : (c : Bool) → None ≡ cond c None (cond c (Some (has_right w)) None)
      gone true = refl
      gone false = refl

  pub right_last : (k : ℕ) (op : Operator) (s : Boxes) (a b : Place) (v w : Val) (n m : ℕ) (p : Place) → look net p ≡ two k op s a b →
      Gives net a v n → Gives net b w m → x ≡ ans w (turned b) → E k s ≡ Some (has_left v) →
      Progress net E i nx x (forked k op s a b (kept v n) (coming i w m)) p
  right_last k op s a b v w n m p h y z e g =
      let f : Fork net p k op s a b = known net sound p (two k op s a b) h in
      record {
        tree = coming i (val_op op v w) (n + m + 3);
        effect = closes k s (ans (val_op op v w) (turned p));
        does = (
          op,
          Right,
          w,
          f.out,
          has_left v,
          val_op op v w,
          ap (move net) e ∙ f.right_joins w,
          g,
          refl,
          ap (λ p. ans (val_op op v w) (turned p)) f.is_up,
        );
        valid = by_two h y z;
        opened = tt;
        spends = omega arith;
        counts = λ j. omega arith;
        has_tokens = λ j. now (nat_eq j i);
        has_entries = λ u t. gone (same_key u t k s);
        below = (p, zero, op, a, b, h, refl);
        new = λ r z. elim z [ ];
        differ = tt;
        visited = λ r. ⊎_elim (λ e. (zero, ap Some e))
            (⊎_elim (below_down net sound p a r f.left_parent) (below_down net sound p b r f.right_parent));
      }
    where
      now : (c : Bool) → cond c (Some (ans (val_op op v w) (turned p))) None ≡ cond c (Some (ans (val_op op v w) (turned p)))
          (or_else None (cond c (Some (ans w (turned b))) None))
      now true = refl
      now false = refl

      gone : (c : Bool) → None ≡ cond c None (cond c (Some (has_left v)) None)
      gone true = refl
      gone false = refl

  pub left_first : (k : ℕ) (op : Operator) (s : Boxes) (a b : Place) (v : Val) (n : ℕ) (r : Tree) (p : Place) →
      look net p ≡ two k op s a b → Gives net a v n → Open r → Valid net r b → token_in r b i ≡ None →
      x ≡ ans v (turned a) → E k s ≡ Some (status (coming i v n) r) → Progress net E i nx x (forked k op s a b (coming i v n) r) p
  left_first k op s a b v n r p h y o z u e g =
      let f : Fork net p k op s a b = known net sound p (two k op s a b) h in
      record {
        tree = forked k op s a b (kept v n) r;
        effect = keeps k s (has_left v);
        does = (op, Left, v, f.out, ap (move net) e ∙ f.left_joins v, g ∙ ap Some (right_pending (coming i v n) r tt o), refl);
        valid = (h, inr o, y, z);
        opened = tt;
        spends = omega arith;
        counts = λ j. omega arith;
        has_tokens = λ j. now j (nat_eq j i) (λ q. ap (token_in r b) (eqb-true j i q) ∙ u);
        has_entries = λ n t. twice (same_key n t k s) _ _ _;
        below = (p, zero, op, a, b, h, refl);
        new = λ r z. elim z [ ];
        differ = tt;
        visited = λ r z. z;
      }
    where
      now : (j : ℕ) (c : Bool) → (c ≡ true → token_in r b j ≡ None) →
          token_in r b j ≡ cond c None (or_else (cond c (Some (ans v (turned a))) None) (token_in r b j))
      now j true q = q refl
      now j false q = refl

  pub right_first : (k : ℕ) (op : Operator) (s : Boxes) (a b : Place) (w : Val) (m : ℕ) (l : Tree) (p : Place) →
      look net p ≡ two k op s a b → Gives net b w m → Open l → Valid net l a → token_in l a i ≡ None →
      x ≡ ans w (turned b) → E k s ≡ Some (status l (coming i w m)) → Progress net E i nx x (forked k op s a b l (coming i w m)) p
  right_first k op s a b w m l p h y o z u e g =
      let f : Fork net p k op s a b = known net sound p (two k op s a b) h in
      record {
        tree = forked k op s a b l (kept w m);
        effect = keeps k s (has_right w);
        does = (op, Right, w, f.out, ap (move net) e ∙ f.right_joins w, g ∙ ap Some (right_pending l (coming i w m) o tt), refl);
        valid = (h, inl o, z, y);
        opened = tt;
        spends = omega arith;
        counts = λ j. omega arith;
        has_tokens = λ j. now j (nat_eq j i) (λ q. ap (token_in l a) (eqb-true j i q) ∙ u);
        has_entries = λ n t. ap (λ e. cond (same_key n t k s) (Some e) (or_else (entry_in l n t) None)) (right_kept l w m o) ∙
            twice (same_key n t k s) _ _ _;
        below = (p, zero, op, a, b, h, refl);
        new = λ r z. elim z [ ];
        differ = tt;
        visited = λ r z. z;
      }
    where
      now : (j : ℕ) (c : Bool) → (c ≡ true → token_in l a j ≡ None) →
          or_else (token_in l a j) None ≡ cond c None (or_else (token_in l a j) (cond c (Some (ans w (turned b))) None))
      now j true q = none_right (token_in l a j) None refl ∙ q refl
      now j false q = refl
