-- One move of a live ticket is one step of the tree.
-- By induction on the tree, with the forms' own steps at the end where the ticket stands, and otherwise the step of a part put back into
-- its place.
use Rattle.std.proofs.Common.{◌≡◌, ℕ, zero, suc, ◌≤◌, Bool, true, false, cond, Option, Some, None, refl, sym, ap, ◌∙◌}
use Rattle.std.proofs.Common.{subst, ⊎_elim, inl, inr, arith}
use Rattle.std.proofs.lemmas.Bool.{eq-eqb, eqb-true}
use Rattle.std.specs.Prelude.{nat_eq, if◌then◌else◌}
use Rattle.pcf_values.specs.declared.val.Val.{Val}
use Rattle.pcf_values.specs.Values.{at_zero}
use Rattle.pcf_values.specs.declared.operator.Operator.{Operator}
use Rattle.token_stacks.specs.Signatures.{Boxes}
use Rattle.fork_join.specs.Entries.{Entry, same_key}
use Rattle.net_build.specs.Nets.{NetTree}
use Rattle.net_build.specs.Sound.{Sound}
use Rattle.move_rules.specs.Places.{Place, turned, TokenTree, ask, ans}
use Rattle.move_rules.specs.Moves.{pass, one, test, two, look}
use Rattle.move_rules.specs.Table.{or_else}
use Rattle.interleave_laws.specs.States.{Entries}
use Rattle.interleave_laws.proofs.Parents.{parent, branch_parent, Fork, known, key_place}
use Rattle.fork_join.proofs.Keys.{key_true, key_same}
use Rattle.interleave_laws.proofs.Tree.{Tree, asking, coming, kept, passed, applied, tested, chosen, forked, Open, Gives, Valid, token_in}
use Rattle.interleave_laws.proofs.Tree.{status, entry_in, tickets, at_key, new_entry, ancestor}
use Rattle.interleave_laws.proofs.Below.{token_ticket, none_or_some, no_ticket, ancestor_snoc, BelowKey, Agree, effect_up, agree_down}
use Rattle.interleave_laws.proofs.Below.{entry_below, Rooted, rooted_down, not_below, not_both}
use Rattle.interleave_laws.proofs.Effects.{open_or_kept, status_left, status_right, none_right, tokens_left, tokens_right, hit_below}
use Rattle.interleave_laws.proofs.Effects.{Progress, Outcome}
use Rattle.interleave_laws.proofs.Growing.{visited_below, not_self, not_two, asks_here, up_passed, up_applied, up_tested, up_chosen}
use Rattle.interleave_laws.proofs.Growing.{end_passed, end_applied, end_tested, end_chosen, left_last, right_last, left_first, right_first}

module _ (net : NetTree) (sound : Sound net) (root : Place) (top : parent net root ≡ None) where
  -- below a child stands no place with the key of its parent, and none with a key of the other child's tree
  pub not_own : (k : ℕ) (op : Operator) (s : Boxes) (a b p c : Place) (m : ℕ) (t : Boxes) → look net p ≡ two k op s a b →
      Rooted net sound root top p → parent net c ≡ Some p → BelowKey net c m t → same_key m t k s ≡ true → ⊥
  not_own k op s a b p c m t h d g (q, n, op', a', b', l, z) e =
      let (y, y') = key_true m t k s e in
      let l' : look net q ≡ two k op' s a' b' = l ∙ ap (λ m. two m op' t a' b') y ∙ ap (λ t. two k op' t a' b') y' in
      let same = key_place net sound q p k op' op s a' b' a b l' h in
      not_below net sound root top p c n d g (ap (ancestor net n) (sym same) ∙ z)

  pub not_other : (p a b : Place) (r : Tree) (m : ℕ) (t : Boxes) → Rooted net sound root top p → parent net a ≡ Some p →
      parent net b ≡ Some p → (a ≡ b → ⊥) → Valid net r b → BelowKey net a m t → entry_in r m t ≡ None
  not_other p a b r m t d g g' differ v (q, n, op, a', b', l, z) =
      ⊎_elim (λ e. e) (λ (e, y).
      let (q', n', op', a'', b'', l', z') = entry_below net sound r b m t e v y in
      let same = key_place net sound q q' m op op' t a' b' a'' b'' l l' in
      absurd (not_both net sound root top p a b q n n' d g g' differ z (ap (ancestor net n') same ∙ z')))
      (none_or_some (entry_in r m t))

  module _ (E : Entries) (i nx : ℕ) (x : TokenTree) where
    -- what one move makes of the left part, it makes of the whole
    pub up_left : (k : ℕ) (op : Operator) (s : Boxes) (a b : Place) (l r : Tree) (p : Place) → look net p ≡ two k op s a b →
        Rooted net sound root top p → Open l → Valid net r b → token_in r b i ≡ None → Progress net E i nx x l a →
        Progress net E i nx x (forked k op s a b l r) p
    up_left k op s a b l r p h d o v u g =
        let f : Fork net p k op s a b = known net sound p (two k op s a b) h in
        record {
          tree = forked k op s a b g.tree r;
          effect = g.effect;
          does = g.does;
          valid = (h, inl g.opened, g.valid, v);
          opened = tt;
          spends = let z = g.spends in omega arith;
          counts = λ j. omega (arith, g.counts j);
          has_tokens = tokens_left g.effect i nx (token_in l a) (token_in g.tree a) (token_in r b) g.has_tokens u;
          has_entries = λ m t. now m t (same_key m t k s) (at_key g.effect m t) refl refl;
          below = effect_up net p a g.effect f.left_parent g.below;
          differ = g.differ;
          visited = λ q. ⊎_elim inl (⊎_elim (λ z. inr (inl (g.visited q z))) (λ z. inr (inr z)));
          new = λ q z. let (y, unseen) = g.new q z in let bl = visited_below net sound g.tree a q g.valid y in (
            inr (inl y),
            ⊎_elim (not_self net sound root top E i nx x p a q d f.left_parent bl)
                (⊎_elim unseen (λ w. not_two net sound root top E i nx x p a b q d f.left_parent f.right_parent f.differ bl
                (visited_below net sound r b q v w))),
          );
        }
      where
        now : (m : ℕ) (t : Boxes) (c e : Bool) → same_key m t k s ≡ c → at_key g.effect m t ≡ e →
            cond c (Some (status g.tree r)) (or_else (entry_in g.tree m t) (entry_in r m t)) ≡ cond e (new_entry g.effect)
            (cond c (Some (status l r)) (or_else (entry_in l m t) (entry_in r m t)))
        now m t true true y z =
            absurd (not_own k op s a b p a m t h d (known net sound p (two k op s a b) h).left_parent
            (hit_below net a g.effect m t z g.below)
            y)
        now m t true false y z = ap Some (status_left l g.tree r o g.opened)
        now m t false true y z =
            let f : Fork net p k op s a b = known net sound p (two k op s a b) h in
            let none = not_other p a b r m t d f.left_parent f.right_parent f.differ v (hit_below net a g.effect m t z g.below) in
            none_right (entry_in g.tree m t) (entry_in r m t) none ∙ g.has_entries m t ∙
            ap (λ e. cond e (new_entry g.effect) (entry_in l m t)) z
        now m t false false y z = ap (λ o. or_else o (entry_in r m t)) (g.has_entries m t ∙
            ap (λ e. cond e (new_entry g.effect) (entry_in l m t)) z)

    -- and so it is of the right part
    pub up_right : (k : ℕ) (op : Operator) (s : Boxes) (a b : Place) (l r : Tree) (p : Place) → look net p ≡ two k op s a b →
        Rooted net sound root top p → Open r → Valid net l a → token_in l a i ≡ None → token_in l a nx ≡ None →
        Progress net E i nx x r b → Progress net E i nx x (forked k op s a b l r) p
    up_right k op s a b l r p h d o v u u' g =
        let f : Fork net p k op s a b = known net sound p (two k op s a b) h in
        record {
          tree = forked k op s a b l g.tree;
          effect = g.effect;
          does = g.does;
          valid = (h, inr g.opened, v, g.valid);
          opened = tt;
          spends = let z = g.spends in omega arith;
          counts = λ j. omega (arith, g.counts j);
          has_tokens = tokens_right g.effect i nx (token_in l a) (token_in r b) (token_in g.tree b) g.has_tokens u u';
          has_entries = λ m t. now m t (same_key m t k s) (at_key g.effect m t) refl refl;
          below = effect_up net p b g.effect f.right_parent g.below;
          differ = g.differ;
          visited = λ q. ⊎_elim inl (⊎_elim (λ z. inr (inl z)) (λ z. inr (inr (g.visited q z))));
          new = λ q z. let (y, unseen) = g.new q z in let bl = visited_below net sound g.tree b q g.valid y in (
            inr (inr y),
            ⊎_elim (not_self net sound root top E i nx x p b q d f.right_parent bl)
                (⊎_elim (λ w. not_two net sound root top E i nx x p a b q d f.left_parent f.right_parent f.differ
                (visited_below net sound l a q v w) bl) unseen),
          );
        }
      where
        none_left : (o r : Option Entry) → o ≡ None → or_else o r ≡ r
        none_left o r h = ap (λ o. or_else o r) h

        now : (m : ℕ) (t : Boxes) (c e : Bool) → same_key m t k s ≡ c → at_key g.effect m t ≡ e →
            cond c (Some (status l g.tree)) (or_else (entry_in l m t) (entry_in g.tree m t)) ≡ cond e (new_entry g.effect)
            (cond c (Some (status l r)) (or_else (entry_in l m t) (entry_in r m t)))
        now m t true true y z =
            absurd (not_own k op s a b p b m t h d (known net sound p (two k op s a b) h).right_parent
            (hit_below net b g.effect m t z g.below) y)
        now m t true false y z = ap Some (status_right l r g.tree o g.opened)
        now m t false true y z =
            let f : Fork net p k op s a b = known net sound p (two k op s a b) h in
            let none = not_other p b a l m t d f.right_parent f.left_parent
            (λ q. f.differ (let q' : a ≡ b = cc in q')) v (hit_below net b g.effect m t z g.below) in
            none_left (entry_in l m t) (entry_in g.tree m t) none ∙ g.has_entries m t ∙
            ap (λ e. cond e (new_entry g.effect) (entry_in r m t)) z
        now m t false false y z = ap (or_else (entry_in l m t)) (g.has_entries m t ∙
            ap (λ e. cond e (new_entry g.effect) (entry_in r m t)) z)

    -- what the tree says of the entries holds of each child
    pub agree_left : (k : ℕ) (op : Operator) (s : Boxes) (a b : Place) (l r : Tree) (p : Place) → look net p ≡ two k op s a b →
        Rooted net sound root top p → Valid net r b → Agree net E (forked k op s a b l r) p → Agree net E l a
    agree_left k op s a b l r p h d v g q m n op' u a' b' y z =
        let f : Fork net p k op s a b = known net sound p (two k op s a b) h in
        let key : BelowKey net a n u = (q, m, op', a', b', y, z) in
        g q (suc m) n op' u a' b' y (ancestor_snoc net m q a p z f.left_parent) ∙
        now (same_key n u k s) refl key (not_other p a b r n u d f.left_parent f.right_parent f.differ v key)
      where
        now : (c : Bool) → same_key n u k s ≡ c → BelowKey net a n u → entry_in r n u ≡ None →
            cond c (Some (status l r)) (or_else (entry_in l n u) (entry_in r n u)) ≡ entry_in l n u
        now true e key none = absurd (not_own k op s a b p a n u h d (known net sound p (two k op s a b) h).left_parent key e)
        now false e key none = none_right (entry_in l n u) (entry_in r n u) none

    -- entries that agree with the whole agree with its right part
    pub agree_right : (k : ℕ) (op : Operator) (s : Boxes) (a b : Place) (l r : Tree) (p : Place) → look net p ≡ two k op s a b →
        Rooted net sound root top p → Valid net l a → Agree net E (forked k op s a b l r) p → Agree net E r b
    agree_right k op s a b l r p h d v g q m n op' u a' b' y z =
        let f : Fork net p k op s a b = known net sound p (two k op s a b) h in
        let key : BelowKey net b n u = (q, m, op', a', b', y, z) in
        g q (suc m) n op' u a' b' y (ancestor_snoc net m q b p z f.right_parent) ∙
        now (same_key n u k s) refl key (not_other p b a l n u d f.right_parent f.left_parent
        (λ q. f.differ (let q' : a ≡ b = cc in q')) v key)
      where
        now : (c : Bool) → same_key n u k s ≡ c → BelowKey net b n u → entry_in l n u ≡ None →
            cond c (Some (status l r)) (or_else (entry_in l n u) (entry_in r n u)) ≡ entry_in r n u
        now true e key none = absurd (not_own k op s a b p b n u h d (known net sound p (two k op s a b) h).right_parent key e)
        now false e key none = ap (λ o. or_else o (entry_in r n u)) none

    -- a fork's own entry is there
    pub own_entry : (k : ℕ) (op : Operator) (s : Boxes) (a b : Place) (l r : Tree) (p : Place) → look net p ≡ two k op s a b →
        Agree net E (forked k op s a b l r) p → E k s ≡ Some (status l r)
    own_entry k op s a b l r p h g = g p zero k op s a b h refl ∙
        ap (λ c. cond c (Some (status l r)) (or_else (entry_in l k s) (entry_in r k s))) (key_same k s)

    -- what to do with what came of a child
    pub after_one : (t t' : Tree) (p q : Place) → (Progress net E i nx x t q → Progress net E i nx x t' p) →
        ((v : Val) (n : ℕ) → t ≡ coming i v n → x ≡ ans v (turned q) → Progress net E i nx x t' p) →
        Outcome net E i nx x t q → Outcome net E i nx x t' p
    after_one t t' p q f g (inl (v, n, e, z)) = inr (inr (g v n e z))
    after_one t t' p q f g (inr (inl h)) = inr (inl h)
    after_one t t' p q f g (inr (inr h)) = inr (inr (f h))

    -- one move of a live ticket is one step of the tree
    pub advance : (t : Tree) (p : Place) → Valid net t p → Open t → Rooted net sound root top p → Agree net E t p →
        token_in t p i ≡ Some x → ((j : ℕ) → tickets t j ≤ 1) → tickets t nx ≡ 0 → Outcome net E i nx x t p
    advance (asking j) p v o d g h single none = go (nat_eq i j) refl h
      where
        apart : nx ≡ j → ⊥
        apart q = let k = eq-eqb nx j q in let bad : (if nat_eq nx j then 1 else 0) ≡ 0 = none in let bad' = rw k at bad in cc

        go : (c : Bool) → nat_eq i j ≡ c → cond c (Some (ask p)) None ≡ Some x → Outcome net E i nx x (asking j) p
        go true e h =
            let same = eqb-true i j e in
            let z : x ≡ ask p = cc in
            subst (λ j. Outcome net E i nx x (asking j) p) same
            (asks_here net sound root top E i nx x p (look net p) refl z (λ q. apart (sym q ∙ same))
            (λ q m n op s a b l y. g q m n op s a b l y) d)
        go false e h = cc
    advance (coming j w n) p v o d g h single none = go (nat_eq i j) refl h
      where
        go : (c : Bool) → nat_eq i j ≡ c → cond c (Some (ans w (turned p))) None ≡ Some x → Outcome net E i nx x (coming j w n) p
        go true e h = let same = eqb-true i j e in let z : x ≡ ans w (turned p) = cc in inl (w, n, ap (λ j. coming j w n) (sym same), z)
        go false e h = cc
    advance (kept w n) p v o d g h single none = elim o [ ]
    advance (passed k q t) p v o d g h single none =
        let up = (known net sound p (pass k q) v.0).0 in
        after_one t (passed k q t) p q (up_passed net sound root top E i nx x k q t p v.0 d)
        (λ w n e z. subst (λ t. Progress net E i nx x (passed k q t) p) (sym e)
        (end_passed net sound root top E i nx x k q w n p v.0 (subst (λ t. Valid net t q) e v.2) z))
        (advance t q v.2 v.1 (rooted_down net sound root top p q up d) (agree_down net E (passed k q t) t p q up (λ n s. refl) g) h single
        none)
    advance (applied k f q t) p v o d g h single none =
        let up = (known net sound p (one k f q) v.0).0 in
        after_one t (applied k f q t) p q (up_applied net sound root top E i nx x k f q t p v.0 d)
        (λ w n e z. subst (λ t. Progress net E i nx x (applied k f q t) p) (sym e)
        (end_applied net sound root top E i nx x k f q w n p v.0 (subst (λ t. Valid net t q) e v.2) z))
        (advance t q v.2 v.1 (rooted_down net sound root top p q up d) (agree_down net E (applied k f q t) t p q up (λ n s. refl) g) h
        single none)
    advance (tested k c a b t) p v o d g h single none =
        let up = (known net sound p (test k c a b) v.0).0.0 in
        after_one t (tested k c a b t) p c (up_tested net sound root top E i nx x k c a b t p v.0 d)
        (λ w n e z. subst (λ t. Progress net E i nx x (tested k c a b t) p) (sym e)
        (end_tested net sound root top E i nx x k c a b w n p v.0 d (subst (λ t. Valid net t c) e v.2) z))
        (advance t c v.2 v.1 (rooted_down net sound root top p c up d) (agree_down net E (tested k c a b t) t p c up (λ n s. refl) g) h
        single none)
    advance (chosen k c a b w m t) p v o d g h single none =
        let q = at_zero w a b in
        let up = branch_parent net sound k c a b p w v.0 in
        after_one t (chosen k c a b w m t) p q (up_chosen net sound root top E i nx x k c a b w m t p v.0 v.1 d)
        (λ u n e z. subst (λ t. Progress net E i nx x (chosen k c a b w m t) p) (sym e)
        (end_chosen net sound root top E i nx x k c a b w m u n p v.0 v.1 (subst (λ t. Valid net t q) e v.3) z))
        (advance t q v.3 v.2 (rooted_down net sound root top p q up d) (agree_down net E (chosen k c a b w m t) t p q up (λ n s. refl) g) h
        single none)
    advance (forked k op s a b l r) p v o d g h single none =
        side (token_in l a i) refl
        (λ o z. advance l a v.2 o (rooted_down net sound root top p a (known net sound p (two k op s a b) v.0).left_parent d)
        (agree_left k op s a b l r p v.0 d v.3 g) z (λ j. omega (arith, single j)) (omega arith))
        (λ o z. advance r b v.3 o (rooted_down net sound root top p b (known net sound p (two k op s a b) v.0).right_parent d)
        (agree_right k op s a b l r p v.0 d v.2 g) z (λ j. omega (arith, single j)) (omega arith))
        h
      where
        T : Tree
        T = forked k op s a b l r

        own : E k s ≡ Some (status l r)
        own = own_entry k op s a b l r p v.0 g

        opened : (t : Tree) (q : Place) → token_in t q i ≡ Some x → Open t
        opened t q z = ⊎_elim (λ o. o) (λ (w, n, e).
            let bad : token_in (kept w n) q i ≡ Some x = subst (λ t. token_in t q i ≡ Some x) e z in cc) (open_or_kept t)

        left_back : (w : Val) (n : ℕ) → l ≡ coming i w n → x ≡ ans w (turned a) → token_in r b i ≡ None →
            Progress net E i nx x (forked k op s a b l r) p
        left_back w n e z u =
            let y : Gives net a w n = subst (λ t. Valid net t a) e v.2 in
            subst (λ l. Progress net E i nx x (forked k op s a b l r) p) (sym e)
            (⊎_elim (λ o. left_first net sound root top E i nx x k op s a b w n r p v.0 y o v.3 u z (own ∙
            ap (λ l. Some (status l r)) e))
            (λ (w', m, e'). subst (λ r. Progress net E i nx x (forked k op s a b (coming i w n) r) p) (sym e')
            (left_last net sound root top E i nx x k op s a b w w' n m p v.0 y (subst (λ t. Valid net t b) e' v.3) z (own ∙
            ap (λ l. Some (status l r)) e ∙ ap (λ r. Some (status (coming i w n) r)) e')))
            (open_or_kept r))

        right_back : (w : Val) (n : ℕ) → r ≡ coming i w n → x ≡ ans w (turned b) → token_in l a i ≡ None →
            Progress net E i nx x (forked k op s a b l r) p
        right_back w n e z u =
            let y : Gives net b w n = subst (λ t. Valid net t b) e v.3 in
            subst (λ r. Progress net E i nx x (forked k op s a b l r) p) (sym e)
            (⊎_elim (λ o. right_first net sound root top E i nx x k op s a b w n l p v.0 y o v.2 u z (own ∙
            ap (λ r. Some (status l r)) e))
            (λ (w', m, e'). subst (λ l. Progress net E i nx x (forked k op s a b l (coming i w n)) p) (sym e')
            (right_last net sound root top E i nx x k op s a b w' w m n p v.0 (subst (λ t. Valid net t a) e' v.2) y z (own ∙
            ap (λ r. Some (status l r)) e ∙ ap (λ l. Some (status l (coming i w n))) e')))
            (open_or_kept l))

        side : (y : Option TokenTree) → token_in l a i ≡ y → (Open l → token_in l a i ≡ Some x → Outcome net E i nx x l a) →
            (Open r → token_in r b i ≡ Some x → Outcome net E i nx x r b) → or_else y (token_in r b i) ≡ Some x →
            Outcome net E i nx x (forked k op s a b l r) p
        side (Some y) e il ir h =
            let z : token_in l a i ≡ Some x = e ∙ h in
            let ol = opened l a z in
            let one = token_ticket l a i x z in
            let free = no_ticket r b i (omega (arith, single i)) in
            after_one l (forked k op s a b l r) p a (up_left k op s a b l r p v.0 d ol v.3 free) (λ w n e z. left_back w n e z free)
            (il ol z)
        side None e il ir h =
            let or = opened r b h in
            after_one r (forked k op s a b l r) p b (up_right k op s a b l r p v.0 d or v.2 e (no_ticket l a nx (omega arith)))
            (λ w n e' z. right_back w n e' z e) (ir or h)
