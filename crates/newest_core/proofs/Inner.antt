-- The innermost fork around a place, told by the places that asked it.
-- A move of one token keeps within its fork, a fork is at its own place, and an answer that joins is at its innermost fork.
use Rattle.std.proofs.Common.{◌≡◌, ℕ, zero, suc, [], Option, Some, None, refl, sym, ap}
use Rattle.std.proofs.Common.{◌∙◌, subst, inl, inr}
use Rattle.pcf_values.specs.declared.val.Val.{Val}
use Rattle.pcf_values.specs.declared.val.Val.TheVariants.{Number, Overflow}
use Rattle.pcf_values.specs.Values.{at_zero}
use Rattle.pcf_values.specs.declared.operator.Operator.{Operator}
use Rattle.pcf_values.specs.declared.side.Side.{Side}
use Rattle.pcf_values.specs.declared.side.Side.TheVariants.{Left, Right}
use Rattle.token_stacks.specs.Signatures.{Boxes}
use Rattle.net_build.specs.Nets.{NetTree}
use Rattle.net_build.specs.Sound.{Sound}
use Rattle.fork_join.specs.Entries.{Key}
use Rattle.move_rules.specs.Places.{Place, up, turned, TokenTree, ask, ans}
use Rattle.move_rules.specs.Moves.{Look, dead, constant, pass, one, test, two, look, solo, fork, join, answer, ask_move, move}
use Rattle.interleave_laws.specs.Start.{start_of}
use Rattle.move_rules.proofs.Rows.{turned_twice}
use Rattle.interleave_laws.proofs.Parents.{Child, known}
use Rattle.interleave_laws.proofs.Reached.{Starts, ends}
use Rattle.interleave_laws.proofs.Running.{starts_of}
use Rattle.interleave_laws.proofs.Apart.{asked}

-- it isn't an operator
abbrev pub NotTwo : Look → Type 0
NotTwo dead = Unit {0}
NotTwo (constant i n) = Unit {0}
NotTwo (pass i q) = Unit {0}
NotTwo (one i f q) = Unit {0}
NotTwo (test i c a b) = Unit {0}
NotTwo (two i o t a b) = ⊥

-- the node and box stack of the innermost fork around a place; none at the start
pub data Inner (net : NetTree) : Place → Option Key → Type 0 where
  in_root : {p : Place} → p ≡ start_of net → Inner net p None
  in_fork : {p : Place} (r a b : Place) (k : ℕ) (op : Operator) (s : Boxes) → look net r ≡ two k op s a b → Child (two k op s a b) p →
      Inner net p (Some (k, s))
  in_other : {p : Place} {o : Option Key} (r : Place) (l : Look) → look net r ≡ l → NotTwo l → Child l p → Inner net r o →
      Inner net p o

-- a test's branch is its child
branch_child : (i : ℕ) (c a b : Place) (v : Val) → Child (test i c a b) (at_zero v a b)
branch_child i c a b (Number zero) = inr (inl refl)
branch_child i c a b (Number (suc n)) = inr (inr refl)
branch_child i c a b Overflow = inr (inr refl)

module _ (net : NetTree) (sound : Sound net) where
  starts : Starts net (start_of net)
  starts = starts_of net sound

  same_solo : (i j : ℕ) (x y : TokenTree) → solo i x ≡ solo j y → x ≡ y
  same_solo i j x y h = cc

  -- from the answer of a child on
  solo_back : (i j : ℕ) (o : Option Key) (v v' : Val) (q r : Place) (y z : TokenTree) → Inner net (asked z) o →
      move net (ans v q) ≡ solo j z → move net (ans v q) ≡ solo i y → Inner net (asked y) o
  solo_back i j o v v' q r y z h e g = subst (λ y. Inner net (asked y) o) (same_solo j i z y (sym e ∙ g)) h

  back_to : (r : Place) (o : Option Key) (v : Val) → Inner net r o → Inner net (asked (ans v (turned r))) o
  back_to r o v h = subst (λ r. Inner net r o) (sym (turned_twice r)) h

  -- the answer of a place, by what that place is a child of
  child_answer : (i : ℕ) (o : Option Key) (v : Val) (p r : Place) (l : Look) (y : TokenTree) → look net r ≡ l → NotTwo l →
      Child l p → Inner net r o → move net (ans v (turned p)) ≡ solo i y → Inner net (asked y) o
  child_answer i o v p r dead y h n c g e = elim c [ ]
  child_answer i o v p r (constant k m) y h n c g e = elim c [ ]
  child_answer i o v p r (pass k q) y h n c g e =
      let (j, b) = (known net sound r (pass k q) h).1 v in
      solo_back i j o v v (turned p) r y (ans v (turned r)) (back_to r o v g) (ap (λ p. move net (ans v (turned p))) (sym c) ∙ b) e
  child_answer i o v p r (one k f q) y h n c g e =
      let (j, b) = (known net sound r (one k f q) h).1 v in
      solo_back i j o v v (turned p) r y (ans (f v) (turned r)) (back_to r o (f v) g) (ap (λ p. move net (ans v (turned p))) (sym c) ∙
      b) e
  child_answer i o v p r (test k c a b) y h n (inl z) g e =
      let (j, b') = (known net sound r (test k c a b) h).0.1 v in
      solo_back i j o v v (turned p) r y (ask (at_zero v a b)) (in_other r (test k c a b) h tt (branch_child k c a b v) g)
      (ap (λ p. move net (ans v (turned p))) (sym z) ∙ b') e
  child_answer i o v p r (test k c a b) y h n (inr (inl z)) g e =
      let (j, b') = (known net sound r (test k c a b) h).1.1 v in
      solo_back i j o v v (turned p) r y (ans v (turned r)) (back_to r o v g) (ap (λ p. move net (ans v (turned p))) (sym z) ∙ b') e
  child_answer i o v p r (test k c a b) y h n (inr (inr z)) g e =
      let (j, b') = (known net sound r (test k c a b) h).2.1 v in
      solo_back i j o v v (turned p) r y (ans v (turned r)) (back_to r o v g) (ap (λ p. move net (ans v (turned p))) (sym z) ∙ b') e
  child_answer i o v p r (two k op t a b) y h n c g e = elim n [ ]

  -- an answer at a fork joins there
  fork_answer : (v : Val) (p r a b : Place) (k : ℕ) (op : Operator) (s : Boxes) → look net r ≡ two k op s a b →
      Child (two k op s a b) p → (d : Side) × (w : ℕ) × (move net (ans v (turned p)) ≡ join k op d v w s) × (r ≡ up w [] s)
  fork_answer v p r a b k op s h (inl e) = let f = known net sound r (two k op s a b) h in
      (Left, f.out, ap (λ p. move net (ans v (turned p))) (sym e) ∙ f.left_joins v, f.is_up)
  fork_answer v p r a b k op s h (inr e) = let f = known net sound r (two k op s a b) h in
      (Right, f.out, ap (λ p. move net (ans v (turned p))) (sym e) ∙ f.right_joins v, f.is_up)

  -- at the start the answer is the program's
  root_answer : (v : Val) (q : Place) → turned q ≡ start_of net → move net (ans v q) ≡ answer v
  root_answer v q e = ap (λ q. move net (ans v q)) (sym (turned_twice q) ∙ ap turned e) ∙ ends net sound (start_of net) starts v

  solo_answer : (i : ℕ) (o : Option Key) (v : Val) (q : Place) (y : TokenTree) → Inner net (turned q) o →
      move net (ans v q) ≡ solo i y → Inner net (asked y) o
  solo_answer i o v q y (in_root e) h = let z : answer v ≡ solo i y = sym (root_answer v q e) ∙ h in absurd cc
  solo_answer i o v q y (in_fork r a b k op s l c) h =
      let (d, w, g, _) = fork_answer v (turned q) r a b k op s l c in
      let z : join k op d v w s ≡ solo i y = sym g ∙ ap (λ q. move net (ans v q)) (turned_twice q) ∙ h in absurd cc
  solo_answer i o v q y (in_other r l h n c g) e =
      child_answer i o v (turned q) r l y h n c g (ap (λ q. move net (ans v q)) (turned_twice q) ∙ e)

  solo_ask : (i : ℕ) (o : Option Key) (p : Place) (y : TokenTree) (l : Look) → look net p ≡ l → Inner net p o →
      ask_move l p ≡ solo i y → Inner net (asked y) o
  solo_ask i o p y dead h g e = absurd cc
  solo_ask i o p y (constant j n) h g e = subst (λ y. Inner net (asked y) o) (same_solo _ _ _ _ e) (back_to p o (Number n) g)
  solo_ask i o p y (pass j q) h g e = subst (λ y. Inner net (asked y) o) (same_solo _ _ _ _ e) (in_other p (pass j q) h tt refl g)
  solo_ask i o p y (one j f q) h g e = subst (λ y. Inner net (asked y) o) (same_solo _ _ _ _ e) (in_other p (one j f q) h tt refl g)
  solo_ask i o p y (test j c a b) h g e = subst (λ y. Inner net (asked y) o) (same_solo _ _ _ _ e)
      (in_other p (test j c a b) h tt (inl refl) g)
  solo_ask i o p y (two j op t a b) h g e = absurd cc

  -- a solo move stays within its fork
  pub solo_inner : (i : ℕ) (o : Option Key) (x y : TokenTree) → Inner net (asked x) o → move net x ≡ solo i y →
      Inner net (asked y) o
  solo_inner i o (ask p) y g e = solo_ask i o p y (look net p) refl g e
  solo_inner i o (ans v q) y g e = solo_answer i o v q y g e

  -- a fork is at its own place
  pub fork_inner : (i : ℕ) (p l r : Place) (t : Boxes) → move net (ask p) ≡ fork i l r t → (op : Operator) ×
      (look net p ≡ two i op t l r)
  fork_inner i p l r t = go (look net p) refl
    where
      go : (k : Look) → look net p ≡ k → ask_move k p ≡ fork i l r t → (op : Operator) × (look net p ≡ two i op t l r)
      go dead h e = absurd cc
      go (constant j n) h e = absurd cc
      go (pass j q) h e = absurd cc
      go (one j f q) h e = absurd cc
      go (test j c a b) h e = absurd cc
      go (two j op s a b) h e =
          let z : j ≡ i = cc in
          let z' : a ≡ l = cc in
          let z'' : b ≡ r = cc in
          let z''' : s ≡ t = cc in (
            op,
            h ∙ ap (λ j. two j op s a b) z ∙ ap (λ a. two i op s a b) z' ∙ ap (λ b. two i op s l b) z'' ∙
                ap (λ s. two i op s l r) z''',
          )

  -- an answer that joins is at its innermost fork, which is at the place to which the second answer goes back
  pub join_inner : (i : ℕ) (op : Operator) (d : Side) (v : Val) (w : ℕ) (t : Boxes) (q : Place) (o : Option Key) →
      Inner net (turned q) o → move net (ans v q) ≡ join i op d v w t →
      (o ≡ Some (i, t)) × ((op' : Operator) × (a : Place) × (b : Place) × (look net (up w [] t) ≡ two i op' t a b))
  join_inner i op d v w t q o (in_root e) h = let z : answer v ≡ join i op d v w t = sym (root_answer v q e) ∙ h in absurd cc
  join_inner i op d v w t q o (in_fork r a b k op' s l c) h =
      let (d', w', g, is) = fork_answer v (turned q) r a b k op' s l c in
      let z : join k op' d' v w' s ≡ join i op d v w t = sym g ∙ ap (λ q. move net (ans v q)) (turned_twice q) ∙ h in
      let ek : k ≡ i = cc in
      let es : s ≡ t = cc in
      let ew : w' ≡ w = cc in (
        ap (λ k. Some (k, s)) ek ∙ ap (λ s. Some (i, s)) es,
        (
          op',
          a,
          b,
          ap (look net) (sym (is ∙ ap (λ w. up w [] s) ew ∙ ap (λ s. up w [] s) es)) ∙ l ∙
              ap (λ k. two k op' s a b) ek ∙ ap (λ s. two i op' s a b) es,
        ),
      )
  join_inner i op d v w t q o (in_other r l h n c g) e = other_way l h n c (ap (λ q. move net (ans v q)) (turned_twice q) ∙ e)
    where
      other_way : (l : Look) → look net r ≡ l → NotTwo l → Child l (turned q) →
          move net (ans v (turned (turned q))) ≡ join i op d v w t →
          (o ≡ Some (i, t)) × ((op' : Operator) × (a : Place) × (b : Place) × (look net (up w [] t) ≡ two i op' t a b))
      other_way dead h n c e = elim c [ ]
      other_way (constant k m) h n c e = elim c [ ]
      other_way (pass k p) h n c e = let (j, b) = (known net sound r (pass k p) h).1 v in
          let z : solo j (ans v (turned r)) ≡ join i op d v w t = sym b ∙ ap (λ p. move net (ans v (turned p))) c ∙ e in absurd cc
      other_way (one k f p) h n c e = let (j, b) = (known net sound r (one k f p) h).1 v in
          let z : solo j (ans (f v) (turned r)) ≡ join i op d v w t = sym b ∙ ap (λ p. move net (ans v (turned p))) c ∙ e in
          absurd cc
      other_way (test k p a b) h n (inl c) e = let (j, g) = (known net sound r (test k p a b) h).0.1 v in
          let z : solo j (ask (at_zero v a b)) ≡ join i op d v w t = sym g ∙ ap (λ p. move net (ans v (turned p))) c ∙ e in absurd cc
      other_way (test k p a b) h n (inr (inl c)) e = let (j, g) = (known net sound r (test k p a b) h).1.1 v in
          let z : solo j (ans v (turned r)) ≡ join i op d v w t = sym g ∙ ap (λ p. move net (ans v (turned p))) c ∙ e in absurd cc
      other_way (test k p a b) h n (inr (inr c)) e = let (j, g) = (known net sound r (test k p a b) h).2.1 v in
          let z : solo j (ans v (turned r)) ≡ join i op d v w t = sym g ∙ ap (λ p. move net (ans v (turned p))) c ∙ e in absurd cc
      other_way (two k op t a b) h n c e = elim n [ ]
