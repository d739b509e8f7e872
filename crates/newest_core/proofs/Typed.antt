-- Each move of a sound net leads from stacks of its wire to stacks of the wire that it leads to.
use Rattle.std.proofs.Common.{◌≡◌, ℕ, zero, suc, Bool, true, false, cond, [], ◌∷◌, length, Option, Some, None, refl, sym}
use Rattle.std.proofs.Common.{ap, ◌∙◌, subst, ⊎_elim, inl, inr, arith}
use Rattle.std.specs.Prelude.{nat_eq}
use Rattle.pcf_values.specs.declared.val.Val.{Val}
use Rattle.pcf_values.specs.declared.val.Val.TheVariants.{Number, Overflow}
use Rattle.pcf_values.specs.Values.{at_zero}
use Rattle.pcf_values.specs.declared.operator.Operator.{Operator}
use Rattle.pcf_values.specs.Terms.{nat, arrow, product}
use Rattle.pcf_values.specs.declared.side.Side.TheVariants.{Left, Right}
use Rattle.token_stacks.specs.Signatures.{star, left_of, right_of, pair_of, again, R, L, S, Work, Boxes}
use Rattle.net_build.specs.declared.node.Node.{Node}
use Rattle.net_build.specs.declared.node.Node.TheVariants.{Const, Succ, Pred, Binary, Ifz}
use Rattle.net_build.specs.declared.node.Node.TheVariants.{Root}
use Rattle.net_build.specs.Nets.{WireTree, value_wire, bang_wire, var_wire, NetTree, premises, conclusions}
use Rattle.net_build.specs.Faces.{node_above, node_below}
use Rattle.net_build.specs.Sound.{Is, Sound, Meets, Numbers}
use Rattle.net_build.proofs.Entries.{in_at}
use Rattle.move_rules.specs.Places.{Place, up, down, turned, TokenTree, ask, ans, place_of}
use Rattle.move_rules.specs.Table.{on_found, plain_up, plain_down}
use Rattle.move_rules.specs.AtNode.{plain}
use Rattle.move_rules.specs.Moves.{Look, dead, constant, pass, one, test, two, pass_at, look_up, look, Move, solo, fork, join, answer, stay}
use Rattle.move_rules.specs.Moves.{ask_move, solo_at, or_stay, if_wire, operand_down, ans_down, move}
use Rattle.move_rules.proofs.Faces.{Among, above_faced, below_faced}
use Rattle.move_rules.proofs.Rows.{Row, lam_body, lam_arg, app_body, app_call, box_in, door_out, der, con_left, con_right, fix_in}
use Rattle.move_rules.proofs.Rows.{fix_again, pair_left, pair_right, fst_in, snd_in, plain_row}
use Rattle.newest_core.specs.Placed.{OfWire, Placed, MoveKeeps}

module _ (net : NetTree) where
  -- there and back
  abbrev Both : Place → Place → Type 0
  Both p q = (Placed net p → Placed net q) × (Placed net q → Placed net p)

  use_wire : (n : ℕ) (k : WireTree) (m : Work) (t : Boxes) → Is net n k → Placed net (up n m t) → OfWire k m t
  use_wire n k m t i p = let z : Some p.0 ≡ Some k = sym p.1 ∙ i in let e : p.0 ≡ k = cc in subst (λ k. OfWire k m t) e p.2

  linked : (a b : ℕ) (ka kb : WireTree) (ma mb : Work) (ta tb : Boxes) → Is net a ka → Is net b kb →
      (OfWire ka ma ta → OfWire kb mb tb) → (OfWire kb mb tb → OfWire ka ma ta) → Both (up a ma ta) (up b mb tb)
  linked a b ka kb ma mb ta tb ia ib f g =
      (λ p. (kb, ib, f (use_wire a ka ma ta ia p)), λ p. (ka, ia, g (use_wire b kb mb tb ib p)))

  less : (a b : ℕ) → suc a ≡ suc b → a ≡ b
  less a b e = omega arith

  row_both : (n : Node) (p q : Place) → Meets net n → Row n p q → Both p q
  row_both _ _ _ M (lam_body {b = b} {x = x} {w = w} {m = m} {t = t}) =
      linked w b (value_wire M.0 (arrow M.1 M.2)) (value_wire M.0 M.2) (R ∷ m) m t t M.5 M.3 (λ h. h) (λ h. h)
  row_both _ _ _ M (lam_arg {b = b} {x = x} {w = w} {s = s} {m = m} {t = t}) =
      linked x w (var_wire M.0 M.1) (value_wire M.0 (arrow M.1 M.2)) (S s ∷ m) (L ∷ S s ∷ m) t t M.4 M.5 (λ h. h) (λ h. h)
  row_both _ _ _ M (app_body {f = f} {a = a} {w = w} {m = m} {t = t}) =
      linked w f (value_wire M.0 M.2) (value_wire M.0 (arrow M.1 M.2)) m (R ∷ m) t t M.5 M.3 (λ h. h) (λ h. h)
  row_both _ _ _ M (app_call {f = f} {a = a} {w = w} {s = s} {m = m} {t = t}) =
      linked f a (value_wire M.0 (arrow M.1 M.2)) (bang_wire M.0 M.1) (L ∷ S s ∷ m) (S s ∷ m) t t M.3 M.4 (λ h. h) (λ h. h)
  row_both _ _ _ M (box_in {i = i} {o = o} {s = s} {m = m} {t = t}) =
      linked o i (bang_wire M.0 M.1) (value_wire (suc M.0) M.1) (S s ∷ m) m t (s ∷ t) M.3 M.2
      (λ h. (ap suc h.0, h.1)) (λ h. (less (length t) M.0 h.0, h.1))
  row_both _ _ _ M (door_out {i = i} {o = o} {s = s} {u = u} {m = m} {t = t}) =
      linked i o (var_wire (suc M.0) M.1) (var_wire M.0 M.1) (S u ∷ m) (S (pair_of s u) ∷ m) (s ∷ t) t M.2 M.3
      (λ h. (less (length t) M.0 h.0, h.1)) (λ h. (ap suc h.0, h.1))
  row_both _ _ _ M (der {w = w} {x = x} {m = m} {t = t}) =
      linked w x (value_wire M.0 M.1) (var_wire M.0 M.1) m (S star ∷ m) t t M.2 M.3 (λ h. h) (λ h. h)
  row_both _ _ _ M (con_left {l = l} {r = r} {w = w} {s = s} {m = m} {t = t}) =
      linked l w (var_wire M.0 M.1) (var_wire M.0 M.1) (S s ∷ m) (S (left_of s) ∷ m) t t M.2 M.4 (λ h. h) (λ h. h)
  row_both _ _ _ M (con_right {l = l} {r = r} {w = w} {s = s} {m = m} {t = t}) =
      linked r w (var_wire M.0 M.1) (var_wire M.0 M.1) (S s ∷ m) (S (right_of s) ∷ m) t t M.3 M.4 (λ h. h) (λ h. h)
  row_both _ _ _ M (fix_in {b = b} {x = x} {w = w} {m = m} {t = t}) =
      linked w b (value_wire M.0 M.1) (value_wire (suc M.0) M.1) m m t (star ∷ t) M.4 M.2
      (λ h. (ap suc h.0, h.1)) (λ h. (less (length t) M.0 h.0, h.1))
  row_both _ _ _ M (fix_again {b = b} {x = x} {w = w} {s = s} {u = u} {m = m} {t = t}) =
      linked x b (var_wire (suc M.0) M.1) (value_wire (suc M.0) M.1) (S s ∷ m) m (u ∷ t) (again u s ∷ t) M.3 M.2 (λ h. h) (λ h. h)
  row_both _ _ _ M (pair_left {a = a} {b = b} {w = w} {m = m} {t = t}) =
      linked w a (value_wire M.0 (product M.1 M.2)) (value_wire M.0 M.1) (L ∷ m) m t t M.5 M.3 (λ h. h) (λ h. h)
  row_both _ _ _ M (pair_right {a = a} {b = b} {w = w} {m = m} {t = t}) =
      linked w b (value_wire M.0 (product M.1 M.2)) (value_wire M.0 M.2) (R ∷ m) m t t M.5 M.4 (λ h. h) (λ h. h)
  row_both _ _ _ M (fst_in {a = a} {w = w} {m = m} {t = t}) =
      linked w a (value_wire M.0 M.1) (value_wire M.0 (product M.1 M.2)) m (L ∷ m) t t M.4 M.3 (λ h. h) (λ h. h)
  row_both _ _ _ M (snd_in {a = a} {w = w} {m = m} {t = t}) =
      linked w a (value_wire M.0 M.2) (value_wire M.0 (product M.1 M.2)) m (R ∷ m) t t M.4 M.3 (λ h. h) (λ h. h)

  -- a place turned round has the same stacks
  placed_turned : (p : Place) → Placed net p → Placed net (turned p)
  placed_turned (up w m t) h = h
  placed_turned (down w m t) h = h

  turned_placed : (p : Place) → Placed net (turned p) → Placed net p
  turned_placed (up w m t) h = h
  turned_placed (down w m t) h = h

  -- a wire of numbers with an empty work stack
  nat_depth : (a w d : ℕ) (t : Boxes) → a ≡ w → Is net a (value_wire d nat) → Placed net (up w [] t) → length t ≡ d
  nat_depth a w d t e i p = (use_wire w (value_wire d nat) [] t (subst (λ w. Is net w (value_wire d nat)) e i) p).0

  nat_placed : (a d : ℕ) (t : Boxes) → Is net a (value_wire d nat) → length t ≡ d → Placed net (up a [] t)
  nat_placed a d t i e = (value_wire d nat, i, (e, tt))

  -- what a question meets
  abbrev LookKeeps : Look → Type 0
  LookKeeps dead = Unit {0}
  LookKeeps (constant i n) = Unit {0}
  LookKeeps (pass i q) = Placed net q
  LookKeeps (one i f q) = Placed net q
  LookKeeps (test i c a b) = Placed net c
  LookKeeps (two i o t a b) = Placed net a × Placed net b

  pass_keeps : (i : ℕ) (o : Option Place) → ((q : Place) → o ≡ Some q → Placed net q) → LookKeeps (pass_at i o)
  pass_keeps i None g = tt
  pass_keeps i (Some q) g = g q refl

  look_keeps : (i : ℕ) (n : Node) (w : ℕ) (m : Work) (t : Boxes) → Meets net n → Among w (conclusions n) → Placed net (up w m t) →
      ((q : Place) → plain_up n w m t ≡ Some q → Placed net q) → LookKeeps (look_up i n w m t)
  look_keeps i (Const v c) w [] t M a p g = tt
  look_keeps i (Succ a c) w [] t M (inl e) p g = nat_placed a M.0 t M.1 (nat_depth c w M.0 t e M.2 p)
  look_keeps i (Succ a c) w [] t M (inr e) p g = elim e [ ]
  look_keeps i (Pred a c) w [] t M (inl e) p g = nat_placed a M.0 t M.1 (nat_depth c w M.0 t e M.2 p)
  look_keeps i (Pred a c) w [] t M (inr e) p g = elim e [ ]
  look_keeps i (Ifz b x y c) w [] t M (inl e) p g = nat_placed b M.0 t M.1 (nat_depth c w M.0 t e M.4 p)
  look_keeps i (Ifz b x y c) w [] t M (inr e) p g = elim e [ ]
  look_keeps i (Binary o a b c) w [] t M (inl e) p g =
      let l = nat_depth c w M.0 t e M.3 p in (nat_placed a M.0 t M.1 l, nat_placed b M.0 t M.2 l)
  look_keeps i (Binary o a b c) w [] t M (inr e) p g = elim e [ ]
  look_keeps i n w m t M a p g = pass_keeps i (plain_up n w m t) g

  ask_keeps : (l : Look) (p : Place) → Placed net p → LookKeeps l → MoveKeeps net (ask_move l p)
  ask_keeps dead p h k = tt
  ask_keeps (constant i n) p h k = placed_turned p h
  ask_keeps (pass i q) p h k = k
  ask_keeps (one i f q) p h k = k
  ask_keeps (test i c a b) p h k = k
  ask_keeps (two i o t a b) p h k = k

  -- an answer
  solo_keeps : (i : ℕ) (o : Option Place) (v : Val) → ((q : Place) → o ≡ Some q → Placed net q) → MoveKeeps net (solo_at i o (ans v))
  solo_keeps i None v g = tt
  solo_keeps i (Some q) v g = g q refl

  or_keeps : (a b : Move) → MoveKeeps net a → MoveKeeps net b → MoveKeeps net (or_stay a b)
  or_keeps stay b h k = k
  or_keeps (solo i x) b h k = h
  or_keeps (fork i l r t) b h k = h
  or_keeps (join i o s v w t) b h k = h
  or_keeps (answer v) b h k = h

  if_keeps : (x w : ℕ) (a : Move) → MoveKeeps net a → MoveKeeps net (if_wire x w a)
  if_keeps x w a h = go (nat_eq x w)
    where
      go : (b : Bool) → MoveKeeps net (cond b a stay)
      go true = h
      go false = tt

  operands_keep : (i : ℕ) (o : Operator) (a b c : ℕ) (v : Val) (w : ℕ) (t : Boxes) → (M : Numbers net a b c) →
      Among w (a ∷ b ∷ []) → Placed net (down w [] t) → MoveKeeps net (operand_down i o a b c v w t)
  operands_keep i o a b c v w t M h p =
      let l : length t ≡ M.0 = ⊎_elim (λ e. nat_depth a w M.0 t e M.1 p)
      (λ h. ⊎_elim (λ e. nat_depth b w M.0 t e M.2 p) (λ e. elim e [ ]) h) h in
      or_keeps (if_wire a w (join i o Left v c t)) (if_wire b w (join i o Right v c t))
      (if_keeps a w (join i o Left v c t) (nat_placed c M.0 t M.3 l))
      (if_keeps b w (join i o Right v c t) (nat_placed c M.0 t M.3 l))

  branch_placed : (v : Val) (x y d : ℕ) (t : Boxes) → Is net x (value_wire d nat) → Is net y (value_wire d nat) → length t ≡ d →
      Placed net (up (at_zero v x y) [] t)
  branch_placed (Number zero) x y d t ix iy e = nat_placed x d t ix e
  branch_placed (Number (suc n)) x y d t ix iy e = nat_placed y d t iy e
  branch_placed Overflow x y d t ix iy e = nat_placed y d t iy e

  answer_keeps : (i : ℕ) (n : Node) (v : Val) (w : ℕ) (m : Work) (t : Boxes) → Meets net n → Among w (premises n) →
      Placed net (down w m t) → ((q : Place) → plain_down n w m t ≡ Some q → Placed net q) → MoveKeeps net (ans_down i n v w m t)
  answer_keeps i (Succ a c) v w [] t M (inl e) p g = nat_placed c M.0 t M.2 (nat_depth a w M.0 t e M.1 p)
  answer_keeps i (Succ a c) v w [] t M (inr e) p g = elim e [ ]
  answer_keeps i (Pred a c) v w [] t M (inl e) p g = nat_placed c M.0 t M.2 (nat_depth a w M.0 t e M.1 p)
  answer_keeps i (Pred a c) v w [] t M (inr e) p g = elim e [ ]
  answer_keeps i (Ifz b x y c) v w [] t M h p g =
      let l : length t ≡ M.0 = ⊎_elim (λ e. nat_depth b w M.0 t e M.1 p)
      (λ h. ⊎_elim (λ e. nat_depth x w M.0 t e M.2 p) (λ h. ⊎_elim (λ e. nat_depth y w M.0 t e M.3 p) (λ e. elim e [ ]) h) h) h in
      or_keeps (if_wire b w (solo i (ask (up (at_zero v x y) [] t))))
      (or_stay (if_wire x w (solo i (ans v (down c [] t)))) (if_wire y w (solo i (ans v (down c [] t)))))
      (if_keeps b w (solo i (ask (up (at_zero v x y) [] t))) (branch_placed v x y M.0 t M.2 M.3 l))
      (or_keeps (if_wire x w (solo i (ans v (down c [] t)))) (if_wire y w (solo i (ans v (down c [] t))))
      (if_keeps x w (solo i (ans v (down c [] t))) (nat_placed c M.0 t M.4 l))
      (if_keeps y w (solo i (ans v (down c [] t))) (nat_placed c M.0 t M.4 l)))
  answer_keeps i (Binary o a b c) v w [] t M h p g = operands_keep i o a b c v w t M h p
  answer_keeps i (Root c) v w [] t M h p g = tt
  answer_keeps i n v w m t M h p g = solo_keeps i (plain_down n w m t) v g

  module _ (sound : Sound net) where
    plain_kept : (p q : Place) → plain net p ≡ Some q → Placed net p → Placed net q
    plain_kept p q h P =
        let (n, f, e) = plain_row net sound p q h in
        let M = sound.rows n (in_at n net.nodes f.at f.stands) in
        ⊎_elim (λ r. (row_both n p q M r).0 P)
        (λ r. turned_placed q ((row_both n (turned q) (turned p) M r).1 (placed_turned p P))) e

    from_up : (w i : ℕ) (n : Node) (m : Work) (t : Boxes) → node_above net w ≡ Some (i, n) → Placed net (up w m t) → (q : Place) →
        plain_up n w m t ≡ Some q → Placed net q
    from_up w i n m t e p q h = plain_kept (up w m t) q (ap (λ o. on_found o None (λ i n. plain_up n w m t)) e ∙ h) p

    from_down : (w i : ℕ) (n : Node) (m : Work) (t : Boxes) → node_below net w ≡ Some (i, n) → Placed net (down w m t) → (q : Place) →
        plain_down n w m t ≡ Some q → Placed net q
    from_down w i n m t e p q h = plain_kept (down w m t) q (ap (λ o. on_found o None (λ i n. plain_down n w m t)) e ∙ h) p

    asked_up : (w : ℕ) (m : Work) (t : Boxes) → Placed net (up w m t) → (o : Option (ℕ × Node)) → node_above net w ≡ o →
        LookKeeps (on_found o dead (λ i n. look_up i n w m t))
    asked_up w m t p None e = tt
    asked_up w m t p (Some r) e =
        let (f, _, a) = above_faced net sound w r.0 r.1 e in
        look_keeps r.0 r.1 w m t (sound.rows r.1 (in_at r.1 net.nodes f.at f.stands)) a p (from_up w r.0 r.1 m t e p)

    asked_down : (w : ℕ) (m : Work) (t : Boxes) → Placed net (down w m t) → (o : Option (ℕ × Node)) → node_below net w ≡ o →
        LookKeeps (on_found o dead (λ i n. pass_at i (plain_down n w m t)))
    asked_down w m t p None e = tt
    asked_down w m t p (Some r) e = pass_keeps r.0 (plain_down r.1 w m t) (from_down w r.0 r.1 m t e p)

    answered_up : (v : Val) (w : ℕ) (m : Work) (t : Boxes) → Placed net (up w m t) → (o : Option (ℕ × Node)) → node_above net w ≡ o →
        MoveKeeps net (on_found o stay (λ i n. solo_at i (plain_up n w m t) (ans v)))
    answered_up v w m t p None e = tt
    answered_up v w m t p (Some r) e = solo_keeps r.0 (plain_up r.1 w m t) v (from_up w r.0 r.1 m t e p)

    answered_down : (v : Val) (w : ℕ) (m : Work) (t : Boxes) → Placed net (down w m t) → (o : Option (ℕ × Node)) →
        node_below net w ≡ o → MoveKeeps net (on_found o stay (λ i n. ans_down i n v w m t))
    answered_down v w m t p None e = tt
    answered_down v w m t p (Some r) e =
        let (f, _, a) = below_faced net sound w r.0 r.1 e in
        answer_keeps r.0 r.1 v w m t (sound.rows r.1 (in_at r.1 net.nodes f.at f.stands)) a p (from_down w r.0 r.1 m t e p)

    pub move_kept : (x : TokenTree) → Placed net (place_of x) → MoveKeeps net (move net x)
    move_kept (ask (up w m t)) p =
        ask_keeps (look net (up w m t)) (up w m t) p (asked_up w m t p (node_above net w) refl)
    move_kept (ask (down w m t)) p =
        ask_keeps (look net (down w m t)) (down w m t) p (asked_down w m t p (node_below net w) refl)
    move_kept (ans v (up w m t)) p = answered_up v w m t p (node_above net w) refl
    move_kept (ans v (down w m t)) p = answered_down v w m t p (node_below net w) refl

pub moves_keep : (net : NetTree) → Sound net → (x : TokenTree) → Placed net (place_of x) → MoveKeeps net (move net x)
moves_keep net sound x p = move_kept net sound x p
