-- The rank of a token: before which round it stands where it stands, if all tokens move at once.
-- A question's rank is when it is asked, and an answer's is later by the rounds that its question takes. So each solo move and each fork
-- raise the rank by one, and a join that goes on raises the greater of both answers' ranks by one: a rank belongs to the token, and any
-- order of moves gives it.
use Rattle.std.proofs.Common.{◌≡◌, ℕ, zero, suc, ◌+◌, ◌≤◌, [], Some, refl, sym, ap, ◌∙◌, subst, inl, inr, arith}
use Rattle.std.specs.Prelude.{max}
use Rattle.pcf_values.specs.declared.val.Val.{Val}
use Rattle.pcf_values.specs.declared.val.Val.TheVariants.{Number, Overflow}
use Rattle.pcf_values.specs.Values.{val_op, at_zero}
use Rattle.pcf_values.specs.declared.operator.Operator.{Operator}
use Rattle.pcf_values.specs.declared.side.Side.{Side}
use Rattle.pcf_values.specs.declared.side.Side.TheVariants.{Left, Right}
use Rattle.token_stacks.specs.Signatures.{Boxes}
use Rattle.net_build.specs.Nets.{NetTree}
use Rattle.net_build.specs.Sound.{Sound}
use Rattle.fork_join.specs.Entries.{Entry, pending, has_left, has_right, kept_as}
use Rattle.move_rules.specs.Places.{Place, up, down, turned, TokenTree, ask, ans}
use Rattle.move_rules.specs.Moves.{Look, dead, constant, pass, one, test, two, look, Move, solo, fork, join, answer, stay, ask_move, move}
use Rattle.interleave_laws.specs.Start.{start_of}
use Rattle.interleave_laws.specs.States.{other}
use Rattle.move_rules.proofs.Rows.{turned_twice}
use Rattle.interleave_laws.proofs.Parents.{known, key_place}
use Rattle.interleave_laws.proofs.Reached.{ends}
use Rattle.interleave_laws.proofs.Running.{starts_of}
use Rattle.adequacy_laws.specs.Questions.{side_by_side}
use Rattle.adequacy_laws.proofs.Counting.{Met, comes}
use Rattle.round_laws.proofs.Begins.{Takes, Begins, at_start, at_first, at_branch, First, begins_one}

-- the token's rank
abbrev pub Ranks : NetTree → TokenTree → ℕ → Type 0
Ranks net (ask p) n = Begins net p n
Ranks net (ans v q) n = (b d : ℕ) × Begins net (turned q) b × Takes net (turned q) v d × (n ≡ b + d)

-- one of two, by the side
abbrev pub on_side : Side → Place → Place → Place
on_side Left a b = a
on_side Right a b = b

-- an operand's answer: of which fork, when that was asked, and how long the operand took
pub record Operand (net : NetTree) (p : Place) (i : ℕ) (t : Boxes) (s : Side) (v : Val) (n : ℕ) : Type 0 where
  pub op : Operator
  pub left : Place
  pub right : Place
  pub at : look net p ≡ two i op t left right
  pub asked : ℕ
  pub begins : Begins net p asked
  pub lasts : ℕ
  pub takes : Takes net (on_side s left right) v lasts
  pub rank : n ≡ suc (asked + lasts)

-- what is known of the move of a token of this rank
abbrev pub Goes : NetTree → ℕ → Move → Type 0
Goes net n (solo i y) = Ranks net y (suc n)
Goes net n (fork i l r t) = Begins net l (suc n) × Begins net r (suc n)
Goes net n (join i op s v w t) = (o : Operand net (up w [] t) i t s v n) × (o.op ≡ op)
Goes net n (answer v) = Takes net (start_of net) v n
Goes net n stay = Unit {0}

-- what is kept of an answer is of a rank of at most so many
abbrev pub KeptAt : NetTree → ℕ → Boxes → Entry → ℕ → Type 0
KeptAt net i t pending k = Unit {0}
KeptAt net i t (has_left u) k = (p : Place) × (n : ℕ) × Operand net p i t Left u n × (n ≤ k)
KeptAt net i t (has_right u) k = (p : Place) × (n : ℕ) × Operand net p i t Right u n × (n ≤ k)

module _ (net : NetTree) (sound : Sound net) where
  -- an answer of a place that was asked from r, by its way back
  answers : (r : Place) (l : Look) (v : Val) (b d n : ℕ) → Begins net r b → look net r ≡ l → Met side_by_side (Takes net) l v d →
      n ≡ b + d → Ranks net (ans v (turned r)) n
  answers r l v b d n g h x e = (
    b,
    d,
    subst (λ r. Begins net r b) (sym (turned_twice r)) g,
    subst (λ r. Takes net r v d) (sym (turned_twice r)) (comes side_by_side net r v d l h x),
    e,
  )

  -- by the move that it has
  goes_by : (m m' : Move) (n : ℕ) → m ≡ m' → Goes net n m' → Goes net n m
  goes_by m m' n e g = subst (Goes net n) (sym e) g

  -- an operand
  joins : (r p : Place) (i : ℕ) (op : Operator) (t : Boxes) (a b : Place) (s : Side) (v : Val) (w k d n : ℕ) →
      look net r ≡ two i op t a b → r ≡ up w [] t → Begins net r k → Takes net (on_side s a b) v d → n ≡ suc (k + d) →
      Goes net n (join i op s v w t)
  joins r p i op t a b s v w k d n h e g x z =
      let o : Operand net (up w [] t) i t s v n = record {
        op = op;
        left = a;
        right = b;
        at = ap (look net) (sym e) ∙ h;
        asked = k;
        begins = subst (λ r. Begins net r k) e g;
        lasts = d;
        takes = x;
        rank = z;
      } in
      (o, refl)

  -- the answer of a place that was asked at once from r
  first_goes : (r p : Place) (l : Look) (v : Val) (k d n : ℕ) → look net r ≡ l → First l p → Begins net r k → Takes net p v d →
      n ≡ suc k + d → Goes net n (move net (ans v (turned p)))
  first_goes r p dead v k d n h f g t e = absurd f
  first_goes r p (constant i m) v k d n h f g t e = absurd f
  first_goes r p (pass i q) v k d n h f g t e =
      let (j, b) = (known net sound r (pass i q) h).1 v in
      goes_by _ _ n (ap (λ p. move net (ans v (turned p))) (sym f) ∙ b)
      (answers r (pass i q) v k (d + 2) (suc n) g h (d, subst (λ p. Takes net p v d) (sym f) t, refl) (omega arith))
  first_goes r p (one i o q) v k d n h f g t e =
      let (j, b) = (known net sound r (one i o q) h).1 v in
      goes_by _ _ n (ap (λ p. move net (ans v (turned p))) (sym f) ∙ b)
      (answers r (one i o q) (o v) k (d + 2) (suc n) g h (v, d, subst (λ p. Takes net p v d) (sym f) t, refl, refl) (omega arith))
  first_goes r p (test i c a b) v k d n h f g t e =
      let (j, m) = (known net sound r (test i c a b) h).0.1 v in
      let z : k + (d + 2) ≡ suc n = omega arith in
      goes_by _ _ n (ap (λ p. move net (ans v (turned p))) (sym f) ∙ m)
      (subst (Begins net (at_zero v a b)) z (at_branch r c a b i d v h (subst (λ p. Takes net p v d) (sym f) t) refl g))
  first_goes r p (two i op t a b) v k d n h (inl f) g x e =
      let y = known net sound r (two i op t a b) h in
      goes_by _ _ n (ap (λ p. move net (ans v (turned p))) (sym f) ∙ y.left_joins v)
      (joins r p i op t a b Left v y.out k d n h y.is_up g (subst (λ p. Takes net p v d) (sym f) x) (omega arith))
  first_goes r p (two i op t a b) v k d n h (inr f) g x e =
      let y = known net sound r (two i op t a b) h in
      goes_by _ _ n (ap (λ p. move net (ans v (turned p))) (sym f) ∙ y.right_joins v)
      (joins r p i op t a b Right v y.out k d n h y.is_up g (subst (λ p. Takes net p v d) (sym f) x) (omega arith))

  -- the move of a branch's answer
  branch_back : (r c a b : Place) (k : ℕ) (w v : Val) → look net r ≡ test k c a b → (j : ℕ) ×
      (move net (ans v (turned (at_zero w a b))) ≡ solo j (ans v (turned r)))
  branch_back r c a b k (Number zero) v h = (known net sound r (test k c a b) h).1.1 v
  branch_back r c a b k (Number (suc n)) v h = (known net sound r (test k c a b) h).2.1 v
  branch_back r c a b k Overflow v h = (known net sound r (test k c a b) h).2.1 v

  -- the answer of a place that was asked
  answer_goes : (p : Place) (v : Val) (k d n : ℕ) → Begins net p k → Takes net p v d → n ≡ k + d →
      Goes net n (move net (ans v (turned p)))
  answer_goes p v k d n (at_start e) t z =
      let s = starts_of net sound in
      let q : d ≡ n = omega arith in
      goes_by _ _ n (ap (λ p. move net (ans v (turned p))) e ∙ ends net sound (start_of net) s v)
      (subst (Takes net (start_of net) v) q (subst (λ p. Takes net p v d) e t))
  answer_goes p v k d n (at_first {n = i} r l h f g) t z = first_goes r p l v i d n h f g t z
  answer_goes p v k d n (at_branch {n = i} r c a b j x w h y e g) t z =
      let (o, m) = branch_back r c a b j w v h in
      let t' : Takes net (at_zero w a b) v d = subst (λ p. Takes net p v d) (sym e) t in
      goes_by _ _ n (ap (λ p. move net (ans v (turned p))) (sym e) ∙ m)
      (answers r (test j c a b) v i (d + (x + 3)) (suc n) g h (w, x, y, d, t', refl) (omega arith))

  ask_goes : (p : Place) (n : ℕ) (l : Look) → look net p ≡ l → Begins net p n → Goes net n (ask_move l p)
  ask_goes p n dead h g = tt
  ask_goes p n (constant i m) h g = answers p (constant i m) (Number m) n 1 (suc n) g h (refl, refl) (omega arith)
  ask_goes p n (pass i q) h g = at_first p (pass i q) h refl g
  ask_goes p n (one i f q) h g = at_first p (one i f q) h refl g
  ask_goes p n (test i c a b) h g = at_first p (test i c a b) h refl g
  ask_goes p n (two i op t a b) h g = (at_first p (two i op t a b) h (inl refl) g, at_first p (two i op t a b) h (inr refl) g)

  -- the move of a token of this rank
  pub goes : (x : TokenTree) (n : ℕ) → Ranks net x n → Goes net n (move net x)
  goes (ask p) n g = ask_goes p n (look net p) refl g
  goes (ans v q) n (b, d, g, t, e) =
      subst (λ q. Goes net n (move net (ans v q))) (turned_twice q) (answer_goes (turned q) v b d n g t e)

  -- what is kept as it comes
  pub kept_at : (i : ℕ) (op : Operator) (s : Side) (v : Val) (w : ℕ) (t : Boxes) (n k : ℕ) → Goes net n (join i op s v w t) → n ≤ k →
      KeptAt net i t (kept_as s v) k
  kept_at i op Left v w t n k (o, e) l = (up w [] t, n, o, l)
  kept_at i op Right v w t n k (o, e) l = (up w [] t, n, o, l)

  pub kept_more : (i : ℕ) (t : Boxes) (e : Entry) (k m : ℕ) → k ≤ m → KeptAt net i t e k → KeptAt net i t e m
  kept_more i t pending k m l h = tt
  kept_more i t (has_left u) k m l (p, n, o, z) = (p, n, o, omega arith)
  kept_more i t (has_right u) k m l (p, n, o, z) = (p, n, o, omega arith)

  same_look : (i : ℕ) (op op' : Operator) (t : Boxes) (a b a' b' : Place) → two i op t a b ≡ two i op' t a' b' →
      (op ≡ op') × (a ≡ a') × (b ≡ b')
  same_look i op op' t a b a' b' h = (cc, cc, cc)

  -- both answers of a fork: the token that goes on is one later than the later of them
  together : (i : ℕ) (t : Boxes) (w : ℕ) (p : Place) (u v : Val) (n m : ℕ) (o : Operand net (up w [] t) i t Left u n) →
      Operand net p i t Right v m → Ranks net (ans (val_op o.op u v) (down w [] t)) (suc (max n m))
  together i t w p u v n m o o' =
      let q = key_place net sound (up w [] t) p i o.op o'.op t o.left o.right o'.left o'.right o.at o'.at in
      let (x, y, z) = same_look i o.op o'.op t o.left o.right o'.left o'.right (sym o.at ∙ ap (look net) q ∙ o'.at) in
      let same = begins_one net sound (up w [] t) o.asked o'.asked o.begins
      (subst (λ p. Begins net p o'.asked) (sym q) o'.begins) in
      let right : Takes net o.right v o'.lasts = subst (λ b. Takes net b v o'.lasts) (sym z) o'.takes in
      let e = o.rank in
      let e' = o'.rank in
      answers (up w [] t) (two i o.op t o.left o.right) (val_op o.op u v) o.asked (max o.lasts o'.lasts + 2) (suc (max n m)) o.begins o.at
      (u, v, o.lasts, o'.lasts, o.takes, right, refl, refl) (omega arith)

  -- the same where the right one is the later one to come
  together_right : (i : ℕ) (t : Boxes) (w : ℕ) (p : Place) (u v : Val) (n m : ℕ) → Operand net p i t Left u n →
      (o : Operand net (up w [] t) i t Right v m) → Ranks net (ans (val_op o.op u v) (down w [] t)) (suc (max n m))
  together_right i t w p u v n m o o' =
      let q = key_place net sound p (up w [] t) i o.op o'.op t o.left o.right o'.left o'.right o.at o'.at in
      let (x, y, z) = same_look i o.op o'.op t o.left o.right o'.left o'.right (sym o.at ∙ ap (look net) q ∙ o'.at) in
      let same = begins_one net sound (up w [] t) o.asked o'.asked (subst (λ p. Begins net p o.asked) q o.begins) o'.begins in
      let left : Takes net o'.left u o.lasts = subst (λ b. Takes net b u o.lasts) y o.takes in
      let e = o.rank in
      let e' = o'.rank in
      answers (up w [] t) (two i o'.op t o'.left o'.right) (val_op o'.op u v) o'.asked (max o.lasts o'.lasts + 2) (suc (max n m))
      o'.begins o'.at (u, v, o.lasts, o'.lasts, left, o'.takes, refl, refl) (omega arith)

  -- the second answer at a join
  pub second : (i : ℕ) (op : Operator) (s : Side) (v : Val) (w : ℕ) (t : Boxes) (e : Entry) (u : Val) (n k : ℕ) →
      Goes net n (join i op s v w t) → KeptAt net i t e k → n ≤ k → other op e s v ≡ Some u →
      (m : ℕ) × (n ≤ m) × (m ≤ k) × Ranks net (ans u (down w [] t)) (suc m)
  second i op s v w t pending u n k g h l e = absurd cc
  second i op Left v w t (has_left x) u n k g h l e = absurd cc
  second i op Right v w t (has_right x) u n k g h l e = absurd cc
  second i op Left v w t (has_right x) u n k (o, z) (p, m, o', l') l e =
      let r = together i t w p v x n m o o' in
      let q : val_op o.op v x ≡ u = let q' : val_op op v x ≡ u = cc in ap (λ op. val_op op v x) z ∙ q' in
      (max n m, omega arith, omega arith, subst (λ u. Ranks net (ans u (down w [] t)) (suc (max n m))) q r)
  second i op Right v w t (has_left x) u n k (o, z) (p, m, o', l') l e =
      let r = together_right i t w p x v m n o' o in
      let q : val_op o.op x v ≡ u = let q' : val_op op x v ≡ u = cc in ap (λ op. val_op op x v) z ∙ q' in
      (max m n, omega arith, omega arith, subst (λ u. Ranks net (ans u (down w [] t)) (suc (max m n))) q r)
