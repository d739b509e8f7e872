-- Where forks are, and that they nest: the forks of the stack are those around the current token, one around the other.
use Rattle.std.proofs.Common.{◌≡◌, ℕ, zero, List, [], ◌∷◌}
use Rattle.std.proofs.Common.{Option, Some, None, refl, sym, ap, ◌∙◌, ⊎_elim, inl, inr}
use Rattle.std.proofs.lemmas.Bool.{cases_eq}
use Rattle.pcf_values.specs.declared.val.Val.{Val}
use Rattle.pcf_values.specs.declared.operator.Operator.{Operator}
use Rattle.pcf_values.specs.declared.side.Side.{Side}
use Rattle.pcf_values.specs.declared.side.Side.TheVariants.{Left, Right}
use Rattle.token_stacks.specs.Signatures.{Work, Boxes}
use Rattle.net_build.specs.Nets.{NetTree}
use Rattle.net_build.specs.Sound.{Sound}
use Rattle.move_rules.specs.Places.{Place, up, down, turned, TokenTree, ask, ans}
use Rattle.move_rules.specs.Moves.{Look, dead, constant, pass, one, test, two, look, Move, solo, fork, join, stay, move}
use Rattle.move_rules.specs.Moves.{solo_at}
use Rattle.move_rules.proofs.Rows.{turned_twice}
use Rattle.fork_join.specs.Entries.{Key}
use Rattle.interleave_laws.specs.Start.{start_of}
use Rattle.interleave_laws.specs.States.{State}
use Rattle.interleave_laws.specs.Runs.{LeadsTo}
use Rattle.interleave_laws.proofs.Parents.{Child, known}
use Rattle.interleave_laws.proofs.Reached.{Starts, top, Accounted, reached}
use Rattle.interleave_laws.proofs.Running.{starts_of}
use Rattle.interleave_laws.proofs.Apart.{asked, asked_apart}
use Rattle.interleave_laws.proofs.Diamond.{solo_no_join, ask_no_join}
use Rattle.net_rows.specs.Rows.{Row, SUCC, PRED, TEST, JOIN, ANSWER, row_of, channel_of}
use Rattle.net_rows.specs.RowMoves.{stack_row, answer_row, by_found}
use Rattle.net_rows.proofs.Rows.{law}
use Rattle.newest_core.proofs.Inner.{Inner, in_root, in_fork, in_other, NotTwo, join_inner}
use Rattle.newest_core.specs.Processor.{Half, waits, came, OpenFork}

-- the right question that waits with a fork is that of its right operand
abbrev pub IsRight : Half → Place → Type 0
IsRight (waits j p) b = p ≡ b
IsRight (came v) b = Unit {0}

-- the innermost fork around a place is the first of the stack, and the innermost one around that is the second
abbrev pub Nests : NetTree → List OpenFork → Place → Type 0
Nests net [] p = Inner net p None
Nests net (f ∷ fs) p = Inner net p (Some (f.node, f.boxes)) × (q : Place) × (op : Operator) × (a : Place) × (b : Place) ×
    (look net q ≡ two f.node op f.boxes a b) × IsRight f.half b × Nests net fs q

-- a row of stacks makes no fork and no join
solo_no_fork : (i : ℕ) (o : Option Place) (f : Place → TokenTree) (n : ℕ) (l r : Place) (t : Boxes) → solo_at i o f ≡ fork n l r t → ⊥
solo_no_fork i None f n l r t h = cc
solo_no_fork i (Some q) f n l r t h = cc

-- an answer makes no fork
answer_no_fork : (i : ℕ) (r : Row) (v : Val) (m : Work) (u : Boxes) (n : ℕ) (l k : Place) (t : Boxes) →
    answer_row i r v m u ≡ fork n l k t → ⊥
answer_no_fork i (SUCC c) v m u n l k t h = cc
answer_no_fork i (PRED c) v m u n l k t h = cc
answer_no_fork i (TEST c d) v m u n l k t h = cc
answer_no_fork i (JOIN o s w) v [] u n l k t h = cc
answer_no_fork i (JOIN o s w) v (x ∷ m) u n l k t h = cc
answer_no_fork i ANSWER v m u n l k t h = cc
answer_no_fork i r v m u n l k t h = solo_no_fork i (stack_row r m u) (ans v) n l k t h

-- a join has the answer's value
answer_joins : (i : ℕ) (r : Row) (x : Val) (m : Work) (u : Boxes) (n : ℕ) (o : Operator) (s : Side) (v : Val) (w : ℕ) (t : Boxes) →
    answer_row i r x m u ≡ join n o s v w t → x ≡ v
answer_joins i (SUCC c) x m u n o s v w t h = absurd cc
answer_joins i (PRED c) x m u n o s v w t h = absurd cc
answer_joins i (TEST c d) x m u n o s v w t h = absurd cc
answer_joins i (JOIN p d y) x [] u n o s v w t h = cc
answer_joins i (JOIN p d y) x (z ∷ m) u n o s v w t h = absurd cc
answer_joins i ANSWER x m u n o s v w t h = absurd cc
answer_joins i r x m u n o s v w t h = absurd (solo_no_join i (stack_row r m u) (ans x) n o s v w t h)

module _ (net : NetTree) (sound : Sound net) where
  -- only a question forks
  pub forks_ask : (x : TokenTree) (n : ℕ) (l r : Place) (t : Boxes) → move net x ≡ fork n l r t → (p : Place) × (x ≡ ask p)
  forks_ask (ask p) n l r t h = (p, refl)
  forks_ask (ans v q) n l r t h =
      absurd (found q (row_of net (channel_of q))
      (sym (law net sound (ans v q) (λ e. let z : fork n l r t ≡ stay = sym h ∙ e in cc)) ∙ h))
    where
      found : (q : Place) (o : Option (ℕ × Row)) → by_found o (ans v q) ≡ fork n l r t → ⊥
      found q None e = cc
      found (up w m u) (Some r') e = answer_no_fork r'.0 r'.1 v m u n l r t e
      found (down w m u) (Some r') e = answer_no_fork r'.0 r'.1 v m u n l r t e

  -- only an answer joins, with its value
  pub joins_ans : (x : TokenTree) (n : ℕ) (o : Operator) (s : Side) (v : Val) (w : ℕ) (t : Boxes) → move net x ≡ join n o s v w t →
      (q : Place) × (x ≡ ans v q)
  joins_ans (ask p) n o s v w t h = absurd (ask_no_join (look net p) p n o s v w t h)
  joins_ans (ans y q) n o s v w t h = (
    q,
    ap (λ v. ans v q) (found q (row_of net (channel_of q))
        (sym (law net sound (ans y q) (λ e. let z : join n o s v w t ≡ stay = sym h ∙ e in cc)) ∙ h)),
  )
    where
      found : (q : Place) (r : Option (ℕ × Row)) → by_found r (ans y q) ≡ join n o s v w t → y ≡ v
      found q None e = absurd cc
      found (up a m u) (Some r) e = answer_joins r.0 r.1 y m u n o s v w t e
      found (down a m u) (Some r) e = answer_joins r.0 r.1 y m u n o s v w t e

  solo_joins : (j i : ℕ) (y : TokenTree) (op : Operator) (d : Side) (v : Val) (w : ℕ) (t : Boxes) (m : Move) → m ≡ solo j y →
      m ≡ join i op d v w t → ⊥
  solo_joins j i y op d v w t m e h = let z : solo j y ≡ join i op d v w t = sym e ∙ h in cc

  -- no other child's answer joins
  child_no_join : (r p : Place) (l : Look) (i : ℕ) (op : Operator) (d : Side) (v : Val) (w : ℕ) (t : Boxes) → look net r ≡ l → NotTwo l →
      Child l p → move net (ans v (turned p)) ≡ join i op d v w t → ⊥
  child_no_join r p dead i op d v w t h n c e = elim c [ ]
  child_no_join r p (constant k m) i op d v w t h n c e = elim c [ ]
  child_no_join r p (pass k q) i op d v w t h n c e = let (j, b) = (known net sound r (pass k q) h).1 v in
      solo_joins j i _ op d v w t _ (ap (λ p. move net (ans v (turned p))) (sym c) ∙ b) e
  child_no_join r p (one k f q) i op d v w t h n c e = let (j, b) = (known net sound r (one k f q) h).1 v in
      solo_joins j i _ op d v w t _ (ap (λ p. move net (ans v (turned p))) (sym c) ∙ b) e
  child_no_join r p (test k x a b) i op d v w t h n (inl c) e = let (j, g) = (known net sound r (test k x a b) h).0.1 v in
      solo_joins j i _ op d v w t _ (ap (λ p. move net (ans v (turned p))) (sym c) ∙ g) e
  child_no_join r p (test k x a b) i op d v w t h n (inr (inl c)) e = let (j, g) = (known net sound r (test k x a b) h).1.1 v in
      solo_joins j i _ op d v w t _ (ap (λ p. move net (ans v (turned p))) (sym c) ∙ g) e
  child_no_join r p (test k x a b) i op d v w t h n (inr (inr c)) e = let (j, g) = (known net sound r (test k x a b) h).2.1 v in
      solo_joins j i _ op d v w t _ (ap (λ p. move net (ans v (turned p))) (sym c) ∙ g) e
  child_no_join r p (two k o u a b) i op d v w t h n c e = elim n [ ]

  -- an answer that joins from the right is that of the fork's right operand
  pub join_operand : (i : ℕ) (op : Operator) (d : Side) (v : Val) (w : ℕ) (t : Boxes) (q : Place) (o : Option Key) →
      Inner net (turned q) o → move net (ans v q) ≡ join i op d v w t → d ≡ Right →
      (r : Place) × (a : Place) × (op' : Operator) × (look net r ≡ two i op' t a (turned q))
  join_operand i op d v w t q o (in_root e) h z =
      let (bad, _) = join_inner net sound i op d v w t q None (in_root e) h in
      let no : ◌≡◌ {A = Option Key} None (Some (i, t)) = bad in absurd cc
  join_operand i op d v w t q o (in_fork r a b k op' s l (inl c)) h z =
      let f = known net sound r (two k op' s a b) l in
      let g : join k op' Left v f.out s ≡ join i op d v w t =
      sym (f.left_joins v) ∙ ap (λ p. move net (ans v (turned p))) c ∙ ap (λ q. move net (ans v q)) (turned_twice q) ∙ h in
      let bad : Left ≡ Right = (let y : Left ≡ d = cc in y) ∙ z in absurd cc
  join_operand i op d v w t q o (in_fork r a b k op' s l (inr c)) h z =
      let f = known net sound r (two k op' s a b) l in
      let g : join k op' Right v f.out s ≡ join i op d v w t =
      sym (f.right_joins v) ∙ ap (λ p. move net (ans v (turned p))) c ∙ ap (λ q. move net (ans v q)) (turned_twice q) ∙ h in
      let ek : k ≡ i = cc in
      let es : s ≡ t = cc in
      (r, a, op', l ∙ ap (λ k. two k op' s a b) ek ∙ ap (λ s. two i op' s a b) es ∙ ap (λ b. two i op' t a b) c)
  join_operand i op d v w t q o (in_other r l h n c g) e z =
      absurd (child_no_join r (turned q) l i op d v w t h n c (ap (λ q. move net (ans v q)) (turned_twice q) ∙ e))

  -- two live tokens of one question are one
  pub asked_once : (log : List ℕ) (S : State) → LeadsTo net log S → (i j : ℕ) (x y : TokenTree) → S.tokens i ≡ Some x →
      S.tokens j ≡ Some y → asked x ≡ asked y → i ≡ j
  asked_once log S h i j x y e g z = ⊎_elim (λ q. q) (λ n. absurd (go (reached net sound (start_of net) s log S h) n)) (cases_eq i j)
    where
      s : Starts net (start_of net)
      s = starts_of net sound

      go : {n : ℕ} → Accounted net (start_of net) n S → (i ≡ j → ⊥) → ⊥
      go (inr o) d = let bad : None ≡ Some x = sym (o.no_tokens i) ∙ e in cc
      go (inl (t, live)) d =
          asked_apart net sound (start_of net) (top net sound (start_of net) s) t (start_of net) i j x y live.valid (zero, refl)
          (sym (live.has_tokens i) ∙ e) (sym (live.has_tokens j) ∙ g) d z
