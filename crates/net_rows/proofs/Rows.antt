-- Rows are the table of moves, on sound nets.
-- A plain rule that leads somewhere is what the row makes of the stacks; with that the rows of plain nodes are done for questions and
-- answers
-- alike, and the rows of numbers are seen one by one. Soundness serves three nodes: a number's own wire, and the two wires of an
-- application
-- and of a `fix`, which must not be one.
use Rattle.std.proofs.Common.{◌≡◌, ◌≢◌, ℕ, zero, suc, Bool, true, false, cond, [], ◌∷◌, Option, Some, None, refl, sym}
use Rattle.std.proofs.Common.{ap, ◌∙◌, subst, inl, inr}
use Rattle.std.proofs.lemmas.Bool.{eqb-true, ne_eqb}
use Rattle.std.specs.Prelude.{nat_eq}
use Rattle.pcf_values.specs.declared.val.Val.{Val}
use Rattle.pcf_values.specs.declared.val.Val.TheVariants.{Number, Overflow}
use Rattle.pcf_values.specs.Values.{at_zero}
use Rattle.pcf_values.specs.declared.operator.Operator.{Operator}
use Rattle.pcf_values.specs.declared.side.Side.TheVariants.{Left, Right}
use Rattle.token_stacks.specs.Signatures.{star, left_of, right_of, pair_of, again, R, L, S, Work, Boxes}
use Rattle.net_build.specs.declared.node.Node.{Node}
use Rattle.net_build.specs.declared.node.Node.TheVariants.{Const, Succ, Pred, Ifz, Der, Con, Lam, App, BoxNode, Door, Binary, Proj}
use Rattle.net_build.specs.declared.node.Node.TheVariants.{FixBox, Root, Pair}
use Rattle.net_build.specs.Nets.{NetTree, premises, conclusions}
use Rattle.net_build.specs.Faces.{node_above, node_below}
use Rattle.net_build.specs.Sound.{Sound}
use Rattle.move_rules.specs.Places.{Place, up, down, TokenTree, ask, ans}
use Rattle.move_rules.specs.Table.{or_else, at_wire, on_found, lam_up, lam_var, app_fun, app_arg, box_up, box_down, door_up, door_down}
use Rattle.move_rules.specs.Table.{der_back, con_up, con_down, fix_var, fix_out, fix_back, pair_up, fst_down, snd_down, plain_up}
use Rattle.move_rules.specs.Table.{plain_down}
use Rattle.move_rules.specs.Moves.{dead, solo, join, stay, pass_at, ask_move, solo_at, or_stay, look_up, operand_down, ans_down, move}
use Rattle.move_rules.proofs.Faces.{Among, Apart, above_faced, below_faced}
use Rattle.net_rows.specs.Rows.{Row, GO, CONST, SUCC, PRED, TEST, FORK, JOIN, ANSWER, STAR, UNSTAR, LEFT, RIGHT, CON, PUSHR, PUSHL}
use Rattle.net_rows.specs.Rows.{SELECT, POP, BOXIN, BOXOUT, DOOROUT, DOORIN, FIXOUT, FIXVAR}
use Rattle.net_rows.specs.Rows.{rises, falls, if_at, row_up, row_down, found_row}
use Rattle.net_rows.specs.RowMoves.{stack_row, answer_row, question_row, by_found, by_rows, at}

-- where the rule leads, the row leads
abbrev Leads : Row → Work → Boxes → Option Place → Type 0
Leads r m t o = (q : Place) → o ≡ Some q → stack_row r m t ≡ Some q

lam_leads : (b x : ℕ) (m : Work) (t : Boxes) → Leads (SELECT (rises b) (rises x)) m t (lam_up b x m t)
lam_leads b x (R ∷ m) t q h = h
lam_leads b x (L ∷ S s ∷ m) t q h = h
lam_leads b x (L ∷ R ∷ m) t q h = cc
lam_leads b x (L ∷ L ∷ m) t q h = cc
lam_leads b x (L ∷ []) t q h = cc
lam_leads b x (S s ∷ m) t q h = cc
lam_leads b x [] t q h = cc

var_leads : (c : ℕ) (m : Work) (t : Boxes) → Leads (PUSHL (falls c)) m t (lam_var c m t)
var_leads c (S s ∷ m) t q h = h
var_leads c _ t q h = cc

fun_leads : (a c : ℕ) (m : Work) (t : Boxes) → Leads (SELECT (falls c) (rises a)) m t (app_fun a c m t)
fun_leads a c (R ∷ m) t q h = h
fun_leads a c (L ∷ S s ∷ m) t q h = h
fun_leads a c (L ∷ R ∷ m) t q h = cc
fun_leads a c (L ∷ L ∷ m) t q h = cc
fun_leads a c (L ∷ []) t q h = cc
fun_leads a c (S s ∷ m) t q h = cc
fun_leads a c [] t q h = cc

arg_leads : (f : ℕ) (m : Work) (t : Boxes) → Leads (PUSHL (rises f)) m t (app_arg f m t)
arg_leads f (S s ∷ m) t q h = h
arg_leads f _ t q h = cc

box_up_leads : (i : ℕ) (m : Work) (t : Boxes) → Leads (BOXIN (rises i)) m t (box_up i m t)
box_up_leads i (S s ∷ m) t q h = h
box_up_leads i _ t q h = cc

box_down_leads : (o : ℕ) (m : Work) (t : Boxes) → Leads (BOXOUT (falls o)) m t (box_down o m t)
box_down_leads o m (s ∷ t) q h = h
box_down_leads o m [] q h = cc

door_down_leads : (o : ℕ) (m : Work) (t : Boxes) → Leads (DOOROUT (falls o)) m t (door_down o m t)
door_down_leads o (S u ∷ m) (s ∷ t) q h = h
door_down_leads o _ _ q h = cc

door_up_leads : (i : ℕ) (m : Work) (t : Boxes) → Leads (DOORIN (rises i)) m t (door_up i m t)
door_up_leads i (S (pair_of s u) ∷ m) t q h = h
door_up_leads i _ t q h = cc

der_leads : (v : ℕ) (m : Work) (t : Boxes) → Leads (UNSTAR (falls v)) m t (der_back v m t)
der_leads v (S star ∷ m) t q h = h
der_leads v _ t q h = cc

con_leads : (l r : ℕ) (m : Work) (t : Boxes) → Leads (CON (rises l) (rises r)) m t (con_up l r m t)
con_leads l r (S (left_of s) ∷ m) t q h = h
con_leads l r (S (right_of s) ∷ m) t q h = h
con_leads l r _ t q h = cc

left_leads : (c : ℕ) (m : Work) (t : Boxes) → Leads (LEFT (falls c)) m t (con_down left_of c m t)
left_leads c (S s ∷ m) t q h = h
left_leads c _ t q h = cc

right_leads : (c : ℕ) (m : Work) (t : Boxes) → Leads (RIGHT (falls c)) m t (con_down right_of c m t)
right_leads c (S s ∷ m) t q h = h
right_leads c _ t q h = cc

fix_var_leads : (b : ℕ) (m : Work) (t : Boxes) → Leads (FIXVAR (rises b)) m t (fix_var b m t)
fix_var_leads b (S s ∷ m) (u ∷ t) q h = h
fix_var_leads b _ _ q h = cc

pair_leads : (a b : ℕ) (m : Work) (t : Boxes) → Leads (SELECT (rises b) (rises a)) m t (pair_up a b m t)
pair_leads a b (L ∷ m) t q h = h
pair_leads a b (R ∷ m) t q h = h
pair_leads a b _ t q h = cc

fst_leads : (c : ℕ) (m : Work) (t : Boxes) → Leads (POP (falls c)) m t (fst_down c m t)
fst_leads c (L ∷ m) t q h = h
fst_leads c _ t q h = cc

snd_leads : (c : ℕ) (m : Work) (t : Boxes) → Leads (POP (falls c)) m t (snd_down c m t)
snd_leads c (R ∷ m) t q h = h
snd_leads c _ t q h = cc

-- both ways out of the body of a `fix`
fix_leads : (c x : ℕ) (m : Work) (t : Boxes) → Leads (FIXOUT (falls c) (rises x)) m t (or_else (fix_out c m t) (fix_back x m t))
fix_leads c x m (star ∷ t) q h = h
fix_leads c x m (again u s ∷ t) q h = h
fix_leads c x m _ q h = cc

-- a rule at a wire
wire_leads : (r : Row) (m : Work) (t : Boxes) (x w : ℕ) (o : Option Place) → Leads r m t o → Leads r m t (at_wire x w o)
wire_leads r m t x w o f = go (nat_eq x w)
  where
    go : (b : Bool) → Leads r m t (cond b o None)
    go true = f
    go false = λ q h. cc

-- two rules at two wires, the first of which says all at its own
both_lead : (r s : Row) (m : Work) (t : Boxes) (x y w : ℕ) (o p : Option Place) → (x ≡ w → y ≡ w → ⊥) → Leads r m t o →
    Leads s m t p → Leads (if_at x w r s) m t (or_else (at_wire x w o) (at_wire y w p))
both_lead r s m t x y w o p apart f g = go (nat_eq x w) refl
  where
    alone : (o : Option Place) → Leads r m t o → Leads r m t (or_else o None)
    alone None f = f
    alone (Some z) f = f

    go : (b : Bool) → nat_eq x w ≡ b → Leads (cond b r s) m t (or_else (cond b o None) (at_wire y w p))
    go true e = subst (λ c. Leads r m t (or_else o (cond c p None))) (sym (ne_eqb y w (apart (eqb-true x w e)))) (alone o f)
    go false e = wire_leads s m t y w p g

-- up a conclusion
up_leads : (n : Node) (w : ℕ) (m : Work) (t : Boxes) → Apart (conclusions n) → Leads (row_up n w) m t (plain_up n w m t)
up_leads (Der v x) w m t a = both_lead (STAR (falls x)) (UNSTAR (falls v)) m t v x w _ _ (λ e g. a.0 (inl (g ∙ sym e))) (λ q h. h)
    (der_leads v m t)
up_leads (Con l r c) w m t a = con_leads l r m t
up_leads (Lam b x c) w m t a = lam_leads b x m t
up_leads (App f x c) w m t a = λ q h. h
up_leads (BoxNode i o) w m t a = box_up_leads i m t
up_leads (Door i o) w m t a = door_up_leads i m t
up_leads (FixBox b x c) w m t a = λ q h. h
up_leads (Pair x b c) w m t a = pair_leads x b m t
up_leads (Proj Left x c) w m t a = λ q h. h
up_leads (Proj Right x c) w m t a = λ q h. h
up_leads n w m t a = λ q h. cc

-- down a premise
down_leads : (n : Node) (w : ℕ) (m : Work) (t : Boxes) → Apart (premises n) → Leads (row_down n w) m t (plain_down n w m t)
down_leads (Con l r c) w m t a = both_lead (LEFT (falls c)) (RIGHT (falls c)) m t l r w _ _ (λ e g. a.0 (inl (g ∙ sym e)))
    (left_leads c m t) (right_leads c m t)
down_leads (Lam b x c) w m t a = both_lead (PUSHR (falls c)) (PUSHL (falls c)) m t b x w _ _ (λ e g. a.0 (inl (g ∙ sym e))) (λ q h. h)
    (var_leads c m t)
down_leads (App f x c) w m t a = both_lead (SELECT (falls c) (rises x)) (PUSHL (rises f)) m t f x w _ _ (λ e g. a.0 (inl (g ∙ sym e)))
    (fun_leads x c m t) (arg_leads f m t)
down_leads (BoxNode i o) w m t a = box_down_leads o m t
down_leads (Door i o) w m t a = door_down_leads o m t
down_leads (FixBox b x c) w m t a = go (nat_eq b w) refl
  where
    here : (k : Bool) → nat_eq x w ≡ k → k ≡ false →
        Leads (FIXOUT (falls c) (rises x)) m t (or_else (fix_out c m t) (or_else (cond k (fix_var b m t) None) (fix_back x m t)))
    here true e z = absurd cc
    here false e z = fix_leads c x m t

    there : (k : Bool) → Leads (FIXVAR (rises b)) m t (or_else (cond k (fix_var b m t) None) None)
    there true = alone (fix_var b m t) (fix_var_leads b m t)
      where
        alone : (o : Option Place) → Leads (FIXVAR (rises b)) m t o → Leads (FIXVAR (rises b)) m t (or_else o None)
        alone None f = f
        alone (Some z) f = f
    there false = λ q h. cc

    go : (k : Bool) → nat_eq b w ≡ k →
        Leads (cond k (FIXOUT (falls c) (rises x)) (FIXVAR (rises b))) m t
        (or_else (cond k (fix_out c m t) None) (or_else (at_wire x w (fix_var b m t)) (cond k (fix_back x m t) None)))
    go true e = here (nat_eq x w) refl (ne_eqb x w (λ g. a.0 (inl (g ∙ sym (eqb-true b w e)))))
    go false e = there (nat_eq x w)
down_leads (Pair x y c) w m t a = both_lead (PUSHL (falls c)) (PUSHR (falls c)) m t x y w _ _ (λ e g. a.0 (inl (g ∙ sym e))) (λ q h. h)
    (λ q h. h)
down_leads (Proj Left x c) w m t a = fst_leads c m t
down_leads (Proj Right x c) w m t a = snd_leads c m t
down_leads n w m t a = λ q h. cc

-- a row that leads somewhere is a row of stacks alone, for questions and answers alike
pub asks_there : (i : ℕ) (r : Row) (m : Work) (t : Boxes) (q : Place) → stack_row r m t ≡ Some q →
    question_row i r m t ≡ solo i (ask q)
asks_there i (CONST n c) m t q h = cc
asks_there i (FORK c d) m t q h = cc
asks_there i r m t q h = ap (λ s. solo_at i s ask) h

pub answers_there : (i : ℕ) (r : Row) (v : Val) (m : Work) (t : Boxes) (q : Place) → stack_row r m t ≡ Some q →
    answer_row i r v m t ≡ solo i (ans v q)
answers_there i (SUCC c) v m t q h = cc
answers_there i (PRED c) v m t q h = cc
answers_there i (TEST c d) v m t q h = cc
answers_there i (JOIN o s w) v m t q h = cc
answers_there i ANSWER v m t q h = cc
answers_there i r v m t q h = ap (λ s. solo_at i s (ans v)) h

-- so a plain rule of a question is its row's, and of an answer too
passes : (i : ℕ) (r : Row) (m : Work) (t : Boxes) (p : Place) (o : Option Place) → Leads r m t o →
    ask_move (pass_at i o) p ≢ stay → ask_move (pass_at i o) p ≡ question_row i r m t
passes i r m t p None f h = absurd (h refl)
passes i r m t p (Some q) f h = sym (asks_there i r m t q (f q refl))

carries : (i : ℕ) (r : Row) (v : Val) (m : Work) (t : Boxes) (o : Option Place) → Leads r m t o → solo_at i o (ans v) ≢ stay →
    solo_at i o (ans v) ≡ answer_row i r v m t
carries i r v m t None f h = absurd (h refl)
carries i r v m t (Some q) f h = sym (answers_there i r v m t q (f q refl))

-- a question up a conclusion
asks_up : (i : ℕ) (n : Node) (w : ℕ) (m : Work) (t : Boxes) → Apart (conclusions n) → Among w (conclusions n) →
    ask_move (look_up i n w m t) (up w m t) ≢ stay → ask_move (look_up i n w m t) (up w m t) ≡ question_row i (row_up n w) m t
asks_up i (Const v c) w [] t a (inl e) h = ap (λ w. solo i (ans (Number v) (down w [] t))) (sym e)
asks_up i (Const v c) w [] t a (inr e) h = elim e [ ]
asks_up i (Succ x c) w [] t a e h = refl
asks_up i (Pred x c) w [] t a e h = refl
asks_up i (Ifz b p q c) w [] t a e h = refl
asks_up i (Binary o x y c) w [] t a e h = refl
asks_up i n w m t a e h = passes i (row_up n w) m t (up w m t) (plain_up n w m t) (up_leads n w m t a) h

-- an operand's answer
joins : (i : ℕ) (o : Operator) (a b c : ℕ) (v : Val) (w : ℕ) (t : Boxes) → operand_down i o a b c v w t ≢ stay →
    operand_down i o a b c v w t ≡ answer_row i (if_at a w (JOIN o Left c) (JOIN o Right c)) v [] t
joins i o a b c v w t = go (nat_eq a w) (nat_eq b w)
  where
    go : (x y : Bool) → or_stay (cond x (join i o Left v c t) stay) (cond y (join i o Right v c t) stay) ≢ stay →
        or_stay (cond x (join i o Left v c t) stay) (cond y (join i o Right v c t) stay) ≡ answer_row i
        (cond x (JOIN o Left c) (JOIN o Right c)) v [] t
    go true y h = refl
    go false true h = refl
    go false false h = absurd (h refl)

-- the branch that a test takes
branch : (i p q : ℕ) (v : Val) (t : Boxes) → solo i (ask (up (at_zero v p q) [] t)) ≡ solo i
    (ask (at (at_zero v (rises p) (rises q)) [] t))
branch i p q (Number zero) t = refl
branch i p q (Number (suc n)) t = refl
branch i p q Overflow t = refl

-- an answer to a test or from one of its branches
tests : (i b p q c : ℕ) (v : Val) (w : ℕ) (boxes : Boxes) → ans_down i (Ifz b p q c) v w [] boxes ≢ stay →
    ans_down i (Ifz b p q c) v w [] boxes ≡ answer_row i (if_at b w (TEST (rises p) (rises q)) (GO (falls c))) v [] boxes
tests i b p q c v w boxes = go (nat_eq b w) (nat_eq p w) (nat_eq q w)
  where
    go : (x y z : Bool) →
        or_stay (cond x (solo i (ask (up (at_zero v p q) [] boxes))) stay)
        (or_stay (cond y (solo i (ans v (down c [] boxes))) stay) (cond z (solo i (ans v (down c [] boxes))) stay)) ≢ stay →
        or_stay (cond x (solo i (ask (up (at_zero v p q) [] boxes))) stay)
        (or_stay (cond y (solo i (ans v (down c [] boxes))) stay) (cond z (solo i (ans v (down c [] boxes))) stay))
        ≡ answer_row i (cond x (TEST (rises p) (rises q)) (GO (falls c))) v [] boxes
    go true y z h = branch i p q v boxes
    go false true z h = refl
    go false false true h = refl
    go false false false h = absurd (h refl)

-- an answer down a premise
answers_down : (i : ℕ) (n : Node) (v : Val) (w : ℕ) (m : Work) (t : Boxes) → Apart (premises n) → ans_down i n v w m t ≢ stay →
    ans_down i n v w m t ≡ answer_row i (row_down n w) v m t
answers_down i (Succ x c) v w [] t a h = refl
answers_down i (Pred x c) v w [] t a h = refl
answers_down i (Ifz b p q c) v w [] t a h = tests i b p q c v w t h
answers_down i (Binary o x y c) v w [] t a h = joins i _ x y c v w t h
answers_down i (Root c) v w [] t a h = refl
answers_down i n v w m t a h = carries i (row_down n w) v m t (plain_down n w m t) (down_leads n w m t a) h

-- the law
pub law : (net : NetTree) → Sound net → (x : TokenTree) → move net x ≢ stay → move net x ≡ by_rows net x
law net sound (ask (up w m t)) = go (node_above net w) refl
  where
    go : (o : Option (ℕ × Node)) → node_above net w ≡ o →
        ask_move (on_found o dead (λ i n. look_up i n w m t)) (up w m t) ≢ stay →
        ask_move (on_found o dead (λ i n. look_up i n w m t)) (up w m t) ≡ by_found (found_row o (λ n. row_up n w)) (ask (up w m t))
    go None e h = absurd (h refl)
    go (Some p) e h = let (f, _, a) = above_faced net sound w p.0 p.1 e in asks_up p.0 p.1 w m t f.apart_up a h
law net sound (ask (down w m t)) = go (node_below net w) refl
  where
    go : (o : Option (ℕ × Node)) → node_below net w ≡ o →
        ask_move (on_found o dead (λ i n. pass_at i (plain_down n w m t))) (down w m t) ≢ stay →
        ask_move (on_found o dead (λ i n. pass_at i (plain_down n w m t))) (down w m t) ≡ by_found (found_row o (λ n. row_down n w))
        (ask (down w m t))
    go None e h = absurd (h refl)
    go (Some p) e h = let (f, _, a) = below_faced net sound w p.0 p.1 e in
        passes p.0 (row_down p.1 w) m t (down w m t) (plain_down p.1 w m t) (down_leads p.1 w m t f.apart_down) h
law net sound (ans v (up w m t)) = go (node_above net w) refl
  where
    go : (o : Option (ℕ × Node)) → node_above net w ≡ o →
        on_found o stay (λ i n. solo_at i (plain_up n w m t) (ans v)) ≢ stay →
        on_found o stay (λ i n. solo_at i (plain_up n w m t) (ans v)) ≡ by_found (found_row o (λ n. row_up n w)) (ans v (up w m t))
    go None e h = absurd (h refl)
    go (Some p) e h = let (f, _, a) = above_faced net sound w p.0 p.1 e in
        carries p.0 (row_up p.1 w) v m t (plain_up p.1 w m t) (up_leads p.1 w m t f.apart_up) h
law net sound (ans v (down w m t)) = go (node_below net w) refl
  where
    go : (o : Option (ℕ × Node)) → node_below net w ≡ o → on_found o stay (λ i n. ans_down i n v w m t) ≢ stay →
        on_found o stay (λ i n. ans_down i n v w m t) ≡ by_found (found_row o (λ n. row_down n w)) (ans v (down w m t))
    go None e h = absurd (h refl)
    go (Some p) e h = let (f, _, a) = below_faced net sound w p.0 p.1 e in answers_down p.0 p.1 v w m t f.apart_down h
