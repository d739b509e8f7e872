-- What a run of the processor always has: its token is at the stacks of a wire, and the right question of each open fork is at the channel
-- that the fork's node tells.
use Rattle.std.proofs.Common.{◌≡◌, ℕ, zero, suc, ◌+◌, Bool, true, false, cond, List, [], ◌∷◌, Option, Some, None, refl, sym, ap, ◌∙◌}
use Rattle.std.proofs.Common.{subst, arith}
use Rattle.std.specs.Prelude.{slice_get}
use Rattle.std.proofs.lemmas.Bool.{eq-eqb}
use Rattle.pcf_values.specs.declared.val.Val.{Val}
use Rattle.pcf_values.specs.declared.operator.Operator.{Operator}
use Rattle.pcf_values.specs.declared.side.Side.TheVariants.{Left, Right}
use Rattle.token_stacks.specs.Signatures.{Work, Boxes}
use Rattle.net_build.specs.declared.node.Node.{Node}
use Rattle.net_build.specs.declared.node.Node.TheVariants.{Const, Succ, Pred, Ifz, Der, Con, Weak, Lam, App, BoxNode, Binary, Proj}
use Rattle.net_build.specs.declared.node.Node.TheVariants.{Door, FixBox, Root, Pair}
use Rattle.net_build.specs.Nets.{NetTree, conclusions}
use Rattle.net_build.specs.Faces.{has, least, node_above, node_below}
use Rattle.move_rules.specs.Places.{Place, up, down, TokenTree, ask, ans, place_of}
use Rattle.move_rules.specs.Moves.{Move, solo, fork, join, answer, stay, solo_at}
use Rattle.interleave_laws.specs.Runs.{Runs}
use Rattle.net_rows.specs.Rows.{Row, CONST, SUCC, PRED, TEST, FORK, JOIN, ANSWER, STAR, UNSTAR, LEFT, RIGHT, GO, PUSHR, PUSHL}
use Rattle.net_rows.specs.Rows.{SELECT, FIXOUT, FIXVAR, Channel, rises, falls, found_row, row_up, row_down, row_of}
use Rattle.net_rows.specs.RowMoves.{at, stack_row, answer_row, question_row, by_found, by_rows}
use Rattle.newest_core.specs.Placed.{Placed}
use Rattle.newest_core.proofs.Placed.{run_placed}
use Rattle.newest_core.specs.Processor.{Half, waits, came, OpenFork, Registers, meets_half, meets, does, counted, tick_on, tick, ticks}
use Rattle.newest_core.specs.Processor.{reset}
use Rattle.newest_core.specs.Processor.{newest, waiting_at, token_at}
use Rattle.newest_core.proofs.Processor.{follows, tick_last}
use Rattle.joined_core.specs.Right.{right_of, right_question}

-- the token of a run is at the stacks of its wire
pub live_placed : (net : NetTree) → Runs net → (n i : ℕ) (x : TokenTree) → (ticks net n (reset net)).live ≡ Some (i, x) →
    Placed net (place_of x)
live_placed net runs n i x e =
    let f = follows net runs n in
    let R : Registers = ticks net n (reset net) in
    let there : f.state.tokens i ≡ Some x = f.shows.tokens i ∙ ap (λ l. token_at l R.forks i) e
    ∙ ap (λ b. cond b (Some x) (waiting_at R.forks i)) (eq-eqb i i refl) in
    run_placed net runs.sound (newest net n) f.state f.leads i x there

-- a fork is at its node, and its right question goes up the right operand
abbrev pub AsksRight : NetTree → ℕ → Boxes → Place → Type 0
AsksRight net i t p = (d : Channel) × (right_question net i ≡ Some d) × (p ≡ at d [] t)

abbrev pub HalfWaits : NetTree → ℕ → Boxes → Half → Type 0
HalfWaits net i t (waits j p) = AsksRight net i t p
HalfWaits net i t (came v) = Unit {0}

abbrev pub ForksWait : NetTree → List OpenFork → Type 0
ForksWait net [] = Unit {0}
ForksWait net (f ∷ fs) = HalfWaits net f.node f.boxes f.half × ForksWait net fs

if_not : (A : Type 0) (b : Bool) (q r s : Row) → (r ≡ q → A) → (s ≡ q → A) → cond b r s ≡ q → A
if_not A true q r s f g e = f e
if_not A false q r s f g e = g e

-- a fork's row is that of an operator that is asked
up_forks : (n : Node) (w : ℕ) (c d : Channel) → row_up n w ≡ FORK c d → right_of (Some n) ≡ Some d
up_forks (Const v a) w c d e = absurd cc
up_forks (Succ a b) w c d e = absurd cc
up_forks (Pred a b) w c d e = absurd cc
up_forks (Binary o a b x) w c d e = cc
up_forks (Ifz b p q x) w c d e = absurd cc
up_forks (Der v x) w c d e =
    if_not (right_of (Some (Der v x)) ≡ Some d) _ (FORK c d) (STAR (falls x)) (UNSTAR (falls v)) (λ h. absurd cc) (λ h. absurd cc) e
up_forks (Con l r x) w c d e = absurd cc
up_forks (Weak x) w c d e = absurd cc
up_forks (Lam b x y) w c d e = absurd cc
up_forks (App f a x) w c d e = absurd cc
up_forks (BoxNode i o) w c d e = absurd cc
up_forks (Door i o) w c d e = absurd cc
up_forks (FixBox b x y) w c d e = absurd cc
up_forks (Root x) w c d e = absurd cc
up_forks (Pair a b x) w c d e = absurd cc
up_forks (Proj Left a x) w c d e = absurd cc
up_forks (Proj Right a x) w c d e = absurd cc

-- and none that is answered
down_forks : (A : Type 0) (n : Node) (w : ℕ) (c d : Channel) → row_down n w ≡ FORK c d → A
down_forks A (Const v a) w c d e = absurd cc
down_forks A (Succ a b) w c d e = absurd cc
down_forks A (Pred a b) w c d e = absurd cc
down_forks A (Binary o a b x) w c d e = if_not A _ (FORK c d) (JOIN o Left x) (JOIN o Right x) (λ h. absurd cc) (λ h. absurd cc) e
down_forks A (Ifz b p q x) w c d e = if_not A _ (FORK c d) (TEST (rises p) (rises q)) (GO (falls x)) (λ h. absurd cc) (λ h. absurd cc) e
down_forks A (Der v x) w c d e = absurd cc
down_forks A (Con l r x) w c d e = if_not A _ (FORK c d) (LEFT (falls x)) (RIGHT (falls x)) (λ h. absurd cc) (λ h. absurd cc) e
down_forks A (Weak x) w c d e = absurd cc
down_forks A (Lam b x y) w c d e = if_not A _ (FORK c d) (PUSHR (falls y)) (PUSHL (falls y)) (λ h. absurd cc) (λ h. absurd cc) e
down_forks A (App f a x) w c d e =
    if_not A _ (FORK c d) (SELECT (falls x) (rises a)) (PUSHL (rises f)) (λ h. absurd cc) (λ h. absurd cc) e
down_forks A (BoxNode i o) w c d e = absurd cc
down_forks A (Door i o) w c d e = absurd cc
down_forks A (FixBox b x y) w c d e =
    if_not A _ (FORK c d) (FIXOUT (falls y) (rises x)) (FIXVAR (rises b)) (λ h. absurd cc) (λ h. absurd cc) e
down_forks A (Root x) w c d e = absurd cc
down_forks A (Pair a b x) w c d e = if_not A _ (FORK c d) (PUSHL (falls x)) (PUSHR (falls x)) (λ h. absurd cc) (λ h. absurd cc) e
down_forks A (Proj s a x) w c d e = absurd cc

-- the least node that names a wire is at its number
least_at : (side : Node → List ℕ) (k : ℕ) (ns : List Node) (w : ℕ) (f : ℕ × Node) → least side k ns w ≡ Some f →
    (i : ℕ) × (f.0 ≡ k + i) × (slice_get ns i ≡ Some f.1)
least_at side k [] w f e = absurd cc
least_at side k (n ∷ ns) w f e = go (has (side n) w) e (λ h. least_at side (suc k) ns w f h)
  where
    go : (b : Bool) → cond b (Some (k, n)) (least side (suc k) ns w) ≡ Some f →
        (least side (suc k) ns w ≡ Some f → (i : ℕ) × (f.0 ≡ suc k + i) × (slice_get ns i ≡ Some f.1)) →
        (i : ℕ) × (f.0 ≡ k + i) × (slice_get (n ∷ ns) i ≡ Some f.1)
    go true h rest =
        let same : (k, n) ≡ f = cc in
        let at_k : k ≡ f.0 = ap (λ (p : ℕ × Node). p.0) same in
        (0, omega arith, ap (λ (p : ℕ × Node). Some p.1) same)
    go false h rest = let r = rest h in let m : f.0 ≡ suc k + r.0 = r.1 in (suc r.0, omega arith, r.2)

above_at : (net : NetTree) (w : ℕ) (f : ℕ × Node) → node_above net w ≡ Some f → slice_get net.nodes f.0 ≡ Some f.1
above_at net w f e = go _ e
  where
    go : (b : Bool) → cond b (least conclusions zero net.nodes w) None ≡ Some f → slice_get net.nodes f.0 ≡ Some f.1
    go true h =
        let l = least_at conclusions 0 net.nodes w f h in
        let m : f.0 ≡ 0 + l.0 = l.1 in
        let same : f.0 ≡ l.0 = omega arith in
        ap (slice_get net.nodes) same ∙ l.2
    go false h = absurd cc

-- the row of a fork tells the right question of its node
row_forks : (net : NetTree) (e : Channel) (i : ℕ) (c d : Channel) → row_of net e ≡ Some (i, FORK c d) → right_question net i ≡ Some d
row_forks net (rises w) i c d h = go (node_above net w) refl h
  where
    go : (o : Option (ℕ × Node)) → node_above net w ≡ o → found_row o (λ n. row_up n w) ≡ Some (i, FORK c d) → right_question net i ≡ Some d
    go None e h = absurd cc
    go (Some f) e h =
        let pair : (f.0, row_up f.1 w) ≡ (i, FORK c d) = cc in
        let same : f.0 ≡ i = ap (λ (p : ℕ × Row). p.0) pair in
        let row : row_up f.1 w ≡ FORK c d = ap (λ (p : ℕ × Row). p.1) pair in
        ap (λ j. right_of (slice_get net.nodes j)) (sym same) ∙ ap right_of (above_at net w f e) ∙ up_forks f.1 w c d row
row_forks net (falls w) i c d h = go (node_below net w) h
  where
    go : (o : Option (ℕ × Node)) → found_row o (λ n. row_down n w) ≡ Some (i, FORK c d) → right_question net i ≡ Some d
    go None h = absurd cc
    go (Some f) h =
        let pair : (f.0, row_down f.1 w) ≡ (i, FORK c d) = cc in
        down_forks (right_question net i ≡ Some d) f.1 w c d (ap (λ (p : ℕ × Row). p.1) pair)

-- a row that forks is a fork's
record Forks (i : ℕ) (r : Row) (n : ℕ) (b : Place) (u : Boxes) : Type 0 where
  first : Channel
  second : Channel
  row : r ≡ FORK first second
  node : n ≡ i
  asks : b ≡ at second [] u

solo_no_fork : {A : Type 0} (i : ℕ) (o : Option Place) (f : Place → TokenTree) (n : ℕ) (a b : Place) (u : Boxes) →
    solo_at i o f ≡ fork n a b u → A
solo_no_fork i None f n a b u e = absurd cc
solo_no_fork i (Some p) f n a b u e = absurd cc

question_forks : (i : ℕ) (r : Row) (m : Work) (t : Boxes) (n : ℕ) (a b : Place) (u : Boxes) → question_row i r m t ≡ fork n a b u →
    Forks i r n b u
question_forks i (CONST v c) m t n a b u e = absurd cc
question_forks i (FORK c d) [] t n a b u e =
    let boxes : t ≡ u = cc in
    let place : at d [] t ≡ b = cc in
    record { first = c; second = d; row = refl; node = cc; asks = sym place ∙ ap (at d []) boxes }
question_forks i (FORK c d) (x ∷ m) t n a b u e = solo_no_fork i None ask n a b u e
question_forks i r m t n a b u e = solo_no_fork i (stack_row r m t) ask n a b u e

answer_forks : {A : Type 0} (i : ℕ) (r : Row) (v : Val) (m : Work) (t : Boxes) (n : ℕ) (a b : Place) (u : Boxes) →
    answer_row i r v m t ≡ fork n a b u → A
answer_forks i (SUCC c) v m t n a b u e = absurd cc
answer_forks i (PRED c) v m t n a b u e = absurd cc
answer_forks i (TEST c d) v m t n a b u e = absurd cc
answer_forks i (JOIN o s w) v [] t n a b u e = absurd cc
answer_forks i (JOIN o s w) v (x ∷ m) t n a b u e = solo_no_fork i None (ans v) n a b u e
answer_forks i ANSWER v m t n a b u e = absurd cc
answer_forks i r v m t n a b u e = solo_no_fork i (stack_row r m t) (ans v) n a b u e

told : (net : NetTree) (c : Channel) (r : ℕ × Row) (n : ℕ) (b : Place) (u : Boxes) → row_of net c ≡ Some r → Forks r.0 r.1 n b u →
    AsksRight net n u b
told net c r n b u h f =
    let row : row_of net c ≡ Some (n, FORK f.first f.second) =
    h ∙ ap (λ q. Some (r.0, q)) f.row ∙ ap (λ i. Some (i, FORK f.first f.second)) (sym f.node) in
    (f.second, row_forks net c n f.first f.second row, f.asks)

-- by the row that was found
abbrev question_found : Option (ℕ × Row) → Work → Boxes → Move
question_found None m t = stay
question_found (Some r) m t = question_row r.0 r.1 m t

abbrev answer_found : Option (ℕ × Row) → Val → Work → Boxes → Move
answer_found None v m t = stay
answer_found (Some r) v m t = answer_row r.0 r.1 v m t

asked : (net : NetTree) (c : Channel) (m : Work) (t : Boxes) (n : ℕ) (a b : Place) (u : Boxes) (o : Option (ℕ × Row)) → row_of net c ≡ o →
    question_found o m t ≡ fork n a b u → AsksRight net n u b
asked net c m t n a b u None h e = absurd cc
asked net c m t n a b u (Some r) h e = told net c r n b u h (question_forks r.0 r.1 m t n a b u e)

answered : (net : NetTree) (v : Val) (m : Work) (t : Boxes) (n : ℕ) (a b : Place) (u : Boxes) (o : Option (ℕ × Row)) →
    answer_found o v m t ≡ fork n a b u → AsksRight net n u b
answered net v m t n a b u None e = absurd cc
answered net v m t n a b u (Some r) e = answer_forks r.0 r.1 v m t n a b u e

by_question : (o : Option (ℕ × Row)) (c : Channel) (m : Work) (t : Boxes) → by_found o (ask (at c m t)) ≡ question_found o m t
by_question None c m t = refl
by_question (Some r) (rises w) m t = refl
by_question (Some r) (falls w) m t = refl

by_answer : (o : Option (ℕ × Row)) (v : Val) (c : Channel) (m : Work) (t : Boxes) → by_found o (ans v (at c m t)) ≡ answer_found o v m t
by_answer None v c m t = refl
by_answer (Some r) v (rises w) m t = refl
by_answer (Some r) v (falls w) m t = refl

-- a token that forks asks the right question of the fork's node
rows_fork : (net : NetTree) (x : TokenTree) (n : ℕ) (a b : Place) (u : Boxes) → by_rows net x ≡ fork n a b u → AsksRight net n u b
rows_fork net (ask (up w m t)) n a b u e = asked net (rises w) m t n a b u (row_of net (rises w)) refl
    (sym (by_question (row_of net (rises w)) (rises w) m t) ∙ e)
rows_fork net (ask (down w m t)) n a b u e = asked net (falls w) m t n a b u (row_of net (falls w)) refl
    (sym (by_question (row_of net (falls w)) (falls w) m t) ∙ e)
rows_fork net (ans v (up w m t)) n a b u e = answered net v m t n a b u (row_of net (rises w))
    (sym (by_answer (row_of net (rises w)) v (rises w) m t) ∙ e)
rows_fork net (ans v (down w m t)) n a b u e = answered net v m t n a b u (row_of net (falls w))
    (sym (by_answer (row_of net (falls w)) v (falls w) m t) ∙ e)

half_waits : (net : NetTree) (h : Half) (f : OpenFork) (fs : List OpenFork) (i : ℕ) (o : Operator) (v : Val) (w : ℕ) (t : Boxes)
    (R : Registers) → ForksWait net fs → ForksWait net (meets_half h f fs i o v w t R).forks
half_waits net (waits j p) f fs i o v w t R h = (tt, h)
half_waits net (came u) f fs i o v w t R h = h

meets_wait : (net : NetTree) (fs : List OpenFork) (i : ℕ) (o : Operator) (v : Val) (w : ℕ) (t : Boxes) (R : Registers) →
    ForksWait net R.forks → ForksWait net fs → ForksWait net (meets fs i o v w t R).forks
meets_wait net [] i o v w t R h g = h
meets_wait net (f ∷ fs) i o v w t R h g = half_waits net f.half f fs i o v w t R g.1

does_wait : (net : NetTree) (m : Move) (i : ℕ) (R : Registers) →
    ((n : ℕ) (a b : Place) (t : Boxes) → m ≡ fork n a b t → AsksRight net n t b) → ForksWait net R.forks → ForksWait net (does m i R).forks
does_wait net (solo n x) i R f h = h
does_wait net (fork n a b t) i R f h = (f n a b t refl, h)
does_wait net (join n o s v w t) i R f h = meets_wait net R.forks i o v w t R h h
does_wait net (answer v) i R f h = h
does_wait net stay i R f h = h

tick_waits : (net : NetTree) (R : Registers) → ForksWait net R.forks → ForksWait net (tick net R).forks
tick_waits net R h = go R.full (on R.live)
  where
    on : (l : Option (ℕ × TokenTree)) → ForksWait net (tick_on net l R).forks
    on None = h
    on (Some c) = does_wait net (by_rows net c.1) c.0 (counted R) (λ n a b t e. rows_fork net c.1 n a b t e) h

    go : (b : Bool) → ForksWait net (tick_on net R.live R).forks → ForksWait net (cond b R (tick_on net R.live R)).forks
    go true g = h
    go false g = g

-- so it is all along a run
pub forks_wait : (net : NetTree) (k : ℕ) → ForksWait net (ticks net k (reset net)).forks
forks_wait net zero = tt
forks_wait net (suc k) =
    subst (λ (R : Registers). ForksWait net R.forks) (sym (tick_last net k (reset net)))
    (tick_waits net (ticks net k (reset net)) (forks_wait net k))
