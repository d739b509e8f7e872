-- A run that has an answer ends with the move at the root: no other move brings an answer, and behind it no token is live.
use Rattle.std.proofs.Common.{◌≡◌, ℕ, Bool, true, false, cond, suc, ◌+◌, List, [], ◌∷◌, ◌++◌, length, Option, Some, None}
use Rattle.std.proofs.Common.{refl, sym, ap, ◌∙◌, subst, arith}
use Rattle.std.specs.Prelude.{nat_eq, codes}
use Rattle.std.proofs.lemmas.Option.{same_Some, none-some}
use Rattle.pcf_values.specs.declared.val.Val.{Val}
use Rattle.token_stacks.specs.Signatures.{Work, Boxes}
use Rattle.fork_join.specs.Entries.{Entry as Kept, pending, has_left, has_right}
use Rattle.net_build.specs.declared.node.Node.{Node}
use Rattle.net_build.specs.declared.node.Node.TheVariants.{Succ, Pred, Ifz, Root, Binary}
use Rattle.net_build.specs.Nets.{NetTree}
use Rattle.net_build.specs.Faces.{has, node_above, node_below}
use Rattle.net_build.specs.Sound.{Sound}
use Rattle.move_rules.specs.Places.{Place, up, down, TokenTree, ask, ans, place_of}
use Rattle.move_rules.specs.Table.{on_found, facing, plain_up, plain_down}
use Rattle.move_rules.specs.Moves.{Look, dead, constant, pass, one, test, two, look, Move, solo, fork, join, answer, stay, solo_at}
use Rattle.move_rules.specs.Moves.{if_wire, ans_down}
use Rattle.move_rules.specs.Moves.{ask_move, move}
use Rattle.move_rules.proofs.Facing.{met}
use Rattle.move_rules.proofs.Either.{wire_so, either_so, operand_so}
use Rattle.interleave_laws.specs.Start.{start_of}
use Rattle.interleave_laws.specs.States.{State, start, act, fork_on, last_on, join_on, other, step_on, step, run, then_run}
use Rattle.interleave_laws.specs.Runs.{LeadsTo}
use Rattle.interleave_laws.proofs.Running.{run_append, answered_idle}
use Rattle.schedule_log.specs.declared.entry.Entry.{Entry}
use Rattle.schedule_log.specs.Logs.{tickets_in_log}
use Rattle.walk_text.specs.Ports.{port, comes_by}
use Rattle.walk_text.specs.Lines.{outcome_text, line_text, line_at, line_of, move_line}
use Rattle.walk_text.specs.Traces.{on_state, lines_from}
use Rattle.walk_text.specs.Laws.{answer_line, AnswerEnds}

-- ---- the move that is an answer

-- the move is no answer
abbrev NoAnswer : Move → Type 0
NoAnswer (solo i x) = Unit {0}
NoAnswer (fork i l r t) = Unit {0}
NoAnswer (join i o s v w t) = Unit {0}
NoAnswer (answer v) = ⊥
NoAnswer stay = Unit {0}

no_look : (l : Look) (p : Place) → NoAnswer (ask_move l p)
no_look dead p = tt
no_look (constant i n) p = tt
no_look (pass i q) p = tt
no_look (one i f q) p = tt
no_look (test i c a b) p = tt
no_look (two i o t a b) p = tt

no_solo : (i : ℕ) (o : Option Place) (v : Val) → NoAnswer (solo_at i o (ans v))
no_solo i None v = tt
no_solo i (Some p) v = tt

no_found : (o : Option (ℕ × Node)) (v : Val) (f : ℕ → Node → Option Place) → NoAnswer (on_found o stay (λ i n. solo_at i (f i n) (ans v)))
no_found None v f = tt
no_found (Some p) v f = no_solo p.0 (f p.0 p.1) v

-- a node at which a value's answer is the run's
pub data IsRoot : Node → Type 0 where
  is_root : (c : ℕ) → IsRoot (Root c)

-- a token that brings this answer to that node
pub record Brings (i : ℕ) (n : Node) (v : Val) (w : ℕ) (m : Work) (t : Boxes) (u : Val) : Type 0 where
  pub root : IsRoot n
  pub value : v ≡ u

gives : (m : Move) (u : Val) → NoAnswer m → m ≡ answer u → ⊥
gives m u h e = subst NoAnswer e h

-- a token whose move is the answer stands at a root and has the answer's value
brings : (i : ℕ) (n : Node) (v : Val) (w : ℕ) (m : Work) (t : Boxes) (u : Val) → ans_down i n v w m t ≡ answer u → Brings i n v w m t u
brings i (Root c) v w [] t u e = record { root = is_root c; value = same v u e }
  where
    same : (v u : Val) → answer v ≡ answer u → v ≡ u
    same v u e = cc
brings i (Succ a c) v w [] t u e = absurd (gives _ u tt e)
brings i (Pred a c) v w [] t u e = absurd (gives _ u tt e)
brings i (Ifz b p q c) v w [] t u e = absurd (gives _ u
    (either_so NoAnswer tt (if_wire b w (solo i _)) _ (wire_so NoAnswer tt b w (solo i _) tt)
    (operand_so NoAnswer tt p q w (solo i (ans v (down c [] t))) (solo i (ans v (down c [] t))) tt tt)) e)
brings i (Binary o a b c) v w [] t u e = absurd (gives _ u (operand_so NoAnswer tt a b w _ _ tt tt) e)
brings i n v w m t u e = absurd (gives _ u (no_solo i (plain_down n w m t) v) e)

-- ---- the step that brings the answer

-- a token that brings an answer to the root, and the node that it faces
pub record AtRoot (net : NetTree) (x : TokenTree) (u : Val) : Type 0 where
  pub number : ℕ
  pub wire : ℕ
  pub faces : facing net (place_of x) ≡ Some (number, Root wire)
  pub by : comes_by (Root wire) (place_of x) ≡ codes "value"

among_root : (c w : ℕ) → has (c ∷ []) w ≡ true → port (c ∷ []) (codes "value" ∷ []) w ≡ codes "value"
among_root c w e = go (nat_eq c w) e
  where
    go : (b : Bool) → cond b true false ≡ true → cond b (codes "value") (codes "-") ≡ codes "value"
    go true e = refl
    go false e = absurd (no_bool e)
      where
        no_bool : (false ≡ true) → ⊥
        no_bool e = cc

root_met : (net : NetTree) (v : Val) (w : ℕ) (m : Work) (t : Boxes) (u : Val) (i : ℕ) (n : Node) → IsRoot n →
    node_below net w ≡ Some (i, n) → AtRoot net (ans v (down w m t)) u
root_met net v w m t u i n (is_root c) e = record {
  number = i;
  wire = c;
  faces = e;
  by = among_root c w (met net (down w m t) i (Root c) e).faced;
}

at_root : (net : NetTree) (x : TokenTree) (u : Val) → move net x ≡ answer u → AtRoot net x u
at_root net (ask p) u e = absurd (gives _ u (no_look (look net p) p) e)
at_root net (ans v (up w m t)) u e = absurd (gives _ u (no_found (node_above net w) v (λ i n. plain_up n w m t)) e)
at_root net (ans v (down w m t)) u e = go (node_below net w) refl e
  where
    go : (f : Option (ℕ × Node)) → node_below net w ≡ f → on_found f stay (λ i n. ans_down i n v w m t) ≡ answer u →
        AtRoot net (ans v (down w m t)) u
    go None g h = absurd (gives stay u tt h)
    go (Some p) g h = root_met net v w m t u p.0 p.1 (brings p.0 p.1 v w m t u h).root g

-- a step of a state without an answer that brings one
pub record BringsIt (net : NetTree) (S : State) (t : ℕ) (u : Val) : Type 0 where
  pub token : TokenTree
  pub live : S.tokens t ≡ Some token
  pub is : move net token ≡ answer u

-- what a step without an answer answers
unanswered : (S U : State) (u : Val) → S.answered ≡ None → S.answered ≡ U.answered → U.answered ≡ Some u → ⊥
unanswered S U u e f g = none-some u (sym e ∙ f ∙ g)

-- the only move after which a state is answered is the one that brings the answer
act_answers : (S U : State) (t : ℕ) (u : Val) (m : Move) → S.answered ≡ None → act m S t ≡ Some U → U.answered ≡ Some u → m ≡ answer u
act_answers S U t u (solo i y) e made g = absurd (unanswered S U u e (ap (λ (V : State). V.answered) (same_Some _ U made)) g)
act_answers S U t u (fork i l r bx) e made g = absurd (go (S.entries i bx) made)
  where
    go : (o : Option Kept) → fork_on o S t i l r bx ≡ Some U → ⊥
    go None h = unanswered S U u e (ap (λ (V : State). V.answered) (same_Some _ U h)) g
    go (Some k) h = none-some U h
act_answers S U t u (join i o d v c bx) e made g = absurd (go (S.entries i bx) made)
  where
    last : (w : Option Val) → last_on w S t i c bx ≡ Some U → ⊥
    last None h = none-some U h
    last (Some w) h = unanswered S U u e (ap (λ (V : State). V.answered) (same_Some _ U h)) g

    go : (k : Option Kept) → join_on k S t i o d v c bx ≡ Some U → ⊥
    go None h = none-some U h
    go (Some pending) h = unanswered S U u e (ap (λ (V : State). V.answered) (same_Some _ U h)) g
    go (Some (has_left k)) h = last (other o (has_left k) d v) h
    go (Some (has_right k)) h = last (other o (has_right k) d v) h
act_answers S U t u (answer v) e made g = ap answer (same_Some v u (ap (λ (V : State). V.answered) (same_Some _ U made) ∙ g))
act_answers S U t u stay e made g = absurd (none-some U made)

step_answers : (net : NetTree) (S U : State) (t : ℕ) (u : Val) → S.answered ≡ None → step net S t ≡ Some U →
    U.answered ≡ Some u → BringsIt net S t u
step_answers net S U t u e made g = go (S.tokens t) refl made
  where
    go : (o : Option TokenTree) → S.tokens t ≡ o → step_on net o S t ≡ Some U → BringsIt net S t u
    go None live h = absurd (none-some U h)
    go (Some x) live h = record { token = x; live = live; is = act_answers S U t u (move net x) e h g }

-- the line of that step
root_line : (net : NetTree) (S : State) (k worker t : ℕ) (u : Val) (b : BringsIt net S t u) (r : AtRoot net b.token u) →
    move_line net S k worker t ≡ answer_line k worker t r.number (Root r.wire) b.token u
root_line net S k worker t u b r =
    ap (line_of net S k worker t) b.live
    ∙ ap (line_at net S k worker t b.token) r.faces
    ∙ (λ i. line_text k worker t r.number (Root r.wire) (r.by i) (outcome_text S (Root r.wire) b.token (b.is i)))

-- ---- the last line

-- the lines end so, the first of them being line k
pub record EndsSo (k : ℕ) (lines : List (List ℕ)) (v : Val) : Type 0 where
  pub before : List (List ℕ)
  pub worker : ℕ
  pub ticket : ℕ
  pub number : ℕ
  pub wire : ℕ
  pub token : TokenTree
  pub are : lines ≡ before ++ answer_line (length before + k) worker ticket number (Root wire) token v ∷ []

-- lines that end so behind one line more end so with it, counted from one less
one_before : (k : ℕ) (line : List ℕ) (lines : List (List ℕ)) (v : Val) → EndsSo (suc k) lines v → EndsSo k (line ∷ lines) v
one_before k line lines v s = record {
  before = line ∷ s.before;
  worker = s.worker;
  ticket = s.ticket;
  number = s.number;
  wire = s.wire;
  token = s.token;
  are = ap (λ r. line ∷ r) (s.are
      ∙ ap (λ n. s.before ++ answer_line n s.worker s.ticket s.number (Root s.wire) s.token v ∷ []) (omega arith));
}

-- Of a run whose state S has no answer and that leads on to one.
ends_from : (net : NetTree) → Sound net → (past : List ℕ) (S T : State) (k : ℕ) (es : List Entry) (v : Val) →
    LeadsTo net past S → S.answered ≡ None → run net S (tickets_in_log es) ≡ Some T → T.answered ≡ Some v →
    EndsSo k (lines_from net S k es) v
ends_from net sound past S T k [] v led none on e = absurd (none-some v (sym none ∙ ap (λ (V : State). V.answered) (same_Some S T on) ∙ e))
ends_from net sound past S T k (d ∷ es) v led none on e =
    go (step net S d.ticket) refl
    (λ U made none. ends_from net sound (past ++ d.ticket ∷ []) U T (suc k) es v
    (run_append net past (start (start_of net)) S U d.ticket led made) none)
    on
  where
    line : List ℕ
    line = move_line net S k d.worker d.ticket

    -- the move that brings the answer is the last
    last : (U : State) (u : Val) → step net S d.ticket ≡ Some U → U.answered ≡ Some u → (fs : List Entry) →
        run net U (tickets_in_log fs) ≡ Some T →
        EndsSo k (line ∷ lines_from net U (suc k) fs) v
    last U u made g [] h =
        let same : u ≡ v = same_Some u v (sym g ∙ ap (λ (V : State). V.answered) (same_Some U T h) ∙ e) in
        let b = step_answers net S U d.ticket v none made (g ∙ ap Some same) in
        let r = at_root net b.token v b.is in
        record {
          before = [];
          worker = d.worker;
          ticket = d.ticket;
          number = r.number;
          wire = r.wire;
          token = b.token;
          are = ap (λ l. l ∷ []) (root_line net S k d.worker d.ticket v b r
              ∙ ap (λ n. answer_line n d.worker d.ticket r.number (Root r.wire) b.token v) (omega arith));
        }
    last U u made g (f ∷ fs) h =
        let idle = (answered_idle net sound (past ++ d.ticket ∷ []) U
        (run_append net past (start (start_of net)) S U d.ticket led made) u g).0 in
        absurd (none-some T (sym (ap (λ o. then_run (step_on net o U f.ticket) (λ V. run net V (tickets_in_log fs))) (idle f.ticket)) ∙ h))

    by_answer : (U : State) (o : Option Val) → U.answered ≡ o → step net S d.ticket ≡ Some U →
        ((U : State) → step net S d.ticket ≡ Some U → U.answered ≡ None → run net U (tickets_in_log es) ≡ Some T → T.answered ≡ Some v →
        EndsSo (suc k) (lines_from net U (suc k) es) v) →
        run net U (tickets_in_log es) ≡ Some T → EndsSo k (line ∷ lines_from net U (suc k) es) v
    by_answer U None g made ih h = one_before k line (lines_from net U (suc k) es) v (ih U made g h e)
    by_answer U (Some u) g made ih h = last U u made g es h

    go : (o : Option State) → step net S d.ticket ≡ o →
        ((U : State) → step net S d.ticket ≡ Some U → U.answered ≡ None → run net U (tickets_in_log es) ≡ Some T → T.answered ≡ Some v →
        EndsSo (suc k) (lines_from net U (suc k) es) v) →
        then_run o (λ U. run net U (tickets_in_log es)) ≡ Some T → EndsSo k (line ∷ on_state o (λ U. lines_from net U (suc k) es)) v
    go None made ih h = absurd (none-some T h)
    go (Some U) made ih h = by_answer U U.answered refl made ih h

-- the last line of a whole log with an answer is the move at the root
pub answer_ends : AnswerEnds
answer_ends net sound log S v led e =
    let s = ends_from net sound [] (start (start_of net)) S 0 log v refl refl led e in
    record {
      before = s.before;
      worker = s.worker;
      ticket = s.ticket;
      number = s.number;
      wire = s.wire;
      token = s.token;
      are = s.are ∙ ap (λ n. s.before ++ answer_line n s.worker s.ticket s.number (Root s.wire) s.token v ∷ []) (omega arith);
    }
