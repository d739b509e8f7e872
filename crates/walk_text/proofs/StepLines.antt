-- What the code tells of a step, by its name and the state behind it, is what the line says of it, by the move and the state before.
use Rattle.std.proofs.Common.{◌≡◌, ℕ, ◌<◌, Bool, true, false, cond, List, [], ◌++◌, append_assoc, Option, Some, None, refl, sym, ap}
use Rattle.std.proofs.Common.{◌∙◌, subst, arith}
use Rattle.std.proofs.lemmas.Bool.{eq-eqb, ne_eqb}
use Rattle.std.specs.Prelude.{codes}
use Rattle.std.specs.FinMap.{get, insert, get-insert}
use Rattle.std.proofs.lemmas.Cmp.{nat_cmp_total}
use Rattle.std.proofs.lemmas.Option.{same_Some, none-some}
use Rattle.interleave_laws.proofs.Tickets.{test_nat}
use Rattle.pcf_values.specs.declared.val.Val.{Val}
use Rattle.pcf_values.specs.declared.operator.Operator.{Operator}
use Rattle.pcf_values.specs.declared.side.Side.{Side}
use Rattle.pcf_values.specs.declared.side.Side.TheVariants.{Left, Right}
use Rattle.token_stacks.specs.Signatures.{Work, Boxes}
use Rattle.token_stacks.specs.Texts.{boxes_text, key_text}
use Rattle.fork_join.specs.Entries.{Entry, pending, has_left, has_right}
use Rattle.net_build.specs.declared.node.Node.{Node}
use Rattle.net_build.specs.declared.node.Node.TheVariants.{Const, Succ, Pred, Ifz, Root, Binary}
use Rattle.net_build.specs.Nets.{NetTree}
use Rattle.move_rules.specs.declared.token.Seen.{Seen}
use Rattle.move_rules.specs.Places.{Place, up, down, TokenTree, ask, ans, place_of}
use Rattle.move_rules.specs.Table.{on_found, facing, plain_up, plain_down}
use Rattle.move_rules.specs.Moves.{Look, dead, constant, pass, one, test, two, pass_at, look_up, Move, solo, fork, join}
use Rattle.move_rules.specs.AtNode.{look_at, move_at}
use Rattle.move_rules.specs.Moves.{answer, stay}
use Rattle.move_rules.specs.Moves.{ask_move, solo_at, if_wire, ans_down, move}
use Rattle.move_rules.proofs.Facing.{move_faced}
use Rattle.move_rules.proofs.Either.{wire_so, either_so, operand_so}
use Rattle.interleave_core.specs.declared.stepped.Stepped.{Stepped}
use Rattle.interleave_core.specs.declared.stepped.Stepped.TheVariants.{Went, Forked, Joined, Answered}
use Rattle.interleave_core.specs.Names.{name_at, name_of, name_on, step_name}
use Rattle.interleave_laws.specs.Maps.{MapState, fork_map, last_map, join_map, act_map, step_map_on, step_map, seen}
use Rattle.walk_text.specs.Lines.{val_text, token_text, came, join_text, fork_text, outcome_text, line_text, line_at, line_of}
use Rattle.walk_text.specs.Lines.{move_line, mover_text}
use Rattle.walk_text.specs.Ports.{comes_by, leaves_by}
use Rattle.walk_text.specs.Telling.{boxes_by, is_operator, onward_text, forked_text, values_text, told_text, Begins, line_begin}

-- ---- where the box stack is whole

-- a move at a node whose box stacks are whole, or aren't
abbrev pub Fits : Bool → Move → Type 0
Fits b (solo i x) = b ≡ false
Fits b (fork i l r t) = b ≡ true
Fits b (join i o s v w t) = b ≡ true
Fits b (answer v) = b ≡ false
Fits b stay = Unit {0}

abbrev FitsLook : Bool → Look → Type 0
FitsLook b dead = Unit {0}
FitsLook b (constant i n) = b ≡ false
FitsLook b (pass i q) = b ≡ false
FitsLook b (one i f q) = b ≡ false
FitsLook b (test i c p q) = b ≡ false
FitsLook b (two i o t p q) = b ≡ true

-- a plain rule, if there is one, is of no operator
abbrev FitsPlain : Bool → Option Place → Type 0
FitsPlain b None = Unit {0}
FitsPlain b (Some p) = b ≡ false

no_operator : (b : Bool) (o : Option Place) → b ≡ false → FitsPlain b o
no_operator b None e = tt
no_operator b (Some p) e = e

plain_up_fits : (n : Node) (w : ℕ) (m : Work) (t : Boxes) → FitsPlain (is_operator n) (plain_up n w m t)
plain_up_fits (Binary o a b c) w m t = tt
plain_up_fits n w m t = no_operator (is_operator n) (plain_up n w m t) refl

plain_down_fits : (n : Node) (w : ℕ) (m : Work) (t : Boxes) → FitsPlain (is_operator n) (plain_down n w m t)
plain_down_fits (Binary o a b c) w m t = tt
plain_down_fits n w m t = no_operator (is_operator n) (plain_down n w m t) refl

pass_fits : (b : Bool) (i : ℕ) (o : Option Place) → FitsPlain b o → FitsLook b (pass_at i o)
pass_fits b i None f = tt
pass_fits b i (Some p) f = f

solo_fits : (b : Bool) (i : ℕ) (o : Option Place) (g : Place → TokenTree) → FitsPlain b o → Fits b (solo_at i o g)
solo_fits b i None g f = tt
solo_fits b i (Some p) g f = f

look_up_fits : (i : ℕ) (n : Node) (w : ℕ) (m : Work) (t : Boxes) → FitsLook (is_operator n) (look_up i n w m t)
look_up_fits i (Const v c) w [] t = refl
look_up_fits i (Succ a c) w [] t = refl
look_up_fits i (Pred a c) w [] t = refl
look_up_fits i (Ifz b p q c) w [] t = refl
look_up_fits i (Binary o a b c) w [] t = refl
look_up_fits i n w m t = pass_fits (is_operator n) i (plain_up n w m t) (plain_up_fits n w m t)

look_fits : (i : ℕ) (n : Node) (p : Place) → FitsLook (is_operator n) (look_at i n p)
look_fits i n (up w m t) = look_up_fits i n w m t
look_fits i n (down w m t) = pass_fits (is_operator n) i (plain_down n w m t) (plain_down_fits n w m t)

ask_fits : (b : Bool) (l : Look) (p : Place) → FitsLook b l → Fits b (ask_move l p)
ask_fits b dead p f = tt
ask_fits b (constant i n) p f = f
ask_fits b (pass i q) p f = f
ask_fits b (one i g q) p f = f
ask_fits b (test i c q r) p f = f
ask_fits b (two i o t q r) p f = f

-- an answer makes a join at operators alone, and elsewhere a solo move or the last one
ans_fits : (i : ℕ) (n : Node) (v : Val) (w : ℕ) (m : Work) (t : Boxes) → Fits (is_operator n) (ans_down i n v w m t)
ans_fits i (Succ a c) v w [] t = refl
ans_fits i (Pred a c) v w [] t = refl
ans_fits i (Ifz b p q c) v w [] t =
    either_so (Fits false) tt (if_wire b w (solo i _)) _ (wire_so (Fits false) tt b w (solo i _) refl)
    (operand_so (Fits false) tt p q w (solo i (ans v (down c [] t))) (solo i (ans v (down c [] t))) refl refl)
ans_fits i (Binary o a b c) v w [] t = operand_so (Fits true) tt a b w _ _ refl refl
ans_fits i (Root c) v w [] t = refl
ans_fits i n v w m t = solo_fits (is_operator n) i (plain_down n w m t) (ans v) (plain_down_fits n w m t)

move_at_fits : (i : ℕ) (n : Node) (x : TokenTree) → Fits (is_operator n) (move_at i n x)
move_at_fits i n (ask p) = ask_fits (is_operator n) (look_at i n p) p (look_fits i n p)
move_at_fits i n (ans v (up w m t)) = solo_fits (is_operator n) i (plain_up n w m t) (ans v) (plain_up_fits n w m t)
move_at_fits i n (ans v (down w m t)) = ans_fits i n v w m t

-- the move of a token at the node that it faces
move_fits : (net : NetTree) (x : TokenTree) (i : ℕ) (n : Node) → facing net (place_of x) ≡ Some (i, n) → Fits (is_operator n) (move net x)
move_fits net x i n e =
    subst (Fits (is_operator n)) (sym (move_faced net x ∙ ap (λ f. on_found f stay (λ i n. move_at i n x)) e)) (move_at_fits i n x)

-- ---- what is told

-- the token that was put at a ticket, and one that was put there before another
put_here : (S : MapState) (t : ℕ) (y : TokenTree) → get (insert S.tokens t y) t ≡ Some y
put_here S t y = get-insert nat_cmp_total S.tokens t y t ∙ ap (λ b. cond b (Some y) (get S.tokens t)) (test_nat t t ∙ eq-eqb t t refl)

put_before : (S : MapState) (t u : ℕ) (y z : TokenTree) → t < u → get (insert (insert S.tokens t y) u z) t ≡ Some y
put_before S t u y z less =
    get-insert nat_cmp_total (insert S.tokens t y) u z t
    ∙ ap (λ b. cond b (Some z) (get (insert S.tokens t y) t)) (test_nat t u ∙ ne_eqb t u (λ e. omega (arith, less, e)))
    ∙ put_here S t y

put_last : (S : MapState) (t u : ℕ) (y z : TokenTree) → get (insert (insert S.tokens t y) u z) u ≡ Some z
put_last S t u y z =
    get-insert nat_cmp_total (insert S.tokens t y) u z u
    ∙ ap (λ b. cond b (Some z) (get (insert S.tokens t y) u)) (test_nat u u ∙ eq-eqb u u refl)

-- a token that goes on, with more behind it
onward : (n : Node) (b : Bool) (before : List ℕ) (y : TokenTree) (o : Option TokenTree) → b ≡ is_operator n → o ≡ Some y →
    onward_text n before o ≡ came (leaves_by n (place_of y)) before (token_text (boxes_by b) y)
onward n b before y o e g =
    ap (onward_text n before) g ∙ ap (λ c. came (leaves_by n (place_of y)) before (token_text (boxes_by c) y)) (sym e)

came_more : (out before after more : List ℕ) → came out before after ++ more ≡ came out before (after ++ more)
came_more out before after more =
    append_assoc out (codes " " ++ (before ++ (codes " => " ++ after))) more
    ∙ ap (λ z. out ++ (codes " " ++ z)) (append_assoc before (codes " => " ++ after) more)

-- what the outcome of a move is, given the state behind it, where the box stack is as the move wants it
module _ (S T : MapState) (t : ℕ) (n : Node) (x : TokenTree) (low : t < S.next) where
  -- the text of a token that is put at the ticket
  solo_told : (b : Bool) (y : TokenTree) (s : Stepped) → b ≡ is_operator n → b ≡ false →
      record S { tokens = insert S.tokens t y } ≡ T → Went ≡ s →
      told_text n (token_text (boxes_by b) x) s T t ≡ came (leaves_by n (place_of y)) (token_text boxes_text x) (token_text boxes_text y)
  solo_told b y s e f made name =
      ap (λ s. told_text n (token_text (boxes_by b) x) s T t) (sym name)
      ∙ onward n b (token_text (boxes_by b) x) y (get T.tokens t) e (ap (λ (U : MapState). get U.tokens t) (sym made) ∙ put_here S t y)
      ∙ ap (λ c. came (leaves_by n (place_of y)) (token_text (boxes_by c) x) (token_text (boxes_by c) y)) f

  fork_told : (b : Bool) (l r : Place) (k : ℕ) (bx : Boxes) (s : Stepped) (o : Option Entry) → b ≡ is_operator n → b ≡ true →
      fork_map o S t k l r bx ≡ Some T → Forked S.next ≡ s →
      told_text n (token_text (boxes_by b) x) s T t
      ≡ came (leaves_by n l) (token_text key_text x) (token_text key_text (ask l) ++ fork_text S.next (ask r))
  fork_told b l r k bx s (Some d) e f made name = absurd (none-some T made)
  fork_told b l r k bx s None e f made name =
      ap (λ s. told_text n (token_text (boxes_by b) x) s T t) (sym name)
      ∙ (λ i. onward n b (token_text (boxes_by b) x) (ask l) (get T.tokens t) e
      (ap (λ (U : MapState). get U.tokens t) (sym (same_Some _ T made)) ∙ put_before S t S.next (ask l) (ask r) low) i
      ++ forked_text S.next ((ap (λ (U : MapState). get U.tokens S.next) (sym (same_Some _ T made))
      ∙ put_last S t S.next (ask l) (ask r)) i))
      ∙ ap (λ c. came (leaves_by n l) (token_text (boxes_by c) x) (token_text (boxes_by c) (ask l)) ++ fork_text S.next (ask r)) f
      ∙ came_more (leaves_by n l) (token_text key_text x) (token_text key_text (ask l)) (fork_text S.next (ask r))

  -- the second answer of a join
  last_told : (b : Bool) (u v w : Val) (i c : ℕ) (bx : Boxes) (s : Stepped) → b ≡ is_operator n → b ≡ true →
      last_map (Some u) S t i c bx ≡ Some T → Joined v w ≡ s →
      told_text n (token_text (boxes_by b) x) s T t
      ≡ came (leaves_by n (down c [] bx)) (token_text key_text x) (token_text key_text (ans u (down c [] bx)) ++ values_text v w)
  last_told b u v w i c bx s e f made name =
      ap (λ s. told_text n (token_text (boxes_by b) x) s T t) (sym name)
      ∙ ap (λ z. z ++ values_text v w) (onward n b (token_text (boxes_by b) x) (ans u (down c [] bx)) (get T.tokens t) e
      (ap (λ (U : MapState). get U.tokens t) (sym (same_Some _ T made)) ∙ put_here S t (ans u (down c [] bx))))
      ∙ ap (λ a. came (leaves_by n (down c [] bx)) (token_text (boxes_by a) x)
      (token_text (boxes_by a) (ans u (down c [] bx))) ++ values_text v w) f
      ∙ came_more (leaves_by n (down c [] bx)) (token_text key_text x) (token_text key_text (ans u (down c [] bx))) (values_text v w)

  join_told : (b : Bool) (o : Operator) (d : Side) (v : Val) (i c : ℕ) (bx : Boxes) (s : Stepped) (k : Option Entry) →
      b ≡ is_operator n → b ≡ true → join_map k S t i o d v c bx ≡ Some T → name_at k v ≡ Some s →
      told_text n (token_text (boxes_by b) x) s T t ≡ join_text n x o d v c bx k
  join_told b o d v i c bx s None e f made name = absurd (none-some T made)
  join_told b o d v i c bx s (Some pending) e f made name =
      ap (λ s. told_text n (token_text (boxes_by b) x) s T t) (sym (same_Some _ s name))
      ∙ ap (λ a. came (codes "-") (token_text (boxes_by a) x) (codes "kept")) f
  join_told b o Right v i c bx s (Some (has_left u)) e f made name =
      last_told b _ u v i c bx s e f made (same_Some _ s name)
  join_told b o Left v i c bx s (Some (has_left u)) e f made name = absurd (none-some T made)
  join_told b o Left v i c bx s (Some (has_right u)) e f made name =
      last_told b _ v u i c bx s e f made (same_Some _ s name)
  join_told b o Right v i c bx s (Some (has_right u)) e f made name = absurd (none-some T made)

  answer_told : (b : Bool) (v : Val) (s : Stepped) → b ≡ false → Answered v ≡ s →
      told_text n (token_text (boxes_by b) x) s T t ≡ came (codes "-") (token_text boxes_text x) (codes "answer " ++ val_text v)
  answer_told b v s f name =
      ap (λ s. told_text n (token_text (boxes_by b) x) s T t) (sym name)
      ∙ ap (λ a. came (codes "-") (token_text (boxes_by a) x) (codes "answer " ++ val_text v)) f

  -- What is told of a step is the outcome of its move.
  told : (b : Bool) (m : Move) (s : Stepped) → b ≡ is_operator n → Fits b m → act_map m S t ≡ Some T → name_of m S ≡ Some s →
      told_text n (token_text (boxes_by b) x) s T t ≡ outcome_text (seen S) n x m
  told b (solo i y) s e f made name = solo_told b y s e f (same_Some _ T made) (same_Some _ s name)
  told b (fork i l r bx) s e f made name = fork_told b l r i bx s (get S.entries (i, bx)) e f made (same_Some _ s name)
  told b (join i o d v c bx) s e f made name = join_told b o d v i c bx s (get S.entries (i, bx)) e f made name
  told b (answer v) s e f made name = answer_told b v s f (same_Some _ s name)
  told b stay s e f made name = absurd (none-some T made)

-- a step and its name, of a ticket whose token is known
step_of : (net : NetTree) (S T : MapState) (t : ℕ) (x : TokenTree) → get S.tokens t ≡ Some x → step_map net S t ≡ Some T →
    act_map (move net x) S t ≡ Some T
step_of net S T t x live made = ap (λ o. step_map_on net o S t) (sym live) ∙ made

name_of_step : (net : NetTree) (S : MapState) (t : ℕ) (x : TokenTree) (s : Stepped) → get S.tokens t ≡ Some x → step_name net S t ≡ Some s →
    name_of (move net x) S ≡ Some s
name_of_step net S t x s live name = ap (λ o. name_on net o S) (sym live) ∙ name

-- The line of a move: its begin, what is told of its step, and the end of the line.
pub line_told : (net : NetTree) (S T : MapState) (k worker t : ℕ) (met : Seen) (stepped : Stepped) (old mid then new before : List ℕ) →
    t < S.next → Begins net S k worker t met old mid before → step_map net S t ≡ Some T → step_name net S t ≡ Some stepped →
    then ≡ mid ++ told_text met.node before stepped T t → new ≡ then ++ codes "\n" → new ≡ old ++ move_line net (seen S) k worker t
line_told net S T k worker t met stepped old mid then new before low begins made name e g =
    let x : TokenTree = begins.token in
    let n : Node = met.node in
    let head : List ℕ = mover_text k worker t met.at n in
    let into : List ℕ = comes_by n (place_of x) in
    let outcome : List ℕ = outcome_text (seen S) n x (move net x) in
    let same : told_text n before stepped T t ≡ outcome =
    ap (λ z. told_text n z stepped T t) begins.before_is
    ∙ told S T t n x low (is_operator n) (move net x) stepped refl (move_fits net x met.at n begins.faces)
    (step_of net S T t x begins.live made) (name_of_step net S t x stepped begins.live name) in
    let whole : (line_begin k worker t met x ++ outcome) ++ codes "\n" ≡ line_text k worker t met.at n into outcome =
    append_assoc (line_begin k worker t met x) outcome (codes "\n")
    ∙ append_assoc head (codes " " ++ (into ++ codes " ")) (outcome ++ codes "\n")
    ∙ ap (λ z. head ++ (codes " " ++ z)) (append_assoc into (codes " ") (outcome ++ codes "\n")) in
    let line : line_text k worker t met.at n into outcome ≡ move_line net (seen S) k worker t =
    ap (line_at net (seen S) k worker t x) (sym begins.faces) ∙ ap (line_of net (seen S) k worker t) (sym begins.live) in
    g ∙ ap (λ z. z ++ codes "\n") (e ∙ (λ i. begins.text i ++ same i) ∙ append_assoc old (line_begin k worker t met x) outcome)
    ∙ append_assoc old (line_begin k worker t met x ++ outcome) (codes "\n")
    ∙ ap (λ z. old ++ z) (whole ∙ line)
