-- Rows that are right of a net at some numbers are right of it at others, with these in their texts: no number decides where a row goes.
use Rattle.std.proofs.Common.{◌≡◌, ℕ, zero, suc, Bool, true, false, cond, List, [], ◌∷◌, length, Option, Some, None}
use Rattle.std.proofs.Common.{refl, sym, ap, ◌∙◌, subst}
use Rattle.std.specs.Prelude.{nat_lt, nat_eq, ◌&&◌, slice_get}
use Rattle.std.proofs.lemmas.Bool.{and_from, and_parts}
use Rattle.pcf_values.specs.declared.operator.Operator.{Operator}
use Rattle.pcf_values.specs.declared.side.Side.TheVariants.{Left, Right}
use Rattle.net_build.specs.declared.node.Node.{Node}
use Rattle.net_build.specs.declared.node.Node.TheVariants.{Const, Ifz, Der, Con, Lam, App, Binary, Proj}
use Rattle.net_build.specs.declared.node.Node.TheVariants.{FixBox, Pair}
use Rattle.net_build.specs.Nets.{NetTree, premises, conclusions}
use Rattle.net_build.specs.Faces.{has, least, node_above, node_below}
use Rattle.net_rows.specs.Rows.{Row, CONST, SUCC, PRED, TEST, FORK, JOIN, ANSWER, STAR, UNSTAR, LEFT, RIGHT, GO, PUSHR, PUSHL}
use Rattle.net_rows.specs.Rows.{SELECT}
use Rattle.net_rows.specs.Rows.{FIXOUT, FIXVAR, Channel, rises, falls, row_up, row_down}
use Rattle.net_rows.specs.Rows.{found_row, row_of}
use Rattle.joined_rows.specs.Open.{Term, Mark, Amount, some, known, more_than, less_than, both, Spot, spot, Walker, asks, says, spot_of}
use Rattle.joined_rows.specs.Open.{row_of_names, then_at, question_names, answer_names}
use Rattle.joined_rows.specs.Compound.{terms_of}
use Rattle.joined_rows.specs.Ticks.{NamedHalf, waiting, left, NamedFork, Named, goes_on, named_fork, named_half, named_join}
use Rattle.joined_rows.specs.Ticks.{named_question}
use Rattle.joined_rows.specs.Ticks.{named_answer, named_row, named_found, then_named}
use Rattle.joined_core.specs.Rows.{Key, key_of, Site, Seen, nothing, shaped, zero_is, given_at, a_sig, a_box, Second, Way, onwards}
use Rattle.joined_core.specs.Rows.{answers_run}
use Rattle.joined_core.specs.Rows.{answers_fork, JoinedRow, row_moves}
use Rattle.joined_core.specs.Same.{same_key, same_named}
use Rattle.joined_core.specs.Right.{test_by, found_test, begins, is_test, found_is_test, plain_ticks, alone, lead_to, leads, right_of}
use Rattle.joined_core.specs.Right.{right_question, after_left, after_join, found_join, all_few, forks_few, landed, is_answer, list_fits}
use Rattle.joined_core.specs.Right.{on_sigs_seen, on_boxes_seen, all_fit, second_right, answers_on, found_answers, way_right, value_named}
use Rattle.joined_core.specs.Right.{deep}
use Rattle.joined_core.specs.Right.{first_right, row_right}
use Rattle.joined_core.specs.Listed.{Entry, rows_right}
use Rattle.joined_core.proofs.Same.{named_is}
use Rattle.joined_numbers.specs.At.{port_value, amount_at, walker_at, half_at, forks_at, named_at, way_at, row_at, entries_at}
use Rattle.joined_numbers.proofs.Self.{named_self}
use Rattle.joined_numbers.proofs.Rows.{walker_spot, moves_at}

-- a node with another number
abbrev pub node_at : (ℕ → ℕ) → Node → Node
node_at ps (Const v w) = Const (port_value ps v) w
node_at ps n = n

abbrev pub nodes_at : (ℕ → ℕ) → List Node → List Node
nodes_at ps [] = []
nodes_at ps (n ∷ ns) = node_at ps n ∷ nodes_at ps ns

abbrev pub net_at : (ℕ → ℕ) → NetTree → NetTree
net_at ps net = record { wires = net.wires; nodes = nodes_at ps net.nodes }

-- and its rows
abbrev pub code_at : (ℕ → ℕ) → Row → Row
code_at ps (CONST n c) = CONST (port_value ps n) c
code_at ps r = r

abbrev found_code : (ℕ → ℕ) → Option (ℕ × Row) → Option (ℕ × Row)
found_code ps None = None
found_code ps (Some r) = Some (r.0, code_at ps r.1)

abbrev found_node : (ℕ → ℕ) → Option (ℕ × Node) → Option (ℕ × Node)
found_node ps None = None
found_node ps (Some n) = Some (n.0, node_at ps n.1)

module _ (ps : ℕ → ℕ) where
  -- a node keeps its wires
  same_above : (n : Node) → conclusions (node_at ps n) ≡ conclusions n
  same_above (Const v w0) = refl
  same_above n = refl

  same_below : (n : Node) → premises (node_at ps n) ≡ premises n
  same_below (Const v w0) = refl
  same_below n = refl

  -- a choice of two rows that are no numbers
  at_wire : (b : Bool) (r s : Row) → code_at ps r ≡ r → code_at ps s ≡ s → cond b r s ≡ code_at ps (cond b r s)
  at_wire true r s h k = sym h
  at_wire false r s h k = sym k

  up_at : (n : Node) (w : ℕ) → row_up (node_at ps n) w ≡ code_at ps (row_up n w)
  up_at (Const v w0) w = refl
  up_at (Der v x) w = at_wire (nat_eq v w) (STAR (falls x)) (UNSTAR (falls v)) refl refl
  up_at (Proj Left a c) w = refl
  up_at (Proj Right a c) w = refl
  up_at n w = refl

  down_at : (n : Node) (w : ℕ) → row_down (node_at ps n) w ≡ code_at ps (row_down n w)
  down_at (Const v w0) w = refl
  down_at (Ifz b p q c) w = at_wire (nat_eq b w) (TEST (rises p) (rises q)) (GO (falls c)) refl refl
  down_at (Con l r c) w = at_wire (nat_eq l w) (LEFT (falls c)) (RIGHT (falls c)) refl refl
  down_at (Lam b x c) w = at_wire (nat_eq b w) (PUSHR (falls c)) (PUSHL (falls c)) refl refl
  down_at (App f a c) w = at_wire (nat_eq f w) (SELECT (falls c) (rises a)) (PUSHL (rises f)) refl refl
  down_at (Binary o a b c) w = at_wire (nat_eq a w) (JOIN o Left c) (JOIN o Right c) refl refl
  down_at (FixBox b x c) w = at_wire (nat_eq b w) (FIXOUT (falls c) (rises x)) (FIXVAR (rises b)) refl refl
  down_at (Pair a b c) w = at_wire (nat_eq a w) (PUSHL (falls c)) (PUSHR (falls c)) refl refl
  down_at (Proj Left a c) w = refl
  down_at (Proj Right a c) w = refl
  down_at n w = refl

  least_at : (side : Node → List ℕ) → ((n : Node) → side (node_at ps n) ≡ side n) → (k : ℕ) (ns : List Node) (w : ℕ) →
      least side k (nodes_at ps ns) w ≡ found_node ps (least side k ns w)
  least_at side h k [] w = refl
  least_at side h k (n ∷ ns) w =
      ap (λ ws. cond (has ws w) (Some (k, node_at ps n)) (least side (suc k) (nodes_at ps ns) w)) (h n)
      ∙ ap (cond (has (side n) w) (Some (k, node_at ps n))) (least_at side h (suc k) ns w) ∙ go (has (side n) w)
    where
      go : (b : Bool) → cond b (Some (k, node_at ps n)) (found_node ps (least side (suc k) ns w))
          ≡ found_node ps (cond b (Some (k, n)) (least side (suc k) ns w))
      go true = refl
      go false = refl

  found_at_node : (f : Node → Row) → ((n : Node) → f (node_at ps n) ≡ code_at ps (f n)) → (o : Option (ℕ × Node)) →
      found_row (found_node ps o) f ≡ found_code ps (found_row o f)
  found_at_node f h None = refl
  found_at_node f h (Some n) = ap (λ r. Some (n.0, r)) (h n.1)

  in_net : (b : Bool) (o : Option (ℕ × Node)) → cond b (found_node ps o) None ≡ found_node ps (cond b o None)
  in_net true o = refl
  in_net false o = refl

  -- the row of a channel
  pub row_of_at : (net : NetTree) (c : Channel) → row_of (net_at ps net) c ≡ found_code ps (row_of net c)
  row_of_at net (rises w) =
      ap (λ o. found_row (cond (nat_lt w (length net.wires)) o None) (λ n. row_up n w)) (least_at conclusions same_above 0 net.nodes w)
      ∙ ap (λ o. found_row o (λ n. row_up n w)) (in_net (nat_lt w (length net.wires)) (least conclusions 0 net.nodes w))
      ∙ found_at_node (λ n. row_up n w) (λ n. up_at n w) (node_above net w)
  row_of_at net (falls w) =
      ap (λ o. found_row (cond (nat_lt w (length net.wires)) o None) (λ n. row_down n w)) (least_at premises same_below 0 net.nodes w)
      ∙ ap (λ o. found_row o (λ n. row_down n w)) (in_net (nat_lt w (length net.wires)) (least premises 0 net.nodes w))
      ∙ found_at_node (λ n. row_down n w) (λ n. down_at n w) (node_below net w)

  -- ---- moves with names

  abbrev walker_option : Option Walker → Option Walker
  walker_option None = None
  walker_option (Some x) = Some (walker_at ps x)

  abbrev named_option : Option Named → Option Named
  named_option None = None
  named_option (Some X) = Some (named_at ps X)

  asked_at : (o : Option Spot) → then_at o asks ≡ walker_option (then_at o asks)
  asked_at None = refl
  asked_at (Some s) = refl

  said_at : (a : Amount) (o : Option Spot) → then_at o (says (amount_at ps a)) ≡ walker_option (then_at o (says a))
  said_at a None = refl
  said_at a (Some s) = refl

  question_at : (r : Row) (m : List Mark) (t : List Term) → question_names (code_at ps r) m t ≡ walker_option (question_names r m t)
  question_at (CONST n c) m t = refl
  question_at (FORK c d) m t = refl
  question_at r m t = asked_at (row_of_names r m t)

  answer_at : (r : Row) → is_test r ≡ false → (a : Amount) (m : List Mark) (t : List Term) →
      answer_names (code_at ps r) (amount_at ps a) m t ≡ walker_option (answer_names r a m t)
  answer_at (SUCC c) e a m t = refl
  answer_at (PRED c) e a m t = refl
  answer_at (TEST c d) e a m t = absurd cc
  answer_at (JOIN o s w) e a m t = refl
  answer_at ANSWER e a m t = refl
  answer_at (CONST n c) e a m t = refl
  answer_at r e a m t = said_at a (row_of_names r m t)

  goes_at : (fs : List NamedFork) (o : Option Walker) → goes_on (forks_at ps fs) (walker_option o) ≡ named_option (goes_on fs o)
  goes_at fs None = refl
  goes_at fs (Some x) = refl

  fork_at : (i : ℕ) (c d : Channel) (m : List Mark) (t : List Term) (fs : List NamedFork) →
      named_fork i c d m t (forks_at ps fs) ≡ named_option (named_fork i c d m t fs)
  fork_at i c d [] t fs = refl
  fork_at i c d (x ∷ m) t fs = refl

  join_half_at : (g : NamedHalf) (f : NamedFork) (fs : List NamedFork) (o : Operator) (w : ℕ) (a : Amount) (t : List Term) →
      named_half (half_at ps g) (record f { half = half_at ps f.half }) (forks_at ps fs) o w (amount_at ps a) t
      ≡ named_option (named_half g f fs o w a t)
  join_half_at (waiting q) f fs o w a t = refl
  join_half_at (left u) f fs o w a t = refl

  join_at : (fs : List NamedFork) (o : Operator) (w : ℕ) (a : Amount) (m : List Mark) (t : List Term) →
      named_join (forks_at ps fs) o w (amount_at ps a) m t ≡ named_option (named_join fs o w a m t)
  join_at [] o w a m t = refl
  join_at (f ∷ fs) o w a [] t = join_half_at f.half f fs o w a t
  join_at (f ∷ fs) o w a (x ∷ m) t = refl

  asks_at : (i : ℕ) (r : Row) (s : Spot) (fs : List NamedFork) →
      named_question i (code_at ps r) s (forks_at ps fs) ≡ named_option (named_question i r s fs)
  asks_at i (FORK c d) s fs = fork_at i c d s.work s.boxes fs
  asks_at i r q fs =
      ap (goes_on (forks_at ps fs)) (question_at r q.work q.boxes) ∙ goes_at fs (question_names r q.work q.boxes)

  says_at : (i : ℕ) (r : Row) → is_test r ≡ false → (a : Amount) (s : Spot) (fs : List NamedFork) →
      named_answer i (code_at ps r) (amount_at ps a) s (forks_at ps fs) ≡ named_option (named_answer i r a s fs)
  says_at i (JOIN o e w) h a s fs = join_at fs o w a s.work s.boxes
  says_at i r e a q fs =
      ap (goes_on (forks_at ps fs)) (answer_at r e a q.work q.boxes) ∙ goes_at fs (answer_names r a q.work q.boxes)

  row_at_is : (i : ℕ) (r : Row) → is_test r ≡ false → (x : Walker) (fs : List NamedFork) →
      named_row i (code_at ps r) (walker_at ps x) (forks_at ps fs) ≡ named_option (named_row i r x fs)
  row_at_is i r e (asks s) fs = asks_at i r s fs
  row_at_is i r e (says a s) fs = says_at i r e a s fs

  found_at_is : (o : Option (ℕ × Row)) → found_is_test o ≡ false → (X : Named) →
      named_found (found_code ps o) (named_at ps X) ≡ named_option (named_found o X)
  found_at_is None e X = refl
  found_at_is (Some r) e X = row_at_is r.0 r.1 e X.live X.forks

  code_test : (r : Row) → is_test (code_at ps r) ≡ is_test r
  code_test (CONST n c) = refl
  code_test r = refl

  found_code_test : (o : Option (ℕ × Row)) → found_is_test (found_code ps o) ≡ found_is_test o
  found_code_test None = refl
  found_code_test (Some r) = code_test r.1

  -- so many moves
  pub ticks_at : (net : NetTree) (n : ℕ) (X Y : Named) → plain_ticks net n X ≡ Some Y →
      plain_ticks (net_at ps net) n (named_at ps X) ≡ Some (named_at ps Y)
  ticks_at net zero X Y e = let same : X ≡ Y = cc in ap (λ X. Some (named_at ps X)) same
  ticks_at net (suc n) X Y e =
      ap (λ s. cond (found_is_test (row_of (net_at ps net) s.channel))
      None (then_named (named_found (row_of (net_at ps net) s.channel) (named_at ps X)) (plain_ticks (net_at ps net) n)))
      (walker_spot ps X.live)
      ∙ ap (λ o. cond (found_is_test o) None (then_named (named_found o (named_at ps X)) (plain_ticks (net_at ps net) n)))
      (row_of_at net (spot_of X.live).channel)
      ∙ ap (λ b. cond b None (then_named (named_found (found_code ps r) (named_at ps X)) (plain_ticks (net_at ps net) n)))
      (found_code_test r)
      ∙ go (found_is_test r) refl (named_found r X) refl e (λ Z h. ticks_at net n Z Y h)
    where
      r : Option (ℕ × Row)
      r = row_of net (spot_of X.live).channel

      go : (b : Bool) → found_is_test r ≡ b → (o : Option Named) → named_found r X ≡ o →
          cond b None (then_named o (plain_ticks net n)) ≡ Some Y →
          ((Z : Named) → plain_ticks net n Z ≡ Some Y → plain_ticks (net_at ps net) n (named_at ps Z) ≡ Some (named_at ps Y)) →
          cond b None (then_named (named_found (found_code ps r) (named_at ps X)) (plain_ticks (net_at ps net) n)) ≡ Some (named_at ps Y)
      go true t o q e rest = absurd cc
      go false t None q e rest = absurd cc
      go false t (Some Z) q e rest =
          ap (λ o. then_named o (plain_ticks (net_at ps net) n)) (found_at_is r t X ∙ ap named_option q) ∙ rest Z e

  -- ---- the check of a row

  ends_at : (net : NetTree) (n : ℕ) (X Y : Named) → lead_to (plain_ticks net n X) Y ≡ true →
      lead_to (plain_ticks (net_at ps net) n (named_at ps X)) (named_at ps Y) ≡ true
  ends_at net n X Y h = go (plain_ticks net n X) refl h
    where
      go : (o : Option Named) → plain_ticks net n X ≡ o → lead_to o Y ≡ true →
          lead_to (plain_ticks (net_at ps net) n (named_at ps X)) (named_at ps Y) ≡ true
      go None q e = absurd cc
      go (Some Z) q e =
          ap (λ o. lead_to o (named_at ps Y)) (ticks_at net n X Z q)
          ∙ ap (λ Z. same_named (named_at ps Z) (named_at ps Y)) (named_is Z Y e) ∙ named_self (named_at ps Y)

  -- a row begins with a named value, and behind a test with a question
  test_code : (r : Row) (b : Bool) (x : Walker) → test_by (code_at ps r) b x ≡ test_by r b x
  test_code (CONST n c) b x = refl
  test_code r b x = refl

  found_test_code : (o : Option (ℕ × Row)) (b : Bool) (x : Walker) → found_test (found_code ps o) b x ≡ found_test o b x
  found_test_code None b x = refl
  found_test_code (Some r) b x = test_code r.1 b x

  begins_at : (net : NetTree) (e : Seen) (x : Walker) → begins (net_at ps net) e x ≡ begins net e x
  begins_at net nothing x = refl
  begins_at net (shaped y) x = refl
  begins_at net (zero_is b) x =
      ap (λ o. found_test o b x) (row_of_at net (spot_of x).channel) ∙ found_test_code (row_of net (spot_of x).channel) b x

  own_value : (x : Walker) → value_named x ≡ true → walker_at ps x ≡ x
  own_value (asks s) e = refl
  own_value (says (some n) s) e = refl
  own_value (says (known v) s) e = absurd cc
  own_value (says (more_than a) s) e = absurd cc
  own_value (says (less_than a) s) e = absurd cc
  own_value (says (both o a b) s) e = absurd cc

  asks_test : (r : Row) (b : Bool) (x y : Walker) → test_by r b x ≡ Some y → walker_at ps y ≡ y
  asks_test (TEST c d) b (says a s) y e = let same : asks (spot (cond b c d) s.work s.boxes) ≡ y = cc in go y same
    where
      go : (y : Walker) → asks (spot (cond b c d) s.work s.boxes) ≡ y → walker_at ps y ≡ y
      go (asks t) e = refl
      go (says a t) e = absurd cc
  asks_test (TEST c d) b (asks s) y e = absurd cc
  asks_test r b x y e = absurd cc

  asks_found : (o : Option (ℕ × Row)) (b : Bool) (x y : Walker) → found_test o b x ≡ Some y → walker_at ps y ≡ y
  asks_found None b x y e = absurd cc
  asks_found (Some r) b x y e = asks_test r.1 b x y e

  own_start : (net : NetTree) (e : Seen) (x y : Walker) → value_named x ≡ true → begins net e x ≡ Some y → walker_at ps y ≡ y
  own_start net nothing x y v h = let same : x ≡ y = cc in subst (λ x. walker_at ps x ≡ x) same (own_value x v)
  own_start net (shaped u) x y v h = let same : x ≡ y = cc in subst (λ x. walker_at ps x ≡ x) same (own_value x v)
  own_start net (zero_is b) x y v h = asks_found (row_of net (spot_of x).channel) b x y h

  first_at : (net : NetTree) (e : Seen) (r : JoinedRow) → value_named r.from ≡ true → first_right net e r (begins net e r.from) ≡ true →
      first_right (net_at ps net) e (row_at ps r) (begins (net_at ps net) e r.from) ≡ true
  first_at net e r v h =
      ap (first_right (net_at ps net) e (row_at ps r)) (begins_at net e r.from) ∙ go (begins net e r.from) refl h
    where
      go : (o : Option Walker) → begins net e r.from ≡ o → first_right net e r o ≡ true →
          first_right (net_at ps net) e (row_at ps r) o ≡ true
      go None q f = absurd cc
      go (Some x) q f =
          ap (λ x. lead_to (plain_ticks (net_at ps net) r.moves (alone x)) (named_at ps r.to)) (sym (own_start net e r.from x v q))
          ∙ ends_at net r.moves (alone x) r.to f

  -- where a row may end
  few_at : (fs : List NamedFork) → forks_few (forks_at ps fs) ≡ forks_few fs
  few_at [] = refl
  few_at (f ∷ fs) = ap (λ b. all_few f.boxes && b) (few_at fs)

  landed_at : (Y : Named) → landed (named_at ps Y) ≡ landed Y
  landed_at Y =
      ap (λ (s : Spot). all_few (terms_of s.work) && (all_few s.boxes && forks_few (forks_at ps Y.forks))) (walker_spot ps Y.live)
      ∙ ap (λ b. all_few (terms_of (spot_of Y.live).work) && (all_few (spot_of Y.live).boxes && b)) (few_at Y.forks)

  is_answer_at : (x : Walker) (fs : List NamedFork) → is_answer (walker_at ps x) (forks_at ps fs) ≡ is_answer x fs
  is_answer_at (asks s) [] = refl
  is_answer_at (asks s) (f ∷ fs) = refl
  is_answer_at (says a s) [] = refl
  is_answer_at (says a s) (f ∷ fs) = refl

  code_answers : (r : Row) → answers_on (code_at ps r) ≡ answers_on r
  code_answers (CONST n c) = refl
  code_answers r = refl

  found_code_answers : (o : Option (ℕ × Row)) → found_answers (found_code ps o) ≡ found_answers o
  found_code_answers None = refl
  found_code_answers (Some r) = code_answers r.1

  get_at : (ns : List Node) (i : ℕ) → right_of (slice_get (nodes_at ps ns) i) ≡ right_of (slice_get ns i)
  get_at [] i = refl
  get_at (n ∷ ns) zero = go n
    where
      go : (n : Node) → right_of (Some (node_at ps n)) ≡ right_of (Some n)
      go (Const v w) = refl
      go n = refl
  get_at (n ∷ ns) (suc i) = get_at ns i

  left_at : (i : ℕ) (t : List Term) (o : Option Channel) → after_left i t o ≡ named_option (after_left i t o)
  left_at i t None = refl
  left_at i t (Some d) = refl

  after_at : (net : NetTree) (i : ℕ) (r : Row) (t : List Term) → after_join (net_at ps net) i (code_at ps r) t ≡ named_option
      (after_join net i r t)
  after_at net i (JOIN o Left w) t =
      ap (after_left i t) (get_at net.nodes i) ∙ left_at i t (right_question net i)
  after_at net i (JOIN o Right w) t = refl
  after_at net i (CONST n c) t = refl
  after_at net i r t = refl

  joins_at : (net : NetTree) (o : Option (ℕ × Row)) (t : List Term) →
      found_join (net_at ps net) (found_code ps o) t ≡ named_option (found_join net o t)
  joins_at net None t = refl
  joins_at net (Some r) t = after_at net r.0 r.1 t

  leads_at : (net : NetTree) (n : ℕ) (o : Option Named) (Y : Named) → leads net n o Y ≡ true →
      leads (net_at ps net) n (named_option o) (named_at ps Y) ≡ true
  leads_at net n None Y h = absurd cc
  leads_at net n (Some X) Y h = ends_at net n X Y h

  second_at : (net : NetTree) (s : Spot) (q : Second) → second_right net s q ≡ true →
      second_right (net_at ps net) s (record q { to = named_at ps q.to }) ≡ true
  second_at net s q h =
      let fit : Bool = list_fits (given_at q.given) a_box None 0 q.boxes in
      let from : Bool = all_fit nothing q.given in
      let lead : Bool = leads net q.moves (found_join net (row_of net s.channel) q.boxes) q.to in
      let a = and_parts (nat_eq (length q.boxes) (length s.boxes)) (lead && (landed q.to && (fit && from))) h in
      let b = and_parts lead (landed q.to && (fit && from)) a.1 in
      let c = and_parts (landed q.to) (fit && from) b.1 in
      and_from (nat_eq (length q.boxes) (length s.boxes)) _ a.0 (and_from
      (leads (net_at ps net) q.moves (found_join (net_at ps net) (row_of (net_at ps net) s.channel) q.boxes) (named_at ps q.to))
      (landed (named_at ps q.to) && (fit && from))
      (ap (λ o. leads (net_at ps net) q.moves (found_join (net_at ps net) o q.boxes) (named_at ps q.to)) (row_of_at net s.channel)
      ∙ ap (λ o. leads (net_at ps net) q.moves o (named_at ps q.to)) (joins_at net (row_of net s.channel) q.boxes)
      ∙ leads_at net q.moves (found_join net (row_of net s.channel) q.boxes) q.to b.0)
      (and_from (landed (named_at ps q.to)) (fit && from) (landed_at q.to ∙ c.0) c.1))

  way_at_is : (net : NetTree) (Y : Named) (w : Way) → way_right net Y w ≡ true →
      way_right (net_at ps net) (named_at ps Y) (way_at ps w) ≡ true
  way_at_is net Y onwards h = landed_at Y ∙ h
  way_at_is net Y answers_run h =
      let p = and_parts (is_answer Y.live Y.forks) (found_answers (row_of net (spot_of Y.live).channel)) h in
      and_from (is_answer (walker_at ps Y.live) (forks_at ps Y.forks))
      (found_answers (row_of (net_at ps net) (spot_of (walker_at ps Y.live)).channel)) (is_answer_at Y.live Y.forks ∙ p.0)
      (ap (λ (s : Spot). found_answers (row_of (net_at ps net) s.channel)) (walker_spot ps Y.live)
      ∙ ap found_answers (row_of_at net (spot_of Y.live).channel) ∙ found_code_answers (row_of net (spot_of Y.live).channel) ∙ p.1)
  way_at_is net Y (answers_fork q) h =
      let p = and_parts (is_answer Y.live Y.forks) (second_right net (spot_of Y.live) q) h in
      and_from (is_answer (walker_at ps Y.live) (forks_at ps Y.forks))
      (second_right (net_at ps net) (spot_of (walker_at ps Y.live)) (record q { to = named_at ps q.to })) (is_answer_at Y.live Y.forks
      ∙ p.0)
      (ap (λ (s : Spot). second_right (net_at ps net) s (record q { to = named_at ps q.to })) (walker_spot ps Y.live)
      ∙ second_at net (spot_of Y.live) q p.1)

  right_at : (net : NetTree) (w : Site) (k : Key) (e : Seen) (r : JoinedRow) → row_right net w k e r ≡ true →
      row_right (net_at ps net) w k e (row_at ps r) ≡ true
  right_at net w k e r h =
      let s1 : Bool = list_fits (given_at r.given) a_sig (on_sigs_seen w e) 0 (terms_of (spot_of r.from).work) in
      let s2 : Bool = list_fits (given_at r.given) a_box (on_boxes_seen w e) 0 (spot_of r.from).boxes in
      let first : Bool = first_right net e r (begins net e r.from) in
      let way : Bool = way_right net r.to r.way in
      let goes : Bool = nat_lt 0 (row_moves e r) in
      let a = and_parts (same_key (key_of r.from) k)
      (value_named r.from && (deep net (spot_of r.from) && (s1 && (s2 && (all_fit e r.given && (first && (way && goes))))))) h in
      let b = and_parts (value_named r.from) (deep net (spot_of r.from) && (s1 && (s2 && (all_fit e r.given && (first &&
      (way && goes)))))) a.1 in
      let c = and_parts (deep net (spot_of r.from)) (s1 && (s2 && (all_fit e r.given && (first && (way && goes))))) b.1 in
      let d = and_parts s1 (s2 && (all_fit e r.given && (first && (way && goes)))) c.1 in
      let f = and_parts s2 (all_fit e r.given && (first && (way && goes))) d.1 in
      let g = and_parts (all_fit e r.given) (first && (way && goes)) f.1 in
      let i = and_parts first (way && goes) g.1 in
      let j = and_parts way goes i.1 in
      and_from (same_key (key_of r.from) k) _ a.0 (and_from (value_named r.from) _ b.0 (and_from (deep net (spot_of r.from)) _ c.0
      (and_from s1 _ d.0 (and_from s2 _ f.0 (and_from (all_fit e r.given) _ g.0
      (and_from (first_right (net_at ps net) e (row_at ps r) (begins (net_at ps net) e r.from)) _ (first_at net e r b.0 i.0)
      (and_from (way_right (net_at ps net) (named_at ps r.to) (way_at ps r.way)) (nat_lt 0 (row_moves e (row_at ps r)))
      (way_at_is net r.to r.way j.0) (ap (nat_lt 0) (moves_at ps e r) ∙ j.1))))))))

  -- so a table is right of the other net
  pub rows_right_at : (net : NetTree) (w : Key → Site) (es : List Entry) → rows_right net w es ≡ true →
      rows_right (net_at ps net) w (entries_at ps es) ≡ true
  rows_right_at net w [] h = refl
  rows_right_at net w (x ∷ xs) h =
      let p = and_parts (row_right net (w x.key) x.key x.seen x.row) (rows_right net w xs) h in
      and_from (row_right (net_at ps net) (w x.key) x.key x.seen (row_at ps x.row)) (rows_right (net_at ps net) w (entries_at ps xs))
      (right_at net (w x.key) x.key x.seen x.row p.0) (rows_right_at net w xs p.1)
