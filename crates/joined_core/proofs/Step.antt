-- A cycle of the circuit goes along with the processor.
use Rattle.std.proofs.Common.{◌≡◌, ◌⊎◌, ◌≤◌, ℕ, zero, suc, ◌+◌, Bool, true, false, cond, List, [], ◌∷◌, length, Option, Some, None}
use Rattle.std.proofs.Common.{refl, sym, ap, ◌∙◌, subst, arith, inl, inr}
use Rattle.std.specs.Prelude.{slice_get}
use Rattle.std.proofs.lemmas.Bool.{eqb-true}
use Rattle.pcf_values.specs.declared.val.Val.{Val}
use Rattle.pcf_values.specs.declared.val.Val.TheVariants.{Number, Overflow}
use Rattle.pcf_values.specs.Values.{at_zero, val_op}
use Rattle.pcf_values.specs.declared.operator.Operator.{Operator}
use Rattle.pcf_values.specs.declared.side.Side.{Side}
use Rattle.pcf_values.specs.declared.side.Side.TheVariants.{Left, Right}
use Rattle.token_stacks.specs.Signatures.{Sig, Boxes}
use Rattle.net_build.specs.Nets.{WireTree, NetTree}
use Rattle.move_rules.specs.Places.{Place, up, down, TokenTree, ask, ans, place_of}
use Rattle.move_rules.specs.Stacks.{work_at, boxes_at}
use Rattle.move_rules.specs.Moves.{solo, join, answer}
use Rattle.net_rows.specs.Rows.{Row, TEST, JOIN, ANSWER, Channel, falls, row_of, channel_of}
use Rattle.net_rows.specs.RowMoves.{at, answer_row, by_row, by_found, by_rows}
use Rattle.newest_core.specs.Processor.{Half, waits, came, OpenFork, Registers, meets_half, meets, does, counted, tick_on, tick, ticks}
use Rattle.newest_core.specs.ProcessorLaws.{Waits, IsInnermost, MeetsInnermost}
use Rattle.joined_rows.specs.Open.{Term, Amount, some, both, Spot, spot, Walker, asks, says, Filling, spot_of, val_of}
use Rattle.joined_rows.specs.Open.{work_of, boxes_of, token_in}
use Rattle.joined_rows.specs.Compound.{Pointer, Store, Account, Low, AllRead, back_to, terms_of, signs_of}
use Rattle.joined_rows.specs.Compound.{Right as IsRight}
use Rattle.joined_rows.specs.Ticks.{Names, of_names, left, NamedFork, Named, named_tick, then_named, named_ticks, ForksAre, IsNamed}
use Rattle.joined_rows.specs.CompoundTicks.{names_of}
use Rattle.joined_rows.proofs.Rows.{by_says}
use Rattle.joined_rows.proofs.Runs.{token_channel}
use Rattle.joined_rows.proofs.Ticks.{joined_ticks}
use Rattle.joined_rows.proofs.Compound.{given_back}
use Rattle.newest_core.specs.Placed.{Placed}
use Rattle.joined_core.specs.Rows.{sorts_of, Key, key_of, Site, nowhere, on_sigs, on_boxes, on_value, Seen, nothing, shaped, zero_is}
use Rattle.joined_core.specs.Rows.{is_zero, a_box}
use Rattle.joined_core.specs.Rows.{given_at, Second, Way, onwards, answers_run, answers_fork, JoinedRow, Table, test_moves, way_moves}
use Rattle.joined_core.specs.Rows.{row_moves}
use Rattle.joined_core.specs.Right.{test_by, found_test, begins, found_is_test, plain_ticks, alone, right_question, after_left, after_join}
use Rattle.joined_core.specs.Right.{found_join, wire_at, has_depth, deep, IsTable}
use Rattle.joined_core.specs.Circuit.{JoinedToken, JoinedFork, JoinedCircuit, pointer_at, looked_at, seen_at, row_names, value_of}
use Rattle.joined_core.specs.Circuit.{amount_of, left_answer}
use Rattle.joined_core.specs.Circuit.{lands, two_values, fork_lists, fork_names, meets_fork, ends, joined_row, row_found, row_on, a_row}
use Rattle.joined_core.specs.Laws.{StandsAt, IsToken, IsLive, IsHalf, IsStack, JoinedHas}
use Rattle.joined_core.proofs.Told.{Landed, SecondFits, Answers, WayRuns, ValueNamed, RowRuns, row_runs}
use Rattle.joined_core.proofs.Waits.{HalfWaits, ForksWait}
use Rattle.joined_core.proofs.OneValue.{OneValue, ticks_one}
use Rattle.joined_core.proofs.Lands.{amounts, lands_has}
use Rattle.joined_core.proofs.Fits.{boxes_all, sorts_long, list_reads, reads_long, given_low, names_low, token_fits}

-- moves without a test are moves
plain : (net : NetTree) (n : ℕ) (X Y : Named) → plain_ticks net n X ≡ Some Y → named_ticks net n X ≡ Some Y
plain net zero X Y e = e
plain net (suc n) X Y e = go (λ Z h. plain net n Z Y h) (found_is_test (row_of net (spot_of X.live).channel)) (named_tick net X) e
  where
    go : ((Z : Named) → plain_ticks net n Z ≡ Some Y → named_ticks net n Z ≡ Some Y) → (b : Bool) (o : Option Named) →
        cond b None (then_named o (plain_ticks net n)) ≡ Some Y → then_named o (named_ticks net n) ≡ Some Y
    go ih true o e = absurd cc
    go ih false None e = absurd cc
    go ih false (Some Z) e = ih Z e

pub ticks_add : (net : NetTree) (a b : ℕ) (R : Registers) → ticks net (a + b) R ≡ ticks net b (ticks net a R)
ticks_add net zero b R = let e : 0 + b ≡ b = omega arith in ap (λ n. ticks net n R) e
ticks_add net (suc a) b R =
    let e : suc a + b ≡ suc (a + b) = omega arith in
    ap (λ n. ticks net n R) e ∙ ticks_add net a b (tick net R)

zero_at : {A : Type 0} (v : Val) (c d : A) → at_zero v c d ≡ cond (is_zero v) c d
zero_at (Number zero) c d = refl
zero_at (Number (suc n)) c d = refl
zero_at Overflow c d = refl

module _ (N : Names) (around : List OpenFork) where
  abbrev F : Filling
  F = of_names N

  pub record Reached (n : ℕ) (Y : Named) (R T : Registers) : Type 0 where
    pub named : IsNamed F around Y T
    pub moves : T.moves ≡ R.moves + n
    pub result : T.result ≡ R.result

  way_is : (net : NetTree) (x : Walker) → by_rows net (token_in F x) ≡ by_found (row_of net (spot_of x).channel) (token_in F x)
  way_is net x = ap (λ c. by_found (row_of net c) (token_in F x)) (token_channel F x)

  tick_is : (net : NetTree) (X : Named) (R : Registers) (n : IsNamed F around X R) →
      tick net R ≡ does (by_found (row_of net (spot_of X.live).channel) (token_in F X.live)) n.ticket (counted R)
  tick_is net X R n =
      ap (λ b. cond b R (tick_on net R.live R)) n.ready ∙ ap (λ l. tick_on net l R) n.live
      ∙ ap (λ m. does m n.ticket (counted R)) (way_is net X.live)

  -- a test by what the value is
  by_test : (k : ℕ) (r : Row) (b : Bool) (x y : Walker) → test_by r b x ≡ Some y →
      ((a : Amount) (s : Spot) → x ≡ says a s → is_zero (val_of F a) ≡ b) → by_row k r (token_in F x) ≡ solo k (token_in F y)
  by_test k (TEST c d) b (says a s) y e h =
      let same : asks (spot (cond b c d) s.work s.boxes) ≡ y = cc in
      by_says k (TEST c d) (val_of F a) s.channel (work_of F s.work) (boxes_of F s.boxes)
      ∙ ap (λ c. solo k (ask (at c (work_of F s.work) (boxes_of F s.boxes)))) (zero_at (val_of F a) c d ∙ ap (λ b. cond b c d) (h a s refl))
      ∙ ap (λ y. solo k (token_in F y)) same
  by_test k (TEST c d) b (asks s) y e h = absurd cc
  by_test k r b x y e h = absurd cc

  test_found : (o : Option (ℕ × Row)) (b : Bool) (x y : Walker) → found_test o b x ≡ Some y →
      ((a : Amount) (s : Spot) → x ≡ says a s → is_zero (val_of F a) ≡ b) → (k : ℕ) × (by_found o (token_in F x) ≡ solo k (token_in F y))
  test_found None b x y e h = absurd cc
  test_found (Some r) b x y e h = (r.0, by_test r.0 r.1 b x y e h)

  -- where the row's first part begins
  start_reached : (net : NetTree) (e : Seen) (x y : Walker) (R : Registers) → begins net e x ≡ Some y → IsNamed F around (alone x) R →
      ((b : Bool) → e ≡ zero_is b → (a : Amount) (s : Spot) → x ≡ says a s → is_zero (val_of F a) ≡ b) →
      Reached (test_moves e) (alone y) R (ticks net (test_moves e) R)
  start_reached net nothing x y R h n v =
      let same : x ≡ y = cc in
      record { named = subst (λ x. IsNamed F around (alone x) R) same n; moves = omega arith; result = refl }
  start_reached net (shaped u) x y R h n v =
      let same : x ≡ y = cc in
      record { named = subst (λ x. IsNamed F around (alone x) R) same n; moves = omega arith; result = refl }
  start_reached net (zero_is b) x y R h n v =
      let t = test_found (row_of net (spot_of x).channel) b x y h (v b refl) in
      let way : tick net R ≡ does (solo t.0 (token_in F y)) n.ticket (counted R) =
      tick_is net (alone x) R n ∙ ap (λ m. does m n.ticket (counted R)) t.1 in
      subst (Reached 1 (alone y) R) (sym way) (record {
        named = record { ticket = n.ticket; live = refl; forks = n.forks; ready = n.ready };
        moves = omega arith;
        result = refl;
      })

  -- a join to which the token comes, and where the second part begins there
  record JoinAt (u : Val) (net : NetTree) (o : Option (ℕ × Row)) (x : Walker) (t : List Term) (X : Named) : Type 0 where
    node : ℕ
    op : Operator
    side : Side
    wire : ℕ
    met : by_found o (token_in F x) ≡ join node op side (value_of u (val_of F) x) wire (boxes_of F (spot_of x).boxes)
    starts : after_join net node (JOIN op side wire) t ≡ Some X

  join_row : (u : Val) (net : NetTree) (k : ℕ) (r : Row) (x : Walker) (t : List Term) (X : Named) → Answers x →
      after_join net k r t ≡ Some X → JoinAt u net (Some (k, r)) x t X
  join_row u net k r (asks s) t X a h = elim a [ ]
  join_row u net k (JOIN o e w) (says v s) t X a h = record {
    node = k;
    op = o;
    side = e;
    wire = w;
    met = by_says k (JOIN o e w) (val_of F v) s.channel (work_of F s.work) (boxes_of F s.boxes)
        ∙ ap (λ m. answer_row k (JOIN o e w) (val_of F v) (work_of F m) (boxes_of F s.boxes)) a;
    starts = h;
  }
  join_row u net k r (says v s) t X a h = absurd cc

  join_at : (u : Val) (net : NetTree) (o : Option (ℕ × Row)) (x : Walker) (t : List Term) (X : Named) → Answers x →
      found_join net o t ≡ Some X → JoinAt u net o x t X
  join_at u net None x t X a h = absurd cc
  join_at u net (Some r) x t X a h = join_row u net r.0 r.1 x t X a h

  -- the run's answer
  run_answers : (u : Val) (k : ℕ) (x : Walker) → Answers x → by_row k ANSWER (token_in F x) ≡ answer (value_of u (val_of F) x)
  run_answers u k (asks s) a = elim a [ ]
  run_answers u k (says v s) a = by_says k ANSWER (val_of F v) s.channel (work_of F s.work) (boxes_of F s.boxes)

  forks_same : (gs : List NamedFork) (os : List OpenFork) → gs ≡ [] → ForksAre F around gs os → os ≡ around
  forks_same gs os e h = subst (λ gs. ForksAre F around gs os) e h

value_same : (u : Val) (N : Names) (x : Walker) → value_of u (amount_of N.vals) x ≡ value_of u (val_of (of_names N)) x
value_same u N (asks s) = refl
value_same u N (says a s) = amounts N a

-- what a run of the processor always meets
pub record Meets (net : NetTree) (R : Registers) : Type 0 where
  pub ready : R.full ≡ false
  pub innermost : MeetsInnermost net R
  pub placed : (i : ℕ) (x : TokenTree) → R.live ≡ Some (i, x) → Placed net (place_of x)
  pub waits : ForksWait net R.forks

as_long : (F : Filling) (xs : List Term) → F.boxes ≡ [] → length (boxes_of F xs) ≡ length xs
as_long F [] e = ap length e
as_long F (x ∷ xs) e = ap suc (as_long F xs e)

-- the fork that a second part answers: it has as many boxes; and its left answer came, or the part begins with one value
pub record ForkThere (net : NetTree) (q : Second) (gs : List JoinedFork) : Type 0 where
  pub fork : JoinedFork
  pub around : List JoinedFork
  pub forks : gs ≡ fork ∷ around
  pub long : length q.boxes ≡ length fork.boxes
  pub answered : OneValue q.to ⊎ ((v : Val) × (fork.answered ≡ Some v))

left_one : (i : ℕ) (t : List Term) (o : Option Channel) (X : Named) → after_left i t o ≡ Some X → OneValue X
left_one i t None X e = absurd cc
left_one i t (Some d) X e =
    let Z : Named = record { live = asks (spot d [] t); forks = record { node = i; boxes = t; half = left (some 0) } ∷ [] } in
    let same : Z ≡ X = cc in
    subst OneValue same (tt, (tt, tt))

half_came : (h : Half) (g : JoinedFork) → Waits Right h → IsHalf h g → (v : Val) × (g.answered ≡ Some v)
half_came (waits j l) g x y = elim x [ ]
half_came (came u) g x y = (u, y)

-- an answer at the innermost fork
module _ (net : NetTree) (C : JoinedCircuit) (M : Account) (r : IsRight C.store M) (was : Val) where
  -- the second part, from the registers that the fork's answer leads to
  module _ (q : Second) (g : JoinedFork) (bs : Boxes) (h : AllRead g.top M g.boxes bs) (l : g.top ≤ C.store.top) (w : SecondFits q)
      (vs : ℕ → Val) where
    abbrev B : Store
    B = back_to C.store g.top

    abbrev P : ℕ → Pointer
    P = fork_names B q g

    abbrev G : Names
    G = names_of M P vs

    back_right : IsRight B M
    back_right = given_back C.store M r g.top l

    -- names of a fork's boxes are its boxes
    fork_read : length q.boxes ≡ length bs → boxes_of (of_names G) q.boxes ≡ bs
    fork_read e =
        boxes_all G q.boxes
        ∙ list_reads B M back_right (looked_at nowhere (fork_lists g)) (fork_lists g) (given_at q.given) a_box None 0 q.boxes g.boxes bs w.0
        e h (λ j. let z : 0 + j ≡ j = omega arith in ap (pointer_at g.boxes) z) (λ y e. absurd cc)

    second : (X : Named) (gs : List JoinedFork) (fs : List OpenFork) (T : Registers) → plain_ticks net q.moves X ≡ Some q.to →
        Landed q.to → IsNamed (of_names G) fs X T → IsStack g.top M fs gs → C.result ≡ T.result → C.moves ≡ T.moves + q.moves →
        C.full ≡ false → JoinedHas (ticks net q.moves T) (lands q.to B P was (amount_of vs) gs C)
    second X gs fs T e o n s c m f =
        let j = joined_ticks net q.moves X q.to (plain net q.moves X q.to e) G fs T n in
        lands_has B M back_right P (given_low B M back_right nowhere (fork_lists g) q.given [] bs tt h w.1) was vs q.to C
        (ticks net q.moves T) fs gs j.0 o s (c ∙ sym j.2) (m ∙ sym j.1) f

  -- an answer that meets the innermost fork, as the operand that this waits for
  module _ (q : Second) (i k w : ℕ) (o : Operator) (a : Val) (f : OpenFork) (fs : List OpenFork) (g : JoinedFork) (gs : List JoinedFork)
      (U : Registers) (X : Named) (v : SecondFits q) (p : Landed q.to) (long : length q.boxes ≡ length f.boxes)
      (leads : plain_ticks net q.moves X ≡ Some q.to) (s : IsStack C.store.top M (f ∷ fs) (g ∷ gs)) (same : f.node ≡ i)
      (c : C.result ≡ U.result) (m : C.moves ≡ U.moves + q.moves) (full : C.full ≡ false) (ready : U.full ≡ false) where
    abbrev vs : ℕ → Val
    vs = two_values a g.answered

    abbrev Q : Registers → Type 0
    Q T = JoinedHas (ticks net q.moves T) (meets_fork (g ∷ gs) q was a C)

    names : boxes_of (of_names (names_of M (fork_names (back_to C.store g.top) q g) vs)) q.boxes ≡ f.boxes
    names = fork_read q g f.boxes s.0.boxes s.0.low v vs long

    left_met : (h : Half) → Waits Left h → HalfWaits net f.node f.boxes h → after_join net i (JOIN o Left w) q.boxes ≡ Some X →
        Q (meets_half h f fs k o a w f.boxes U)
    left_met (came u) x y e = elim x [ ]
    left_met (waits j l) x y e =
        let question : right_question net i ≡ Some y.0 = ap (right_question net) (sym same) ∙ y.1 in
        let start : after_left i q.boxes (Some y.0) ≡ Some X = ap (after_left i q.boxes) (sym question) ∙ e in
        let Z : Named = record {
          live = asks (spot y.0 [] q.boxes);
          forks = record { node = i; boxes = q.boxes; half = left (some 0) } ∷ [];
        } in
        let is : Z ≡ X = cc in
        second q g f.boxes s.0.boxes s.0.low v vs Z gs fs
        (record U { live = Some (j, ask l); forks = record f { half = came a } ∷ fs })
        (ap (plain_ticks net q.moves) is ∙ leads) p (record {
          ticket = j;
          live = ap (λ p. Some (j, ask p)) (y.2 ∙ ap (at y.0 []) (sym names));
          forks = (record { node = same; boxes = sym names; half = refl }, refl);
          ready = ready;
        }) s.1 c m full

    right_met : (h : Half) → Waits Right h → IsHalf h g → after_join net i (JOIN o Right w) q.boxes ≡ Some X →
        Q (meets_half h f fs k o a w f.boxes U)
    right_met (waits j l) x y e = elim x [ ]
    right_met (came u) x y e =
        let Z : Named = alone (says (both o (some 1) (some 0)) (spot (falls w) [] q.boxes)) in
        let is : Z ≡ X = cc in
        second q g f.boxes s.0.boxes s.0.low v vs Z gs fs
        (record U { live = Some (k, ans (val_op o u a) (at (falls w) [] f.boxes)); forks = fs })
        (ap (plain_ticks net q.moves) is ∙ leads) p (record {
          ticket = k;
          live = ap (λ b. Some (k, ans (val_op o u a) (at (falls w) [] b))) (sym names)
              ∙ ap (λ u. Some (
                k,
                ans (val_op o u a)
                    (at (falls w) [] (boxes_of (of_names (names_of M (fork_names (back_to C.store g.top) q g) vs)) q.boxes)),
              )) (sym (ap left_answer y));
          forks = refl;
          ready = ready;
        }) s.1 c m full

    side_met : (d : Side) → Waits d f.half → HalfWaits net f.node f.boxes f.half → after_join net i (JOIN o d w) q.boxes ≡ Some X →
        Q (meets_half f.half f fs k o a w f.boxes U)
    side_met Left x y e = left_met f.half x y e
    side_met Right x y e = right_met f.half x s.0.half e

  fork_met : (q : Second) (i k w : ℕ) (o : Operator) (a : Val) (d : Side) (t : Boxes) (fs : List OpenFork) (gs : List JoinedFork)
      (U : Registers) (X : Named) → SecondFits q → Landed q.to → length q.boxes ≡ length t → plain_ticks net q.moves X ≡ Some q.to →
      IsStack C.store.top M fs gs → IsInnermost fs i t d → ForksWait net fs → after_join net i (JOIN o d w) q.boxes ≡ Some X →
      C.result ≡ U.result → C.moves ≡ U.moves + q.moves → C.full ≡ false → U.full ≡ false →
      JoinedHas (ticks net q.moves (meets fs k o a w t U)) (meets_fork gs q was a C)
  fork_met q i k w o a d t [] gs U X v p long leads s inn wait e c m full ready = elim inn [ ]
  fork_met q i k w o a d t (f ∷ fs) [] U X v p long leads s inn wait e c m full ready = elim s [ ]
  fork_met q i k w o a d t (f ∷ fs) (g ∷ gs) U X v p long leads s inn wait e c m full ready =
      subst (λ t. JoinedHas (ticks net q.moves (meets_half f.half f fs k o a w t U)) (meets_fork (g ∷ gs) q was a C)) inn.1
      (side_met q i k w o a f fs g gs U X v p (long ∙ ap length (sym inn.1)) leads s inn.0 c m full ready d inn.2 wait.0 e)

  module _ (g : ℕ → Pointer) (lows : (i : ℕ) → Low C.store.top (g i)) (vs : ℕ → Val) (around : List OpenFork)
      (s : IsStack C.store.top M around C.forks) (Y : Named) (T : Registers) (n : IsNamed (of_names (names_of M g vs)) around Y T)
      (c : C.result ≡ T.result) (full : C.full ≡ false) (run : Meets net T) where
    abbrev N : Names
    N = names_of M g vs

    abbrev x : TokenTree
    x = token_in (of_names N) Y.live

    abbrev U : Registers
    U = counted T

    abbrev v : Val
    v = value_of was (val_of (of_names N)) Y.live

    ends_has : (way : Way) → WayRuns net Y way → C.moves ≡ T.moves + way_moves way →
        JoinedHas (ticks net (way_moves way) T) (ends way Y g was (amount_of vs) C)
    ends_has onwards w m =
        let e : C.moves ≡ T.moves = omega arith in
        lands_has C.store M r g lows was vs Y C T around C.forks n w s c e full
    ends_has answers_run w m =
        let row : row_of net (spot_of Y.live).channel ≡ Some (w.2.0, ANSWER) = w.2.1 in
        let t : tick net T ≡ record U { live = None; result = Some v } =
        tick_is N around net Y T n ∙ ap (λ o. does (by_found o x) n.ticket U) row
        ∙ ap (λ m. does m n.ticket U) (run_answers N around was w.2.0 Y.live w.0) in
        subst (λ R. JoinedHas R (ends answers_run Y g was (amount_of vs) C)) (sym t) (record {
          account = M;
          right = r;
          live = tt;
          forks = subst (λ os. IsStack C.store.top M os C.forks) (sym (forks_same N around Y.forks T.forks w.1 n.forks)) s;
          result = ap Some (value_same was N Y.live);
          moves = omega arith;
          ready = full;
        })
    ends_has (answers_fork q) w m =
        let met = w.2 in
        let j = join_at N around was net (row_of net (spot_of Y.live).channel) Y.live q.boxes met.led.start w.0 met.led.starts in
        let t : Boxes = boxes_of (of_names N) (spot_of Y.live).boxes in
        let there : T.forks ≡ around = forks_same N around Y.forks T.forks w.1 n.forks in
        let inn : IsInnermost around j.node t j.side = subst (λ os. IsInnermost os j.node t j.side) there
        (run.innermost n.ticket x n.live j.node j.op j.side v j.wire t (way_is N around net Y.live ∙ j.met)) in
        let way : tick net T ≡ meets around n.ticket j.op (value_of was (amount_of vs) Y.live) j.wire t U =
        tick_is N around net Y T n ∙ ap (λ m. does m n.ticket U) j.met
        ∙ ap (λ os. meets os n.ticket j.op v j.wire t U) there
        ∙ ap (λ v. meets around n.ticket j.op v j.wire t U) (sym (value_same was N Y.live)) in
        subst (λ R. JoinedHas (ticks net q.moves R) (meets_fork C.forks q was (value_of was (amount_of vs) Y.live) C)) (sym way)
        (fork_met q j.node n.ticket j.wire j.op (value_of was
        (amount_of vs) Y.live) j.side t around C.forks U met.led.start met.fits met.landed
        (met.long ∙ sym (as_long (of_names N) (spot_of Y.live).boxes refl)) met.led.leads s inn
        (subst (ForksWait net) there run.waits) j.starts c (omega arith) full n.ready)

    -- and the fork is there
    pub fork_there : (q : Second) → WayRuns net Y (answers_fork q) → ForkThere net q C.forks
    fork_there q w =
        let met = w.2 in
        let j = join_at N around was net (row_of net (spot_of Y.live).channel) Y.live q.boxes met.led.start w.0 met.led.starts in
        let t : Boxes = boxes_of (of_names N) (spot_of Y.live).boxes in
        let there : T.forks ≡ around = forks_same N around Y.forks T.forks w.1 n.forks in
        let inn : IsInnermost around j.node t j.side = subst (λ os. IsInnermost os j.node t j.side) there
        (run.innermost n.ticket x n.live j.node j.op j.side v j.wire t (way_is N around net Y.live ∙ j.met)) in
        go j.side j.node j.op j.wire t (met.long ∙ sym (as_long (of_names N) (spot_of Y.live).boxes refl)) met.led.start met.led.leads
        j.starts around C.forks inn s
      where
        go : (d : Side) (i : ℕ) (o : Operator) (w : ℕ) (t : Boxes) → length q.boxes ≡ length t → (X : Named) →
            plain_ticks net q.moves X ≡ Some q.to → after_join net i (JOIN o d w) q.boxes ≡ Some X →
            (fs : List OpenFork) (gs : List JoinedFork) → IsInnermost fs i t d → IsStack C.store.top M fs gs → ForkThere net q gs
        go d i o w t l X led e [] gs inn s = elim inn [ ]
        go d i o w t l X led e (f ∷ fs) [] inn s = elim s [ ]
        go Left i o w t l X led e (f ∷ fs) (g ∷ gs) inn s = record {
          fork = g;
          around = gs;
          forks = refl;
          long = l ∙ ap length (sym inn.1) ∙ sym (reads_long g.top M g.boxes f.boxes s.0.boxes);
          answered = inl (ticks_one net q.moves X q.to (plain net q.moves X q.to led)
              (left_one i q.boxes (right_question net i) X e));
        }
        go Right i o w t l X led e (f ∷ fs) (g ∷ gs) inn s = record {
          fork = g;
          around = gs;
          forks = refl;
          long = l ∙ ap length (sym inn.1) ∙ sym (reads_long g.top M g.boxes f.boxes s.0.boxes);
          answered = inr (half_came f.half g inn.2 s.0.half);
        }

-- as many boxes as the wire is deep
pub deep_long : (net : NetTree) (s : Spot) (p : Place) → deep net s ≡ true → s.channel ≡ channel_of p → Placed net p →
    length s.boxes ≡ length (boxes_at p)
deep_long net s p h e placed = go p e placed
  where
    at_wire : (i : ℕ) (w : WireTree) (t : Boxes) → wire_at s.channel ≡ i → slice_get net.wires i ≡ Some w → length t ≡ w.depth →
        length s.boxes ≡ length t
    at_wire i w t c o l =
        let there : slice_get net.wires (wire_at s.channel) ≡ Some w = ap (slice_get net.wires) c ∙ o in
        eqb-true (length s.boxes) w.depth (ap (λ o. has_depth o (length s.boxes)) (sym there) ∙ h) ∙ sym l

    go : (p : Place) → s.channel ≡ channel_of p → Placed net p → length s.boxes ≡ length (boxes_at p)
    go (up i m t) e w = at_wire i w.0 t (ap wire_at e) w.1 w.2.0
    go (down i m t) e w = at_wire i w.0 t (ap wire_at e) w.1 w.2.0

-- a row's end counts no more moves than the row
pub ends_moves : (way : Way) (Y : Named) (g : ℕ → Pointer) (u : Val) (v : Amount → Val) (D : JoinedCircuit) →
    (ends way Y g u v D).moves ≡ D.moves
ends_moves onwards Y g u v D = refl
ends_moves answers_run Y g u v D = refl
ends_moves (answers_fork q) Y g u v D = go D.forks
  where
    go : (fs : List JoinedFork) → (meets_fork fs q u (value_of u v Y.live) D).moves ≡ D.moves
    go [] = refl
    go (f ∷ fs) = refl

-- a cycle with a row
module _ (net : NetTree) (T : Table) (table : IsTable net T) (R : Registers) (C : JoinedCircuit) (h : JoinedHas R C)
    (run : (j : ℕ) → Meets net (ticks net j R)) where
  abbrev V : Store
  V = C.store

  abbrev M : Account
  M = h.account

  -- a row of so many moves
  pub record Along (D : JoinedCircuit) : Type 0 where
    pub moves : ℕ
    pub counts : D.moves ≡ C.moves + moves
    pub has : JoinedHas (ticks net moves R) D

  module _ (i : ℕ) (x : TokenTree) (live : R.live ≡ Some (i, x)) (k : JoinedToken) (t : IsToken V.top M x k) where
    reads : (x : TokenTree) → IsToken V.top M x k → (sigs : List Sig) × ((boxes : List Sig) × (AllRead V.top M k.lists.sigs sigs
        × AllRead V.top M k.lists.boxes boxes))
    reads (ask p) t = (_, (_, (t.1.sigs, t.1.boxes)))
    reads (ans v p) t = (_, (_, (t.2.sigs, t.2.boxes)))

    stands : (x : TokenTree) → IsToken V.top M x k → StandsAt V.top M (place_of x) k
    stands (ask p) t = t.1
    stands (ans v p) t = t.2

    abbrev w : Site
    w = T.site k.key

    abbrev e : Seen
    e = seen_at w k

    key_channel : (y : Walker) → (key_of y).channel ≡ (spot_of y).channel
    key_channel (asks s) = refl
    key_channel (says a s) = refl

    key_marks : (y : Walker) → (key_of y).marks ≡ sorts_of (spot_of y).work
    key_marks (asks s) = refl
    key_marks (says a s) = refl

    zero_seen : (w : Site) (b : Bool) → seen_at w k ≡ zero_is b → is_zero k.value ≡ b
    zero_seen nowhere b e = absurd cc
    zero_seen on_sigs b e = absurd cc
    zero_seen on_boxes b e = absurd cc
    zero_seen on_value b e = cc

    valued : (N : Names) (a : Amount) (s : Spot) → ValueNamed (says a s) → ((n : ℕ) → N.vals n ≡ k.value) →
        val_of (of_names N) a ≡ k.value
    valued N (some n) s v q = q n
    valued N a s v q = elim v [ ]

    value_zero : (r : JoinedRow) → RowRuns net w k.key e r → (b : Bool) → e ≡ zero_is b → (a : Amount) (s : Spot) →
        r.from ≡ says a s → is_zero (val_of (of_names (names_of M (row_names V w k.lists r.given) (λ n. k.value))) a) ≡ b
    value_zero r runs b q a s f =
        ap is_zero (valued (names_of M (row_names V w k.lists r.given) (λ n. k.value)) a s (subst ValueNamed f runs.value) (λ n. refl))
        ∙ zero_seen w b q

    -- as many signatures and boxes as the row begins with
    pub row_long : (r : JoinedRow) → RowRuns net w k.key e r → (length (terms_of (spot_of r.from).work) ≡ length k.lists.sigs)
        × (length (spot_of r.from).boxes ≡ length k.lists.boxes)
    row_long r runs =
        let st = stands x t in
        let channel : (spot_of r.from).channel ≡ channel_of (place_of x) =
        sym (key_channel r.from) ∙ ap (λ (k : Key). k.channel) runs.place ∙ st.channel in (
          sorts_long (spot_of r.from).work (work_at (place_of x))
              (sym (key_marks r.from) ∙ ap (λ (k : Key). k.marks) runs.place ∙ st.marks)
              ∙ sym (reads_long V.top M k.lists.sigs (signs_of (work_at (place_of x))) st.sigs),
          deep_long net (spot_of r.from) (place_of x) runs.deep channel ((run 0).placed i x live)
              ∙ sym (reads_long V.top M k.lists.boxes (boxes_at (place_of x)) st.boxes),
        )

    -- and the fork that it answers
    pub row_forks : (r : JoinedRow) → RowRuns net w k.key e r → (q : Second) → r.way ≡ answers_fork q → ForkThere net q C.forks
    row_forks r runs q way =
        let g : ℕ → Pointer = row_names V w k.lists r.given in
        let N : Names = names_of M g (λ n. k.value) in
        let rd = reads x t in
        let long = (row_long r runs).1 in
        let lows : ((n : ℕ) → Low V.top (g n)) = names_low V M h.right w k r rd.0 rd.1.0 rd.1.1.0 rd.1.1.1 runs.sources in
        let fit : token_in (of_names N) r.from ≡ x = token_fits V M h.right w k r net runs x t long in
        let begun : IsNamed (of_names N) R.forks (alone r.from) R =
        record { ticket = i; live = live ∙ ap (λ x. Some (i, x)) (sym fit); forks = refl; ready = (run 0).ready } in
        let a = start_reached N R.forks net e r.from runs.start R runs.starts begun (value_zero r runs) in
        let R0 : Registers = ticks net (test_moves e) R in
        let led = plain net r.moves (alone runs.start) r.to runs.leads in
        let j = joined_ticks net r.moves (alone runs.start) r.to led N R.forks R0 a.named in
        let R1 : Registers = ticks net r.moves R0 in
        let first : ticks net (test_moves e + r.moves) R ≡ R1 = ticks_add net (test_moves e) r.moves R in
        fork_there net C M h.right k.value g lows (λ n. k.value) R.forks h.forks r.to R1 j.0 (h.result ∙ sym a.result ∙ sym j.2) h.ready
        (subst (Meets net) first (run (test_moves e + r.moves))) q (subst (WayRuns net r.to) way runs.way)

    row_has : (r : JoinedRow) → RowRuns net w k.key e r → JoinedHas (ticks net (row_moves e r) R) (joined_row w e r k C)
    row_has r runs =
        let g : ℕ → Pointer = row_names V w k.lists r.given in
        let N : Names = names_of M g (λ n. k.value) in
        let rd = reads x t in
        let st = stands x t in
        let channel : (spot_of r.from).channel ≡ channel_of (place_of x) =
        sym (key_channel r.from) ∙ ap (λ (k : Key). k.channel) runs.place ∙ st.channel in
        let long : length (spot_of r.from).boxes ≡ length k.lists.boxes =
        deep_long net (spot_of r.from) (place_of x) runs.deep channel ((run 0).placed i x live)
        ∙ sym (reads_long V.top M k.lists.boxes (boxes_at (place_of x)) st.boxes) in
        let lows : ((n : ℕ) → Low V.top (g n)) = names_low V M h.right w k r rd.0 rd.1.0 rd.1.1.0 rd.1.1.1 runs.sources in
        let fit : token_in (of_names N) r.from ≡ x = token_fits V M h.right w k r net runs x t long in
        let begun : IsNamed (of_names N) R.forks (alone r.from) R =
        record { ticket = i; live = live ∙ ap (λ x. Some (i, x)) (sym fit); forks = refl; ready = (run 0).ready } in
        let a = start_reached N R.forks net e r.from runs.start R runs.starts begun (value_zero r runs) in
        let R0 : Registers = ticks net (test_moves e) R in
        let led = plain net r.moves (alone runs.start) r.to runs.leads in
        let j = joined_ticks net r.moves (alone runs.start) r.to led N R.forks R0 a.named in
        let R1 : Registers = ticks net r.moves R0 in
        let first : ticks net (test_moves e + r.moves) R ≡ R1 = ticks_add net (test_moves e) r.moves R in
        let whole : ticks net (row_moves e r) R ≡ ticks net (way_moves r.way) R1 =
        ticks_add net (test_moves e) (r.moves + way_moves r.way) R ∙ ticks_add net r.moves (way_moves r.way) R0 in
        let m0 : R0.moves ≡ R.moves + test_moves e = a.moves in
        let m1 : R1.moves ≡ R0.moves + r.moves = j.1 in
        let m2 : C.moves ≡ R.moves = h.moves in
        let D : JoinedCircuit = record C { moves = C.moves + row_moves e r } in
        subst (λ S. JoinedHas S (ends r.way r.to g k.value (amount_of (λ n. k.value)) D)) (sym whole)
        (ends_has net D M h.right k.value g lows (λ n. k.value) R.forks h.forks r.to R1 j.0 (h.result ∙ sym a.result ∙ sym j.2) h.ready
        (subst (Meets net) first (run (test_moves e + r.moves))) r.way runs.way (omega arith))

    found_has : (o : Option JoinedRow) → T.row k.key e ≡ o → ((row_found w e o k C).full ≡ true) ⊎ Along (row_found w e o k C)
    found_has None q = inl refl
    found_has (Some r) q = inr (record {
      moves = row_moves e r;
      counts = ends_moves r.way r.to (row_names V w k.lists r.given) k.value (amount_of (λ n. k.value))
          (record C { moves = C.moves + row_moves e r });
      has = row_has r (row_runs net w k.key e r (table k.key e r q));
    })

  row_goes : (c : Option (ℕ × TokenTree)) → R.live ≡ c → (d : Option JoinedToken) → IsLive V.top M c d →
      ((row_on T d C).full ≡ true) ⊎ Along (row_on T d C)
  row_goes None q None l = inr (record { moves = 0; counts = omega arith; has = h })
  row_goes None q (Some k) l = elim l [ ]
  row_goes (Some c) q None l = elim l [ ]
  row_goes (Some c) q (Some k) l = found_has c.0 c.1 q k l (T.row k.key (seen_at (T.site k.key) k)) refl

  -- a row, whatever room it takes
  pub a_row_has : ((a_row T C).full ≡ true) ⊎ Along (a_row T C)
  a_row_has =
      let c : a_row T C ≡ row_on T C.live C = ap (λ b. cond b C (row_on T C.live C)) h.ready in
      subst (λ D. (D.full ≡ true) ⊎ Along D) (sym c) (row_goes R.live refl C.live h.live)
