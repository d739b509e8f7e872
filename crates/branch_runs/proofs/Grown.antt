-- A branch grows by walks and by steps of its own: its log leads on, its newest live ticket moves, and each of its tickets was given out.
use Rattle.std.proofs.Common.{◌≡◌, ◌≤◌, ◌<◌, ◌⊎◌, ℕ, zero, suc, ◌+◌, Bool, true, false, List, [], ◌∷◌, ◌++◌, length}
use Rattle.std.proofs.Common.{Option, Some, None, Result, Ok, Err}
use Rattle.std.proofs.Common.{refl, sym, ap, ◌∙◌, subst, ⊎_elim, inl, inr, arith}
use Rattle.std.specs.Prelude.{map, replicate, All}
use Rattle.std.specs.Option.{IsSome}
use Rattle.std.specs.Bool.{MatchBool}
use Rattle.std.specs.Result.{IfOk}
use Rattle.std.specs.FinMap as finmap
use Rattle.std.specs.FinMap.{get, get-empty}
use Rattle.std.specs.Ordering.{nat_cmp}
use Rattle.std.proofs.lemmas.List.Elements.{All-append, All-replicate, All-nil}
use Rattle.std.proofs.lemmas.Option.{same_Some}
use Rattle.pcf_values.specs.declared.val.Val.{Val}
use Rattle.pcf_values.specs.declared.operator.Operator.{Operator}
use Rattle.pcf_values.specs.declared.side.Side.{Side}
use Rattle.token_stacks.specs.Signatures.{Boxes}
use Rattle.fork_join.specs.Entries.{Entry, pending, has_left, has_right}
use Rattle.net_build.specs.Nets.{NetTree}
use Rattle.net_build.specs.Sound.{Sound}
use Rattle.move_rules.specs.Places.{Place, TokenTree}
use Rattle.move_rules.specs.Moves.{Move, solo, fork, join, answer, stay, move}
use Rattle.move_rules.specs.Walks.{Walks}
use Rattle.interleave_laws.specs.States.{other}
use Rattle.interleave_laws.specs.Maps.{MapState, fork_map, last_map, join_map, act_map, step_map_on, step_map, then_run_map, run_map}
use Rattle.interleave_laws.specs.Tickets.{IsLive}
use Rattle.interleave_core.proofs.Grafted.{put_here, put_other}
use Rattle.interleave_core.specs.Newest.{IsNewestLive}
use Rattle.interleave_core.specs.Owning.{GoesAlone, StepsOwn, StandsForeign}
use Rattle.interleave_core.proofs.Trailing.{tickets_are}
use Rattle.branch_laws.specs.Branches.{start_map_at}
use Rattle.branch_laws.specs.Laws.{BranchedMap, Occurs}
use Rattle.branch_laws.proofs.Mapped.{map_begins, map_steps, map_walks, map_low}
use Rattle.branch_runs.specs.Branching.{IsNewestFirst, Stops}
use Rattle.branch_runs.specs.Growing.{Grows, GrowsOn, EndsTurn, WalksAlone, PlayedSo}

-- of equal states
rises_of : (S U T : MapState) → S.next ≤ U.next → Some U ≡ Some T → S.next ≤ T.next
rises_of S U T l h = let q : U ≡ T = cc in subst (λ (T : MapState). S.next ≤ T.next) q l

last_rises : (o : Option Val) (S T : MapState) (i n w : ℕ) (t : Boxes) → last_map o S i n w t ≡ Some T → S.next ≤ T.next
last_rises None S T i n w t h = cc
last_rises (Some u) S T i n w t h = rises_of S _ T (omega arith) h

join_rises : (o : Option Entry) (S T : MapState) (i n : ℕ) (op : Operator) (d : Side) (v : Val) (w : ℕ) (t : Boxes) →
    join_map o S i n op d v w t ≡ Some T → S.next ≤ T.next
join_rises None S T i n op d v w t h = cc
join_rises (Some pending) S T i n op d v w t h = rises_of S _ T (omega arith) h
join_rises (Some (has_left u)) S T i n op d v w t h = last_rises (other op (has_left u) d v) S T i n w t h
join_rises (Some (has_right u)) S T i n op d v w t h = last_rises (other op (has_right u) d v) S T i n w t h

fork_rises : (o : Option Entry) (S T : MapState) (i n : ℕ) (l r : Place) (t : Boxes) → fork_map o S i n l r t ≡ Some T → S.next ≤ T.next
fork_rises None S T i n l r t h = rises_of S _ T (omega arith) h
fork_rises (Some y) S T i n l r t h = cc

act_rises : (m : Move) (S T : MapState) (i : ℕ) → act_map m S i ≡ Some T → S.next ≤ T.next
act_rises (solo n x) S T i h = rises_of S _ T (omega arith) h
act_rises (fork n l r t) S T i h = fork_rises (get S.entries (n, t)) S T i n l r t h
act_rises (join n o s v w t) S T i h = join_rises (get S.entries (n, t)) S T i n o s v w t h
act_rises (answer v) S T i h = rises_of S _ T (omega arith) h
act_rises stay S T i h = cc

-- a step takes no ticket back
pub step_rises : (net : NetTree) (S T : MapState) (i : ℕ) → step_map net S i ≡ Some T → S.next ≤ T.next
step_rises net S T i h = go (get S.tokens i) h
  where
    go : (o : Option TokenTree) → step_map_on net o S i ≡ Some T → S.next ≤ T.next
    go None h = cc
    go (Some x) h = act_rises (move net x) S T i h

-- tickets below the one number are below a greater one
below_more : (n m : ℕ) (log : List ℕ) → n ≤ m → All (λ k. k < n) log → All (λ k. k < m) log
below_more n m log l h = λ k d p. let q = h k d p in omega (arith, l, q)

-- a log of newest tickets, and one behind it
newest_append : (net : NetTree) (l r : List ℕ) (B C : MapState) → IsNewestFirst net B l → run_map net B l ≡ Some C →
    IsNewestFirst net C r → IsNewestFirst net B (l ++ r)
newest_append net [] r B C h e t = let q : B ≡ C = cc in subst (λ C. IsNewestFirst net C r) (sym q) t
newest_append net (k ∷ l) r B C (a, f) e t =
    (a, λ D s. newest_append net l r D C (f D s) (sym (ap (λ o. then_run_map o (λ S. run_map net S l)) s) ∙ e) t)

-- a solo move is a step
solo_step : (net : NetTree) (B : MapState) (k n : ℕ) (y z : TokenTree) → get B.tokens k ≡ Some y → move net y ≡ solo n z →
    step_map net B k ≡ Some (record B { tokens = finmap.insert B.tokens k z })
solo_step net B k n y z e m = ap (λ o. step_map_on net o B k) e ∙ ap (λ m. act_map m B k) m

-- the newest live ticket stays the newest where its token changes
pub newest_stays : (B : MapState) (k : ℕ) (z : TokenTree) → IsNewestLive B k →
    IsNewestLive (record B { tokens = finmap.insert B.tokens k z }) k
newest_stays B k z (live, newest) = (
  subst IsSome (sym (put_here B.tokens k z)) refl,
  λ j l. put_other B.tokens k z j (λ e. omega (arith, l, e)) ∙ newest j l,
)

-- a walk of the newest live ticket
walk_newest : (net : NetTree) (trail : List ℕ) (B : MapState) (k : ℕ) (y z : TokenTree) → get B.tokens k ≡ Some y → Walks net y trail z →
    IsNewestLive B k → IsNewestFirst net B (map (λ n. k) trail)
walk_newest net [] B k y z e w h = tt
walk_newest net (n ∷ trail) B k y z e (u, m, w) h = (
  h,
  λ C s.
      let D : MapState = record B { tokens = finmap.insert B.tokens k u } in
      let same : D ≡ C = go (sym (solo_step net B k n y u e m) ∙ s) in
      subst (λ C. IsNewestFirst net C (map (λ n. k) trail)) same
      (walk_newest net trail D k u z (put_here B.tokens k u) w (newest_stays B k u h)),
)
  where
    go : {A : Type 0} {x y : A} → Some x ≡ Some y → x ≡ y
    go h = cc

-- a token alone has grown
pub grows_begins : (net : NetTree) (x : TokenTree) → Grows net x [] (start_map_at x)
grows_begins net x = record { branched = map_begins net x; given = All-nil (λ k. k < 1); begun = omega arith; newest = tt }

-- a live ticket was given out
live_low : (net : NetTree) → Sound net → (x : TokenTree) → Occurs net x → (log : List ℕ) (B : MapState) → BranchedMap net x log B →
    (k : ℕ) → IsLive B k → k < B.next
live_low net sound x (l, S, i, led, here) log B b k live = go (get B.tokens k) refl live
  where
    go : (o : Option TokenTree) → get B.tokens k ≡ o → IsSome o → k < B.next
    go None e h = cc
    go (Some y) e h = map_low net sound l S led i x here log B b k y e

-- it goes on by a walk of its newest live ticket
pub grows_walk : (net : NetTree) → Sound net → (x : TokenTree) → Occurs net x → (log : List ℕ) (B C : MapState) (k most n : ℕ) →
    IsNewestLive B k → GoesAlone net B k most n C → Grows net x log B → Grows net x (log ++ replicate n k) C
grows_walk net sound x occurs log B C k most n newest alone grows =
    let tickets : replicate n k ≡ map (λ (m : ℕ). k) alone.trail = ap (λ n. replicate n k) (sym alone.many) ∙ tickets_are k alone.trail in
    let after : MapState = record B { tokens = finmap.insert B.tokens k alone.after } in
    let walked = map_walks net x log B k alone.trail alone.before alone.after grows.branched alone.live alone.walks in
    let low = live_low net sound x occurs log B grows.branched k newest.0 in
    let grown : Grows net x (log ++ map (λ (m : ℕ). k) alone.trail) after = record {
      branched = walked;
      given = subst (λ l. All (λ j. j < B.next) (log ++ l)) tickets
          (All-append (λ j. j < B.next) log (replicate n k) grows.given (All-replicate (λ j. j < B.next) n k low));
      begun = grows.begun;
      newest = newest_append net log (map (λ (m : ℕ). k) alone.trail) (start_map_at x) B grows.newest grows.branched.0
          (walk_newest net alone.trail B k alone.before alone.after alone.live alone.walks newest);
    } in
    subst (λ l. Grows net x (log ++ l) C) (sym tickets) (subst (Grows net x (log ++ map (λ (m : ℕ). k) alone.trail))
    (sym alone.state) grown)

-- and the ticket is the newest live one still
pub walk_keeps_newest : (net : NetTree) (B C : MapState) (k most n : ℕ) → IsNewestLive B k → GoesAlone net B k most n C → IsNewestLive C k
walk_keeps_newest net B C k most n h a = subst (λ C. IsNewestLive C k) (sym a.state) (newest_stays B k a.after h)

-- it goes on by a step of its own
pub grows_step : (net : NetTree) → Sound net → (x : TokenTree) → Occurs net x → (log : List ℕ) (B C : MapState) (k : ℕ) →
    IsNewestLive B k → StepsOwn net B k C → Grows net x log B → Grows net x (log ++ k ∷ []) C
grows_step net sound x occurs log B C k h (s, quiet) g =
    let up = step_rises net B C k s in
    let low = live_low net sound x occurs log B g.branched k h.0 in
    record {
      branched = map_steps net x log B C k g.branched s (quiet ∙ g.branched.1);
      given = All-append (λ j. j < C.next) log (k ∷ []) (below_more B.next C.next log up g.given)
          (All-replicate (λ j. j < C.next) 1 k (omega (arith, up, low)));
      begun = let b = g.begun in omega (arith, b, up);
      newest = newest_append net log (k ∷ []) (start_map_at x) B g.newest g.branched.0 (h, λ D e. tt);
    }

-- the newest live ticket's walk, written down
pub walks_on : (net : NetTree) → Sound net → (log log' : List ℕ) (B C : MapState) (k most n : ℕ) → IsNewestLive B k →
    GoesAlone net B k most n C → log' ≡ log ++ replicate n k → GrowsOn net log B log' C
walks_on net sound log log' B C k most n h a e x occurs g =
    subst (λ l. Grows net x l C) (sym e) (grows_walk net sound x occurs log B C k most n h a g)

-- its step, written down
pub acts_on : (net : NetTree) → Sound net → (log log' : List ℕ) (B C : MapState) (k : ℕ) (moved : Bool) → IsNewestLive B k → moved ≡ true →
    MatchBool moved (StepsOwn net B k C) (StandsForeign net B k × (C ≡ B)) → log' ≡ log ++ replicate 1 k → GrowsOn net log B log' C
acts_on net sound log log' B C k true h t m e x occurs g =
    subst (λ l. Grows net x l C) (sym e) (grows_step net sound x occurs log B C k h m g)
acts_on net sound log log' B C k false h t m e x occurs g = cc

-- a turn makes a move more, or ends
pub goes_on : {E : Type 0} (r : Result Bool E) (net : NetTree) (most : ℕ) (log log1 log2 : List ℕ) (C D : MapState) (k : ℕ) →
    length log ≤ length log1 → IsNewestLive C k →
    IfOk r (λ on. MatchBool on (length log2 ≡ length log1 + 1) ((log2 ≡ log1) × (D ≡ C) × StandsForeign net C k)) →
    IfOk r (λ on. MatchBool on (length log < length log2) (EndsTurn net most log2 D))
goes_on (Ok true) net most log log1 log2 C D k l h m = omega (arith, l, m)
goes_on (Ok false) net most log log1 log2 C D k l h (a, b, f) =
    inr (k, subst (λ D. IsNewestLive D k) (sym b) h, subst (λ D. StandsForeign net D k) (sym b) f)
goes_on (Err e) net most log log1 log2 C D k l h m = tt

-- a token that is alone is live under ticket 0
pub first_live : (x : TokenTree) (B : MapState) → B ≡ start_map_at x → IsSome (get B.tokens 0)
first_live x B e = subst (λ (B : MapState). IsSome (get B.tokens 0)) (sym e) (subst IsSome (sym (put_here finmap.empty 0 x)) refl)

-- the walk of a token alone, written down
pub walks_alone : (net : NetTree) (x : TokenTree) (most n : ℕ) (B C : MapState) (log log' : List ℕ) → B ≡ start_map_at x →
    GoesAlone net B 0 most n C → log ≡ [] → log' ≡ log ++ replicate n 0 → WalksAlone net x most log' C
walks_alone net x most n B C log log' b a0 empty is =
    let a = subst (λ B. GoesAlone net B 0 most n C) b a0 in
    let its = same_Some a.before x (sym a.live ∙ put_here finmap.empty 0 x) in
    let many = a.many in
    let few = a.few in
    record {
      after = a.after;
      trail = a.trail;
      walks = subst (λ x. Walks net x a.trail a.after) its a.walks;
      state = a.state;
      moves = is ∙ ap (λ l. l ++ replicate n 0) empty ∙ ap (λ n. replicate n 0) (sym many);
      within = omega (arith, many, few);
      ends = ⊎_elim (λ e. inl (many ∙ e)) inr a.ends;
    }

-- what has grown, as far as is asked, is a branch that was played so
pub grown_played : (net : NetTree) (x : TokenTree) → Occurs net x → (most : ℕ) (log : List ℕ) (B : MapState) → Grows net x log B →
    length log ≤ most → (length log ≡ most) ⊎ Stops net false B → PlayedSo net x most false log B
grown_played net x occurs most log B g within ends = (
  record { occurs = occurs; branched = g.branched; given = g.given; begun = g.begun; plain = λ h. cc },
  record { within = within; newest = g.newest; ends = ends },
)

-- and so is a walk of the token alone
pub walk_played : (net : NetTree) → Sound net → (x : TokenTree) → Occurs net x → (most : ℕ) (log : List ℕ) (B : MapState) →
    WalksAlone net x most log B → PlayedSo net x most true log B
walk_played net sound x occurs most log B w =
    let here : get (start_map_at x).tokens 0 ≡ Some x = put_here finmap.empty 0 x in
    let newest : IsNewestLive (start_map_at x) 0 = (
      subst IsSome (sym here) refl,
      λ j l. put_other finmap.empty 0 x j (λ e. omega (arith, l, e)) ∙ get-empty nat_cmp j,
    ) in
    let goes : GoesAlone net (start_map_at x) 0 most (length w.trail) B = record {
      before = x;
      after = w.after;
      trail = w.trail;
      live = here;
      walks = w.walks;
      many = refl;
      few = w.within;
      ends = w.ends;
      state = w.state;
    } in
    let g : Grows net x (replicate (length w.trail) 0) B =
    grows_walk net sound x occurs [] (start_map_at x) B 0 most (length w.trail) newest goes
    (grows_begins net x) in
    let grows = subst (λ l. Grows net x l B) (sym w.moves) g in
    let many : length log ≡ length w.trail = ap length w.moves ∙ length-replicate (length w.trail) 0 in
    let within = w.within in (
      record {
        occurs = occurs;
        branched = grows.branched;
        given = grows.given;
        begun = grows.begun;
        plain = λ h. (w.after, w.state, w.moves ∙ ap (λ n. replicate n 0) (sym many));
      },
      record {
        within = omega (arith, many, within);
        newest = grows.newest;
        ends = ⊎_elim (λ e. inl (many ∙ e)) (λ n. inr (inr (
          0,
          walk_keeps_newest net (start_map_at x) B 0 most (length w.trail) newest goes,
          inr (refl, (w.after, ap (λ (S : MapState). get S.tokens 0) w.state ∙ put_here (start_map_at x).tokens 0 w.after, n)),
        ))) w.ends;
      },
    )
  where
    length-replicate : (n k : ℕ) → length (replicate n k) ≡ n
    length-replicate zero k = refl
    length-replicate (suc n) k = ap suc (length-replicate n k)

-- a turn that is the last one
pub turn_ends : (net : NetTree) (most : ℕ) (old log : List ℕ) (B : MapState) (on : Bool) → on ≡ false →
    MatchBool on (length old < length log) (EndsTurn net most log B) → (length log ≡ most) ⊎ Stops net false B
turn_ends net most old log B true e m = cc
turn_ends net most old log B false e (inl m) = inl m
turn_ends net most old log B false e (inr (k, h, f)) = inr (inr (k, h, inl f))
