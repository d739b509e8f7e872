-- A round, ticket by ticket.
-- Each ticket that was live when the round began has its token until it moves, and no other ticket below the next one of then gets any. So
-- the live tickets from the first that hasn't moved are those of the list, up to the tickets that forks gave out in the round.
use Rattle.std.proofs.Common.{◌≡◌, ℕ, suc, ◌+◌, ◌-◌, ◌<◌, ◌≤◌, List, [], ◌∷◌, ◌++◌, length, Option, Some, None, refl, sym, ap, ◌∙◌}
use Rattle.std.proofs.Common.{subst, arith}
use Rattle.std.specs.Option.{MatchOption}
use Rattle.std.specs.FinMap.{get}
use Rattle.std.proofs.lemmas.List.{append_assoc, append-nil, length-append}
use Rattle.pcf_values.specs.Most.{most_budget}
use Rattle.pcf_values.specs.declared.val.Val.{Val}
use Rattle.pcf_values.specs.declared.operator.Operator.{Operator}
use Rattle.pcf_values.specs.declared.side.Side.{Side}
use Rattle.token_stacks.specs.Signatures.{Boxes}
use Rattle.fork_join.specs.Entries.{Entry, pending, has_left, has_right}
use Rattle.net_build.specs.Nets.{NetTree}
use Rattle.move_rules.specs.Places.{Place, TokenTree}
use Rattle.move_rules.specs.Moves.{Move, solo, fork, join, answer, stay, move}
use Rattle.interleave_laws.specs.Start.{start_of}
use Rattle.interleave_laws.specs.States.{other, State, step_on, act, fork_on, last_on, join_on}
use Rattle.interleave_laws.specs.Maps.{MapState, start_map, step_map, then_run_map, run_map, LeadsToMap, seen}
use Rattle.interleave_laws.specs.MapRuns.{IsReachedWithin, option_seen}
use Rattle.interleave_laws.specs.Tickets.{IsLive, NoneLive, IsLeastLive, NoneLiveAbove, IsNextLive}
use Rattle.interleave_laws.proofs.Going.{the_some}
use Rattle.interleave_laws.proofs.MapLaws.{run_both}
use Rattle.interleave_laws.proofs.Others.{step_leaves}
use Rattle.interleave_laws.proofs.Seen.{step_seen}
use Rattle.round_laws.specs.Rounds.{live_from, live_of}
use Rattle.round_runs.proofs.Heading.{first_live, none_from}

-- of equal states
higher : (S U T : State) → S.next ≤ U.next → Some U ≡ Some T → S.next ≤ T.next
higher S U T l h = let q : U ≡ T = cc in subst (λ (T : State). S.next ≤ T.next) q l

last_higher : (o : Option Val) (S T : State) (i n w : ℕ) (t : Boxes) → last_on o S i n w t ≡ Some T → S.next ≤ T.next
last_higher None S T i n w t h = cc
last_higher (Some u) S T i n w t h = higher S _ T (omega arith) h

join_higher : (o : Option Entry) (S T : State) (i n : ℕ) (op : Operator) (d : Side) (v : Val) (w : ℕ) (t : Boxes) →
    join_on o S i n op d v w t ≡ Some T → S.next ≤ T.next
join_higher None S T i n op d v w t h = cc
join_higher (Some pending) S T i n op d v w t h = higher S _ T (omega arith) h
join_higher (Some (has_left u)) S T i n op d v w t h = last_higher (other op (has_left u) d v) S T i n w t h
join_higher (Some (has_right u)) S T i n op d v w t h = last_higher (other op (has_right u) d v) S T i n w t h

fork_higher : (o : Option Entry) (S T : State) (i n : ℕ) (l r : Place) (t : Boxes) → fork_on o S i n l r t ≡ Some T → S.next ≤ T.next
fork_higher None S T i n l r t h = higher S _ T (omega arith) h
fork_higher (Some y) S T i n l r t h = cc

act_higher : (m : Move) (S T : State) (i : ℕ) → act m S i ≡ Some T → S.next ≤ T.next
act_higher (solo n x) S T i h = higher S _ T (omega arith) h
act_higher (fork n l r t) S T i h = fork_higher (S.entries n t) S T i n l r t h
act_higher (join n o s v w t) S T i h = join_higher (S.entries n t) S T i n o s v w t h
act_higher (answer v) S T i h = higher S _ T (omega arith) h
act_higher stay S T i h = cc

-- a step takes no ticket back
step_higher : (net : NetTree) (o : Option TokenTree) (S T : State) (i : ℕ) → step_on net o S i ≡ Some T → S.next ≤ T.next
step_higher net None S T i h = cc
step_higher net (Some x) S T i h = act_higher (move net x) S T i h

-- no ticket from this one on is live
abbrev pub NoneFrom : MapState → ℕ → Type 0
NoneFrom S from = (j : ℕ) → from ≤ j → get S.tokens j ≡ None

-- the first ticket from this one on that is live
abbrev pub FirstFrom : MapState → ℕ → ℕ → Type 0
FirstFrom S from t = (from ≤ t) × IsLive S t × ((j : ℕ) → from ≤ j → j < t → get S.tokens j ≡ None)

-- what is so in the midst of a round that began in S, with T reached and the ticket whose turn it is
pub record Midst (net : NetTree) (S T : MapState) (begun log : List ℕ) (next : Option ℕ) : Type 0 where
  -- these tickets have moved, and all below this one are among them
  pub moved : List ℕ
  pub from : ℕ
  pub runs : run_map net S moved ≡ Some T
  pub so_far : log ≡ begun ++ moved
  pub left : moved ++ live_from (seen S).tokens from (S.next - from) ≡ live_of (seen S)
  pub same : (j : ℕ) → from ≤ j → j < S.next → get T.tokens j ≡ get S.tokens j
  pub higher : S.next ≤ T.next
  pub turn : MatchOption next (NoneFrom T from) (FirstFrom T from)

-- how much is left of the round
abbrev pub left_of : MapState → Option ℕ → ℕ
left_of S None = 0
left_of S (Some t) = suc (S.next - t)

-- at its beginning
pub midst_begins : (net : NetTree) (S : MapState) (begun : List ℕ) (o : Option ℕ) → MatchOption o (NoneLive S) (IsLeastLive S) →
    Midst net S S begun begun o
midst_begins net S begun o m =
    let all : S.next - 0 ≡ S.next = omega arith in
    record {
      moved = [];
      from = 0;
      runs = refl;
      so_far = sym (append-nil begun);
      left = ap (live_from (seen S).tokens 0) all;
      same = λ j l b. refl;
      higher = omega arith;
      turn = first o m;
    }
  where
    first : (o : Option ℕ) → MatchOption o (NoneLive S) (IsLeastLive S) → MatchOption o (NoneFrom S 0) (FirstFrom S 0)
    first None m = λ j l. m j
    first (Some t) m = (omega arith, m.0, λ j l b. m.1 j b)

module _ (net : NetTree) (S T : MapState) (begun log : List ℕ) where
  -- where no ticket below the next one of the beginning has its turn, all have moved
  all_moved : (o : Option ℕ) (m : Midst net S T begun log o) → ((j : ℕ) → m.from ≤ j → j < S.next → get T.tokens j ≡ None) →
      m.moved ≡ live_of (seen S)
  all_moved o m dead =
      let rest = none_from (seen S).tokens S.next m.from (λ j l b. sym (m.same j l b) ∙ dead j l b) in
      sym (append-nil m.moved) ∙ ap (λ l. m.moved ++ l) (sym rest) ∙ m.left

  -- at its end
  ends : (o : Option ℕ) (m : Midst net S T begun log o) → m.moved ≡ live_of (seen S) →
      (run_map net S (live_of (seen S)) ≡ Some T) × (log ≡ begun ++ live_of (seen S))
  ends o m e = (ap (run_map net S) (sym e) ∙ m.runs, m.so_far ∙ ap (λ l. begun ++ l) e)

  pub none_ends : Midst net S T begun log None → (run_map net S (live_of (seen S)) ≡ Some T) × (log ≡ begun ++ live_of (seen S))
  none_ends m = ends None m (all_moved None m (λ j l b. m.turn j l))

  pub new_ends : (t : ℕ) → S.next ≤ t → Midst net S T begun log (Some t) →
      (run_map net S (live_of (seen S)) ≡ Some T) × (log ≡ begun ++ live_of (seen S))
  new_ends t new m = ends (Some t) m (all_moved (Some t) m (λ j l b. m.turn.2 j l (omega (arith, new, b))))

module _ (net : NetTree) (S T : MapState) (begun log : List ℕ) (t : ℕ) (led : LeadsToMap net begun S)
    (room : length begun + length (live_of (seen S)) ≤ most_budget) (old : t < S.next) (m : Midst net S T begun log (Some t)) where
  -- the ticket whose turn it is is live, and the next of the list
  token : (x : TokenTree) × (get T.tokens t ≡ Some x)
  token = the_some (get T.tokens t) m.turn.1

  rest : live_from (seen S).tokens m.from (S.next - m.from) ≡ t ∷ live_from (seen S).tokens (suc t) (S.next - suc t)
  rest = first_live (seen S).tokens S.next m.from t token.0 (sym (m.same t m.turn.0 old) ∙ token.1) m.turn.0 old
      (λ j l b. sym (m.same j l (omega (arith, old, b))) ∙ m.turn.2 j l b)

  whole : m.moved ++ t ∷ live_from (seen S).tokens (suc t) (S.next - suc t) ≡ live_of (seen S)
  whole = ap (λ l. m.moved ++ l) (sym rest) ∙ m.left

  -- fewer moves than most were made
  pub is_reached : IsReachedWithin net most_budget T
  is_reached =
      let a = length-append begun m.moved in
      let b = length-append m.moved (t ∷ live_from (seen S).tokens (suc t) (S.next - suc t)) in
      let c = ap length whole in
      (begun ++ m.moved, run_both net begun m.moved (start_map (start_of net)) S T led m.runs, omega (arith, a, b, c, room))

  -- after its step
  pub goes_on : (U : MapState) (new : List ℕ) (o : Option ℕ) → step_map net T t ≡ Some U → new ≡ log ++ t ∷ [] →
      MatchOption o (NoneLiveAbove U t) (IsNextLive U t) → Midst net S U begun new o
  goes_on U new o s e n =
      let s' = sym (step_seen net T t) ∙ ap option_seen s in
      let leaves = step_leaves net (get T.tokens t) (seen T) (seen U) t s' in
      let l = step_higher net (get T.tokens t) (seen T) (seen U) t s' in
      let high = m.higher in
      record {
        moved = m.moved ++ t ∷ [];
        from = suc t;
        runs = run_both net m.moved (t ∷ []) S T U m.runs (ap (λ o. then_run_map o (λ S. Some S)) s);
        so_far = e ∙ ap (λ l. l ++ t ∷ []) m.so_far ∙ append_assoc begun m.moved (t ∷ []);
        left = append_assoc m.moved (t ∷ []) (live_from (seen S).tokens (suc t) (S.next - suc t)) ∙ whole;
        same = λ j a b. leaves j (λ q. omega (arith, a, q)) (λ q. omega (arith, b, q, high)) ∙
            m.same j (let c = m.turn.0 in omega (arith, a, c)) b;
        higher = omega (arith, high, l);
        turn = next o n;
      }
    where
      next : (o : Option ℕ) → MatchOption o (NoneLiveAbove U t) (IsNextLive U t) → MatchOption o (NoneFrom U (suc t)) (FirstFrom U (suc t))
      next None n = λ j a. n j (omega (arith, a))
      next (Some u) n = (let c = n.0 in omega (arith, c), n.1, λ j a b. n.2 j (omega (arith, a)) b)

-- less of the round is left
pub less_left : (S T : MapState) (t : ℕ) (o : Option ℕ) → t < S.next → MatchOption o (NoneLiveAbove T t) (IsNextLive T t) →
    left_of S o < left_of S (Some t)
less_left S T t None old n = omega arith
less_left S T t (Some u) old n = let a = n.0 in omega (arith, a, old)
