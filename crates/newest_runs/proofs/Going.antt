-- One move more with the newest question first.
use Rattle.std.proofs.Common.{◌≡◌, ℕ, zero, suc, ◌+◌, ◌-◌, ◌<◌, ◌≤◌, Bool, true, false, cond, [], ◌∷◌, ◌++◌, length}
use Rattle.std.proofs.Common.{Option, Some, None, refl, sym, ap, ◌∙◌, subst, ⊎_elim, arith}
use Rattle.std.proofs.lemmas.Bool.{cases_lt, eq-eqb}
use Rattle.std.proofs.lemmas.List.{length-append}
use Rattle.std.specs.FinMap.{get}
use Rattle.std.specs.Option.{IsSome, option_map}
use Rattle.std.proofs.lemmas.Option.{same_Some, none-some}
use Rattle.pcf_values.specs.Most.{most_budget}
use Rattle.net_build.specs.Nets.{NetTree}
use Rattle.move_rules.specs.Places.{TokenTree}
use Rattle.move_rules.specs.Moves.{move}
use Rattle.interleave_laws.specs.Start.{start_of}
use Rattle.interleave_laws.specs.States.{State}
use Rattle.interleave_laws.specs.Finished.{Finished}
use Rattle.interleave_laws.specs.Runs.{Runs}
use Rattle.interleave_laws.specs.Maps.{MapState, start_map, step_map, run_map, then_run_map, LeadsToMap, seen}
use Rattle.interleave_laws.specs.MapRuns.{IsReachedWithin}
use Rattle.interleave_laws.specs.Tickets.{IsLive}
use Rattle.interleave_laws.proofs.Seen.{start_seen}
use Rattle.interleave_laws.proofs.MapLaws.{seen_leads, run_both}
use Rattle.adequacy_laws.specs.FinishedLaws.{TellsLength}
use Rattle.adequacy_laws.proofs.Finishing.{map_finished_tells}
use Rattle.interleave_core.specs.declared.stepped.Stepped.{Stepped}
use Rattle.interleave_core.specs.Names.{step_name, name_on, name_of}
use Rattle.net_rows.specs.RowMoves.{by_rows}
use Rattle.newest_core.specs.Processor.{Registers, does, counted, tick_on, tick, ticks, reset, on_live, fired, newest, token_at}
use Rattle.newest_core.specs.Processor.{waiting_at}
use Rattle.newest_core.specs.ProcessorLaws.{Shows, Follows}
use Rattle.newest_core.proofs.Processor.{tick_last, follows, row_moves, forks_nest}
use Rattle.newest_core.proofs.Schedule.{is_stack}
use Rattle.newest_runs.specs.declared.turn.Turn.{Turn}
use Rattle.newest_runs.specs.Order.{newest_first}
use Rattle.newest_runs.specs.Moving.{GoesOn, IsTurn, IsMoved}
use Rattle.newest_runs.proofs.Turns.{does_turn}

-- nothing has moved yet
pub moved_none : (net : NetTree) (w : Turn) → w.ticket ≡ Some 0 → w.waiting.items ≡ [] → IsMoved net (start_map (start_of net)) w 0
moved_none net w t f = record {
  leads = refl;
  made = refl;
  shows = subst (Shows (reset net)) (sym (start_seen (start_of net)))
      (record { tokens = λ j. refl; entries = λ n t. refl; next = refl; answered = refl });
  turn = record { ticket = t; waiting = f };
}

-- without a current token nothing moves
tick_rest : (net : NetTree) (R : Registers) → R.live ≡ None → (tick net R).live ≡ None
tick_rest net R e = go R.full R.live e
  where
    go : (b : Bool) (c : Option (ℕ × TokenTree)) → c ≡ None → (cond b R (tick_on net c R)).live ≡ None
    go true c h = e
    go false None h = e
    go false (Some c) h = absurd cc

ticks_rest : (net : NetTree) (k : ℕ) (R : Registers) → R.live ≡ None → (ticks net k R).live ≡ None
ticks_rest net zero R e = e
ticks_rest net (suc k) R e = ticks_rest net k (tick net R) (tick_rest net R e)

fires_none : (net : NetTree) (k : ℕ) (R : Registers) → R.live ≡ None → fired net k R ≡ []
fires_none net zero R e = refl
fires_none net (suc k) R e = ap (λ c. on_live c (fired net k (tick net R))) e

-- nothing is behind a moment without one
fired_idle : (net : NetTree) (k d : ℕ) (R : Registers) → (ticks net k R).live ≡ None → fired net (k + d) R ≡ fired net k R
fired_idle net zero d R e = ap (λ n. fired net n R) {y = d} (omega arith) ∙ fires_none net d R e
fired_idle net (suc k) d R e =
    ap (λ n. fired net n R) {y = suc (k + d)} (omega arith) ∙ ap (on_live R.live) (fired_idle net k d (tick net R) e)

-- and else the current ticket is
fired_last : (net : NetTree) (k : ℕ) (R : Registers) (i : ℕ) (x : TokenTree) → (ticks net k R).live ≡ Some (i, x) →
    fired net (suc k) R ≡ fired net k R ++ i ∷ []
fired_last net zero R i x e = ap (λ c. on_live c []) e
fired_last net (suc k) R i x e = go R.live refl (fired_last net k (tick net R) i x e)
  where
    go : (c : Option (ℕ × TokenTree)) → R.live ≡ c →
        fired net (suc k) (tick net R) ≡ fired net k (tick net R) ++ i ∷ [] →
        on_live c (fired net (suc k) (tick net R)) ≡ on_live c (fired net k (tick net R)) ++ i ∷ []
    go None live ih =
        absurd (none-some (i, x) (sym (ticks_rest net (suc k) R live) ∙ e))
    go (Some c) live ih = ap (λ l. c.0 ∷ l) ih

-- the log of the order is finished within its budget
pub newest_finished : (net : NetTree) → Runs net → (budget : ℕ) (S : MapState) → LeadsToMap net (newest_first net budget) S →
    Finished S.answered (newest_first net budget) budget
newest_finished net runs budget S leads =
    let f : Follows net budget = follows net runs budget in
    let same = is_stack net runs budget in
    let led : LeadsToMap net (newest net budget) S = subst (λ l. LeadsToMap net l S) (sym same) leads in
    let is : f.state ≡ seen S = same_Some f.state (seen S) (sym f.leads ∙ seen_leads net (newest net budget) S led) in
    subst (λ l. Finished S.answered l budget) same
    (f.finished.0, λ e. f.finished.1 (ap (λ (S : State). S.answered) is ∙ e))

module _ (net : NetTree) (runs : Runs net) (S : MapState) (w : Turn) (moves : ℕ) (was : IsMoved net S w moves) where
  -- the registers behind as many ticks
  abbrev R : Registers
  R = ticks net moves (reset net)

  -- the current token
  current : (i : ℕ) → w.ticket ≡ Some i → (x : TokenTree) × (R.live ≡ Some (i, x))
  current i e = go R.live refl (sym was.turn.ticket ∙ e)
    where
      go : (c : Option (ℕ × TokenTree)) → R.live ≡ c → option_map (λ (c : ℕ × TokenTree). c.0) c ≡ Some i →
          (x : TokenTree) × (R.live ≡ Some (i, x))
      go None live h = absurd cc
      go (Some c) live h = (c.1, live ∙ ap (λ j. Some (j, c.1)) (same_Some c.0 i h))

  -- is that of the state
  its_token : (i : ℕ) (x : TokenTree) → R.live ≡ Some (i, x) → get S.tokens i ≡ Some x
  its_token i x live =
      was.shows.tokens i ∙ ap (λ c. token_at c R.forks i) live ∙ ap (λ b. cond b (Some x) (waiting_at R.forks i)) (eq-eqb i i refl)

  -- and may move
  pub may_move : (i : ℕ) → w.ticket ≡ Some i → IsLive S i
  may_move i e = let (x, live) = current i e in subst IsSome (sym (its_token i x live)) refl

  pub is_reached : moves < most_budget → IsReachedWithin net most_budget S
  is_reached l = let m = was.made in (newest net moves, was.leads, omega (arith, l, m))

  -- a tick is the move of the current token
  ticks_to : (i : ℕ) (x : TokenTree) → R.live ≡ Some (i, x) →
      ticks net (suc moves) (reset net) ≡ does (by_rows net x) i (counted R)
  ticks_to i x live =
      tick_last net moves (reset net) ∙ ap (λ b. cond b R (tick_on net R.live R)) (follows net runs moves).ready ∙
      ap (λ c. tick_on net c R) live

  -- the log is one longer
  pub fires : (i : ℕ) → w.ticket ≡ Some i → newest net (suc moves) ≡ newest net moves ++ i ∷ []
  fires i e = let (x, live) = current i e in fired_last net moves (reset net) i x live

  -- what the step does the tick does
  module _ (i : ℕ) (s : Stepped) (T : MapState) (v : Turn) (e : w.ticket ≡ Some i) (steps : step_map net S i ≡ Some T)
      (name : step_name net S i ≡ Some s) (on : GoesOn s w v) where
    turn_next : IsTurn (ticks net (suc moves) (reset net)) v
    turn_next =
        let (x, live) = current i e in
        let row : move net x ≡ by_rows net x = row_moves net runs moves i x live in
        let counts : IsTurn (counted R) w = record { ticket = was.turn.ticket; waiting = was.turn.waiting } in
        subst (λ R. IsTurn R v) (sym (ticks_to i x live))
        (does_turn S i x (counted R) live w v counts (by_rows net x) s was.shows.next was.shows.entries
        (λ n o d y b t h. forks_nest net runs moves i x live n o d y b t (row ∙ h))
        (ap (λ m. name_of m S) (sym row) ∙ ap (λ o. name_on net o S) (sym (its_token i x live)) ∙ name) on)

    leads_next : LeadsToMap net (newest net (suc moves)) T
    leads_next =
        let one_step : run_map net S (i ∷ []) ≡ Some T = ap (λ o. then_run_map o (λ S. Some S)) steps in
        subst (λ l. LeadsToMap net l T) (sym (fires i e))
        (run_both net (newest net moves) (i ∷ []) (start_map (start_of net)) S T was.leads one_step)

    shows_next : Shows (ticks net (suc moves) (reset net)) (seen T)
    shows_next =
        let f : Follows net (suc moves) = follows net runs (suc moves) in
        subst (Shows (ticks net (suc moves) (reset net)))
        (same_Some f.state (seen T) (sym f.leads ∙ seen_leads net (newest net (suc moves)) T leads_next)) f.shows

    -- by whatever number it is told
    pub moved_more : (m : ℕ) → m ≡ suc moves → IsMoved net T v m
    moved_more m is =
        let long = length-append (newest net moves) (i ∷ []) in
        let before = was.made in
        let now = ap length (fires i e) in
        subst (IsMoved net T v) (sym is)
        (record { leads = leads_next; made = omega (arith, long, before, now); shows = shows_next; turn = turn_next })

  -- the run is over at the budget
  pub spent : (budget : ℕ) → moves ≤ budget → (moves < budget → ⊥) → newest net moves ≡ newest net budget
  spent budget few more = ap (newest net) (⊎_elim (λ l. absurd (more l)) (λ l. omega (arith, few, l)) (cases_lt moves budget))

  -- and where no ticket is left
  pub over : (budget : ℕ) → moves ≤ budget → w.ticket ≡ None → newest net moves ≡ newest net budget
  over budget few none =
      sym (fired_idle net moves (budget - moves) (reset net) idle) ∙ ap (newest net) (omega (arith, few))
    where
      idle : R.live ≡ None
      idle = go R.live refl (sym was.turn.ticket ∙ none)
        where
          go : (c : Option (ℕ × TokenTree)) → R.live ≡ c → option_map (λ (c : ℕ × TokenTree). c.0) c ≡ None → R.live ≡ None
          go None live h = live
          go (Some c) live h = absurd cc

  -- then they are those of the order
  order : (budget : ℕ) → newest net moves ≡ newest net budget → newest net moves ≡ newest_first net budget
  order budget same = same ∙ is_stack net runs budget

  -- it leads to the state, and what it answers tells the length
  pub led_to : (budget : ℕ) → newest net moves ≡ newest net budget → LeadsToMap net (newest_first net budget) S
  led_to budget same = subst (λ l. LeadsToMap net l S) (order budget same) was.leads

  pub long : (budget : ℕ) → newest net moves ≡ newest net budget → moves ≡ length (newest_first net budget)
  long budget same = sym was.made ∙ ap length (order budget same)

  pub tells : (budget : ℕ) → newest net moves ≡ newest net budget → TellsLength net (newest_first net budget) S.answered budget
  tells budget same =
      let leads = led_to budget same in
      map_finished_tells net runs.sound (newest_first net budget) S leads budget (newest_finished net runs budget S leads)
