-- Rounds are a schedule that leaves no processor idle, however many there are. And p processors that take the p least live tickets, or all
-- where there are fewer, leave none idle.
use Rattle.std.proofs.Common.{◌≡◌, ◌≤◌, ℕ, zero, suc, List, [], ◌∷◌, ◌++◌, length, Option, Some, None, refl, sym, ap, ◌∙◌, subst}
use Rattle.std.proofs.Common.{⊎_elim, inl, inr, arith}
use Rattle.std.specs.Prelude.{take}
use Rattle.std.proofs.lemmas.Bool.{cases_lt}
use Rattle.std.proofs.lemmas.List.{take_all, length-take-le}
use Rattle.net_build.specs.Nets.{NetTree}
use Rattle.interleave_laws.specs.Start.{start_of}
use Rattle.interleave_laws.specs.States.{State, start, run}
use Rattle.interleave_laws.specs.Runs.{Runs, LeadsTo}
use Rattle.interleave_laws.specs.Asked.{Member, Once}
use Rattle.round_laws.specs.Rounds.{live_of, round, log_on, log_from, round_log, units_on, units_from, round_units}
use Rattle.round_laws.specs.Units.{IsUnit, InState, AreUnits, joined, NoneIdle, AtMost, IsProcessorsSchedule, LeavesNoneIdle}
use Rattle.round_laws.proofs.Rounding.{live_whole, unit_runs, round_runs}
use Rattle.interleave_laws.proofs.Running.{run_on}

-- what holds of the state behind holds in the state, where there is one
in_round : (o : Option State) (T : State) (P : State → Type 0) → o ≡ Some T → P T → InState o P
in_round None T P e h = absurd cc
in_round (Some S) T P e h = let q : S ≡ T = cc in subst P (sym q) h

module _ (net : NetTree) (runs : Runs net) (p : ℕ) where
  -- k rounds from a state on are a schedule that leaves none idle, of k units, whose tickets are the log of the rounds
  schedule_from : (k : ℕ) (log : List ℕ) (S : State) → LeadsTo net log S → AreUnits (NoneIdle p) net S (units_from net k S) ×
      (joined (units_from net k S) ≡ log_from net k S) × (length (units_from net k S) ≡ k)
  schedule_from zero log S h = (tt, refl, refl)
  schedule_from (suc k) log S h =
      let (T, r) = round_runs net runs log S h in
      let (a, b, c) = schedule_from k (log ++ live_of S) T (run_on net log (live_of S) _ S T h r) in
      let (u, w) = live_whole net runs.sound log S h in
      let units : units_on (round net S) (λ T. units_from net k T) ≡ units_from net k T =
      ap (λ o. units_on o (λ T. units_from net k T)) r in
      let logs : log_on (round net S) (λ T. log_from net k T) ≡ log_from net k T = ap (λ o. log_on o (λ T. log_from net k T)) r in
      let rest : AreUnits (NoneIdle p) net T (units_on (round net S) (λ T. units_from net k T)) =
      subst (AreUnits (NoneIdle p) net T) (sym units) a in (
        (u, inl w, in_round (round net S) T (λ T. AreUnits (NoneIdle p) net T (units_on (round net S) (λ T. units_from net k T))) r rest),
        ap (λ l. live_of S ++ joined l) units ∙ ap (λ l. live_of S ++ l) b ∙ ap (λ l. live_of S ++ l) (sym logs),
        ap (λ l. suc (length l)) units ∙ ap suc c,
      )

-- a member of the first entries is one of the list
member_take : (n : ℕ) (l : List ℕ) (i : ℕ) → Member i (take n l) → Member i l
member_take zero l i h = absurd h
member_take (suc n) [] i h = absurd h
member_take (suc n) (j ∷ l) i (inl q) = inl q
member_take (suc n) (j ∷ l) i (inr h) = inr (member_take n l i h)

-- what stands once in a list stands once among its first entries
once_take : (n : ℕ) (l : List ℕ) → Once l → Once (take n l)
once_take zero l o = tt
once_take (suc n) [] o = tt
once_take (suc n) (i ∷ l) o = (λ m. o.0 (member_take n l i m), once_take n l o.1)

module _ (net : NetTree) (runs : Runs net) (p : ℕ) where
  -- the p least live tickets are a unit of p at most, which leaves no processor idle
  least_unit : (log : List ℕ) (S : State) → LeadsTo net log S → IsUnit S (take p (live_of S)) × AtMost p S (take p (live_of S)) ×
      NoneIdle p S (take p (live_of S))
  least_unit log S h =
      let (u, w) = live_whole net runs.sound log S h in
      let unit : IsUnit S (take p (live_of S)) = record {
        live = λ i m. u.live i (member_take p (live_of S) i m);
        once = once_take p (live_of S) u.once;
      } in
      ⊎_elim
      (λ below.
      let few : length (live_of S) ≤ p = omega (arith, below) in
      let all = take_all p (live_of S) few in
      (unit, subst (λ l. length l ≤ p) (sym all) few, inl (λ i live. subst (Member i) (sym all) (w i live))))
      (λ many.
      let long = length-take-le p (live_of S) many in
      (unit, omega (arith, long), inr (omega (arith, long)))) (cases_lt (length (live_of S)) p)

  -- units of p processors from a state on
  processors_from : (k : ℕ) (log : List ℕ) (S : State) → LeadsTo net log S → (ls : List (List ℕ)) × AreUnits (AtMost p) net S ls ×
      AreUnits (NoneIdle p) net S ls × (length ls ≡ k) × ((T : State) × (run net S (joined ls) ≡ Some T))
  processors_from zero log S h = ([], tt, tt, refl, (S, refl))
  processors_from (suc k) log S h =
      let l = take p (live_of S) in
      let (u, few, busy) = least_unit log S h in
      let (T, r) = unit_runs net runs l log S h u in
      let (ls, a, b, c, (U, g)) = processors_from k (log ++ l) T (run_on net log l _ S T h r) in (
        l ∷ ls,
        (u, few, in_round (run net S l) T (λ T. AreUnits (AtMost p) net T ls) r a),
        (u, busy, in_round (run net S l) T (λ T. AreUnits (NoneIdle p) net T ls) r b),
        ap suc c,
        (U, run_on net l (joined ls) S T U r g),
      )

pub processors_can : (net : NetTree) → Runs net → (p k : ℕ) → (ls : List (List ℕ)) × IsProcessorsSchedule p net ls ×
    LeavesNoneIdle p net ls × (length ls ≡ k) × ((S : State) × LeadsTo net (joined ls) S)
processors_can net runs p k = processors_from net runs p k [] (start (start_of net)) refl

pub rounds_schedule : (net : NetTree) → Runs net → (p k : ℕ) → LeavesNoneIdle p net (round_units net k) ×
    (joined (round_units net k) ≡ round_log net k) × (length (round_units net k) ≡ k)
rounds_schedule net runs p k = schedule_from net runs p k [] (start (start_of net)) refl
