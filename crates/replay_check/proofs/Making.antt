-- The moves of a log's runs, one run after the other.
use Rattle.std.proofs.Common.{◌≡◌, ℕ, suc, ◌+◌, ◌-◌, ◌<◌, ◌≤◌, List, ◌∷◌, ◌++◌, append_assoc, length, replicate, take, drop}
use Rattle.std.proofs.Common.{get_or, Some, None, Err, sym, ap, ◌∙◌, subst, arith}
use Rattle.std.specs.FinMap.{get}
use Rattle.std.proofs.lemmas.List.{length-append, length-replicate, replicate-append-replicate}
use Rattle.pcf_values.specs.Most.{most_moves, most_budget}
use Rattle.schedule_log.specs.declared.entry.Entry.{Entry}
use Rattle.schedule_log.specs.KeptRuns.{MovesSeen, spread}
use Rattle.schedule_log.specs.Logs.{tickets_in_log}
use Rattle.schedule_log.proofs.Counted.{take_within}
use Rattle.schedule_log.proofs.Holding.{longer}
use Rattle.schedule_log.proofs.RunByRun.{tickets_run_more, tickets_split_run}
use Rattle.schedule_log.proofs.Taken.{tickets_all}
use Rattle.net_build.specs.Nets.{NetTree}
use Rattle.interleave_laws.specs.Start.{start_of}
use Rattle.interleave_laws.specs.Maps.{MapState, run_map, start_map, LeadsToMap}
use Rattle.interleave_laws.proofs.MapLaws.{run_both}
use Rattle.replay_check.specs.declared.fault.ReplayFault.{ReplayFault}
use Rattle.replay_check.specs.declared.replayed.Replayed.{Replayed}
use Rattle.replay_check.specs.Replays.{IsRunOf, fault_at, ReplaysAs}
use Rattle.replay_check.proofs.OneReplay.{stops_as}

-- fewer of the same are the first of more, and one more and some follow
fewer_first : (n m t : ℕ) → n < m → replicate m t ≡ replicate n t ++ t ∷ replicate (m - suc n) t
fewer_first n m t u =
    let e : m ≡ n + suc (m - suc n) = omega (arith, u) in
    ap (λ k. replicate k t) e ∙ sym (replicate-append-replicate n (suc (m - suc n)) t)

module _ (net : NetTree) (rs : List MovesSeen) (i : ℕ) (d : MovesSeen) (inside : i < length rs) (S T : MapState)
    (led : LeadsToMap net (tickets_in_log (spread (take i rs))) S) where
  -- the run at the place, and the tickets before it
  abbrev it : MovesSeen
  it = get_or rs i d

  abbrev before : List ℕ
  before = tickets_in_log (spread (take i rs))

  -- its moves are some of all
  pub among : length (spread rs) ≤ most_moves → length (spread (take i rs)) + it.count ≤ most_moves
  among few = let a = longer rs i d inside in let b = take_within rs (i + 1) in omega (arith, few, a, b)

  -- and so they are within the budget
  pub room : length (spread rs) ≤ most_moves → length before + it.count ≤ most_budget
  room few = let a = tickets_all (spread (take i rs)) in let b = among few in omega (arith, a, b)

  -- so many of its moves lead on
  pub some_moved : (n : ℕ) → run_map net S (replicate n it.ticket) ≡ Some T → LeadsToMap net (before ++ replicate n it.ticket) T
  some_moved n h = run_both net before (replicate n it.ticket) (start_map (start_of net)) S T led h

  -- and so do all of them
  pub run_moved : (n : ℕ) → n ≡ it.count → run_map net S (replicate n it.ticket) ≡ Some T →
      LeadsToMap net (tickets_in_log (spread (take (i + 1) rs))) T
  run_moved n all h =
      subst (λ ts. LeadsToMap net ts T) (sym (tickets_run_more rs i d inside ∙ ap (λ n. before ++ replicate n it.ticket) (sym all)))
      (some_moved n h)

  -- A ticket that has no token behind some of its moves is where the list stops.
  pub stops_here : (n place : ℕ) (f : ReplayFault) → n < it.count → run_map net S (replicate n it.ticket) ≡ Some T →
      get T.tokens it.ticket ≡ None → place ≡ length (spread (take i rs)) + n → f ≡ fault_at T.answered place it.ticket →
      ReplaysAs net (tickets_in_log (spread rs)) (Err f)
  stops_here n place f fewer h dead at faulty =
      let t = it.ticket in
      let rest = replicate (it.count - suc n) t in
      let behind = tickets_in_log (spread (drop (suc i) rs)) in
      let a = tickets_all (spread (take i rs)) in
      let b = length-append before (replicate n t) in
      let c : length (replicate n t) ≡ n = length-replicate n t in
      let long : place ≡ length (before ++ replicate n t) = omega (arith, at, a, b, c) in
      stops_as net (tickets_in_log (spread rs)) f (record {
        before = before ++ replicate n t;
        ticket = t;
        rest = rest ++ behind;
        are = tickets_split_run rs i d inside
            ∙ ap (λ l. before ++ (l ++ behind)) (fewer_first n it.count t fewer)
            ∙ ap (λ l. before ++ l) (append_assoc (replicate n t) (t ∷ rest) behind)
            ∙ sym (append_assoc before (replicate n t) (t ∷ (rest ++ behind)));
        state = T;
        led = some_moved n h;
        dead = dead;
        fault = faulty ∙ ap (λ p. fault_at T.answered p t) long;
      })

-- All moves are made.
pub all_moved : (net : NetTree) (es : List Entry) (S : MapState) (r : Replayed) → LeadsToMap net (tickets_in_log es) S →
    r.answer ≡ S.answered → r.moves ≡ length es →
    IsRunOf net (tickets_in_log es) r
all_moved net es S r h a m = record { state = S; led = h; answer = a; moves = m ∙ sym (tickets_all es) }
