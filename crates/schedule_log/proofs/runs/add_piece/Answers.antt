use Rattle.std.proofs.Common.{◌≡◌, ◌≤◌, ◌++◌, ◌+◌, ◌-◌, ℕ, List, [], ◌∷◌, set, subst, sym, ap, ◌∙◌, arith}
use Rattle.std.specs.Prelude.{replicate}
use Rattle.schedule_log.specs.declared.entry.Entry.{Entry}
use Rattle.schedule_log.specs.KeptRuns.{MovesSeen, spread, Apart, Each, Fair}
use Rattle.schedule_log.specs.Logs.{tickets_in_log}
use Rattle.schedule_log.specs.LogsSeen.{Small}
use Rattle.schedule_log.proofs.Spread.{spread_more, grown, each_more, each_set, no_more_runs}
use Rattle.schedule_log.proofs.Kept.{apart_first, apart_more, apart_grown, small_more}
use Rattle.schedule_log.proofs.runs.add_piece.Goals as goal
use Rattle.schedule_log.proofs.runs.add_piece.Goals.{then-n-gt0+else-ticket, else-n-gt0}
use Rattle.schedule_log.proofs.runs.add_piece.Goals.{else-ticket-via-then-ticket+then-worker+else-has-lt-MOST_COUNT}
use Rattle.schedule_log.proofs.runs.add_piece.Goals.{else-ticket-via-then-ticket+else-worker, else-ticket-via-else-ticket}

piece : (n m : ℕ) → m ≤ n → m ≡ n - (n - m)
piece n m u = omega (arith, u)

pub returns-then-has-lt-MOST_COUNT-clause-moves : goal.returns-then-has-lt-MOST_COUNT-clause-moves
returns-then-has-lt-MOST_COUNT-clause-moves c =
    (λ j. spread (set c.args.runs.now.items (c.len-n.result - 1) ((c.new.ensures ∙ (λ i. record {
      ticket = c.args.ticket;
      worker = c.args.worker;
      count = c.count-has.ensures.value i + c.at_most-more.result;
    })) j)))
    ∙ grown c.args.runs.now.items (c.len-n.result - 1) c.index-last.result.now _ _ c.at_most-more.result c.index-last.ensures
    (sym c.ticket.ensures ∙ c.if-ticket.true) (sym c.worker.ensures.value ∙ c.if-worker.true)
    (omega (arith, c.len-n.ensures, c.args.runs.now.ok.0, c.if-n-gt0.true))
    ∙ ap (λ (n : ℕ). spread c.args.runs.now.items ++ replicate n
    (let e : Entry = record { ticket = c.args.ticket; worker = c.args.worker } in e))
    (piece c.args.count c.at_most-more.result c.at_most-more.ensures.first)

pub returns-then-has-lt-MOST_COUNT-clause-each : goal.returns-then-has-lt-MOST_COUNT-clause-each
returns-then-has-lt-MOST_COUNT-clause-each c =
    each_set c.args.runs.now.items (c.len-n.result - 1) c.new.result c.requires.each
    (subst Fair (sym c.new.ensures) (
      (omega (arith, c.at_most-more.ensures.some, c.requires.some, c.if-has-lt-MOST_COUNT.true)),
      (omega (arith, c.at_most-more.ensures.second, c.count-has.ensures.few)),
    ))

pub returns-then-has-lt-MOST_COUNT-clause-apart : goal.returns-then-has-lt-MOST_COUNT-clause-apart
returns-then-has-lt-MOST_COUNT-clause-apart c =
    subst (λ (r : MovesSeen). Apart (set c.args.runs.now.items (c.len-n.result - 1) r)) (sym c.new.ensures)
    (apart_grown c.args.runs.now.items (c.len-n.result - 1) c.index-last.result.now _ _ _ c.index-last.ensures
    (sym c.ticket.ensures ∙ c.if-ticket.true) (sym c.worker.ensures.value ∙ c.if-worker.true)
    (omega (arith, c.len-n.ensures, c.args.runs.now.ok.0, c.if-n-gt0.true)) c.requires.apart)

pub returns-then-has-lt-MOST_COUNT-clause-small : goal.returns-then-has-lt-MOST_COUNT-clause-small
returns-then-has-lt-MOST_COUNT-clause-small c =
    subst (λ (es : List Entry). Small (tickets_in_log es)) (sym (returns-then-has-lt-MOST_COUNT-clause-moves c))
    (small_more (spread c.args.runs.now.items) _ (record { ticket = c.args.ticket; worker = c.args.worker }) c.requires.small
    (let u = c.ranges.ticket.fits in omega (arith, u)))

pub push_reserved-requires : goal.push_reserved-requires
push_reserved-requires c =
    let a = no_more_runs c.args.runs.now.items c.requires.each in
    omega (arith, a, c.args.runs.now.ok.0, c.requires.some, c.requires.room)

pub returns-clause-moves : goal.returns-clause-moves
returns-clause-moves c =
    ap spread (c.push_reserved.ensures.items ∙ ap (λ (r : MovesSeen). c.args.runs.now.items ++ r ∷ []) c.new-2.ensures)
    ∙ spread_more c.args.runs.now.items (record { ticket = c.args.ticket; worker = c.args.worker; count = c.at_most-more-2.result })
    ∙ ap (λ (n : ℕ). spread c.args.runs.now.items ++ replicate n
    (let e : Entry = record { ticket = c.args.ticket; worker = c.args.worker } in e))
    (piece c.args.count c.at_most-more-2.result c.at_most-more-2.ensures.first)

pub returns-clause-each : goal.returns-clause-each
returns-clause-each c =
    subst Each (sym c.push_reserved.ensures.items)
    (each_more c.args.runs.now.items c.new-2.result c.requires.each
    (subst Fair (sym c.new-2.ensures) (
      (omega (arith, c.at_most-more-2.ensures.some, c.requires.some)),
      (omega (arith, c.at_most-more-2.ensures.second)),
    )))

pub returns-clause-apart : goal.returns-clause-apart
returns-clause-apart c = subst Apart (sym c.push_reserved.ensures.items) (elim c.if-n-gt0.branch [
  | then-n-gt0+else-ticket w ↦
      apart_more c.args.runs.now.items (c.len-n.result - 1) w.index-last.result.now c.new-2.result w.index-last.ensures
      (omega (arith, c.len-n.ensures, c.args.runs.now.ok.0, w.if-n-gt0.true))
      (λ m. elim w.else-ticket.branch [
        | else-ticket-via-then-ticket+then-worker+else-has-lt-MOST_COUNT v ↦
            omega (arith, v.if-has-lt-MOST_COUNT.false, w.count-has.ensures.value, w.count-has.ensures.few)
        | else-ticket-via-then-ticket+else-worker v ↦ absurd (v.if-worker.false (v.worker.ensures.value
            ∙ ap (λ (x : Entry). x.worker) m ∙ ap (λ (x : MovesSeen). x.worker) c.new-2.ensures))
        | else-ticket-via-else-ticket v ↦ absurd (v.if-ticket.false (w.ticket.ensures
            ∙ ap (λ (x : Entry). x.ticket) m ∙ ap (λ (x : MovesSeen). x.ticket) c.new-2.ensures))
      ]) c.requires.apart
  | else-n-gt0 w ↦ apart_first c.args.runs.now.items c.new-2.result
      (omega (arith, c.len-n.ensures, c.args.runs.now.ok.0, w.if-n-gt0.false))
])

pub returns-clause-small : goal.returns-clause-small
returns-clause-small c =
    subst (λ (es : List Entry). Small (tickets_in_log es)) (sym (returns-clause-moves c))
    (small_more (spread c.args.runs.now.items) _ (record { ticket = c.args.ticket; worker = c.args.worker }) c.requires.small
    (let u = c.ranges.ticket.fits in omega (arith, u)))
