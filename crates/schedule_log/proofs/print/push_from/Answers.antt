use Rattle.std.proofs.Common.{◌++◌, ◌+◌, ◌∙◌, ap, sym, arith, drop}
use Rattle.schedule_log.specs.KeptRuns.{MovesSeen}
use Rattle.schedule_log.proofs.Spread.{each_at}
use Rattle.schedule_log.proofs.Printing.{unwritten, goes_on, ends_run, all_written, fewer}
use Rattle.schedule_log.proofs.print.push_from.Goals as goal
use Rattle.schedule_log.proofs.print.push_from.Goals.{then-ticket, else-ticket+in_ok-push_run}

pub loop-run-preserved : goal.loop-run-preserved
loop-run-preserved c =
    let d = c.run-item.result in
    let t = ap (λ (m : MovesSeen). m.ticket) c.run-item.is in
    let n = ap (λ (m : MovesSeen). m.count) c.run-item.is in
    let f = fewer c.args.rest.now c.loop-run.run-index d c.loop-run-test.true in
    elim c.if-ticket.branch [
      | then-ticket w ↦ record {
        some = omega (arith, w.count-is, c.loop-run.invariant.some);
        few = omega (arith, w.count-is, c.loop-run.invariant.few, f, n, w.count-count.ensures.value);
        text = (λ i. (w.text-is i).items ++ unwritten (w.ticket-is i) c.if-ticket.count
            (drop (c.loop-run.run-index + 1) c.args.rest.now))
            ∙ goes_on _ _ c.loop-run.ticket c.loop-run.count c.if-ticket.count c.loop-run.run-index c.args.rest.now d
            c.loop-run-test.true (sym t ∙ sym c.ticket.ensures ∙ w.if-ticket.true)
            (omega (arith, w.count-is, n, w.count-count.ensures.value)) c.loop-run.invariant.text;
      }
      | else-ticket+in_ok-push_run w ↦
          let e = (each_at c.args.rest.now c.loop-run.run-index d c.requires.each c.loop-run-test.true).0 in
          record {
            some = omega (arith, w.count-is, e, n, w.count-count-else-ticket.ensures.value);
            few = omega (arith, w.count-is, c.loop-run.invariant.few, f, n, w.count-count-else-ticket.ensures.value);
            text = (λ i. (w.text-is i).items ++ unwritten ((w.ticket-is ∙ w.ticket-ticket.ensures ∙ t) i)
                ((w.count-is ∙ w.count-count-else-ticket.ensures.value ∙ n) i) (drop (c.loop-run.run-index + 1) c.args.rest.now))
                ∙ ends_run _ _ _ _ _ _ _ d c.loop-run-test.true (λ g. w.if-ticket.false (c.ticket.ensures ∙ t ∙ g))
                c.loop-run.invariant.some c.requires.each w.in_ok-push_run.ensures c.loop-run.invariant.text;
          }
    ]

pub returns : goal.returns
returns c = all_written _ _ _ _ _ c.loop-run.run-index c.args.rest.now c.loop-run-test.false c.loop-run.invariant.some
    c.in_ok-push_last.ensures c.loop-run.invariant.text
