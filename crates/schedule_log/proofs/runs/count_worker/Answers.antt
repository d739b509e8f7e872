use Rattle.std.proofs.Common.{sym, ap, ◌∙◌, arith}
use Rattle.schedule_log.specs.KeptRuns.{MovesSeen}
use Rattle.schedule_log.proofs.Counted.{counts_it, passes_it, count_fits}
use Rattle.schedule_log.proofs.runs.count_worker.Goals as goal
use Rattle.schedule_log.proofs.runs.count_worker.Goals.{then-worker, else-worker}

pub overflow_add-count : goal.overflow_add-count
overflow_add-count c =
    let e = ap (λ (m : MovesSeen). m.worker) c.run-item.is in
    let f = ap (λ (m : MovesSeen). m.count) c.run-item.is in
    let a = count_fits c.args.runs.now c.loop-run.run-index c.run-item.result c.args.worker c.loop-run.count
    c.loop-run-test.true (sym e ∙ sym c.worker.ensures.value ∙ c.if-worker.true) c.loop-run.invariant in
    omega (arith, a, f, c.count-count.ensures.value, c.requires)

pub loop-run-preserved : goal.loop-run-preserved
loop-run-preserved c =
    let e = ap (λ (m : MovesSeen). m.worker) c.run-item.is in
    let f = ap (λ (m : MovesSeen). m.count) c.run-item.is in
    elim c.if-worker.branch [
      | then-worker w ↦
          let a = counts_it c.args.runs.now c.loop-run.run-index c.run-item.result c.args.worker c.loop-run.count c.loop-run-test.true
          (sym e ∙ sym c.worker.ensures.value ∙ w.if-worker.true) c.loop-run.invariant in
          omega (arith, a, f, w.count-is, w.count-count.ensures.value)
      | else-worker w ↦ w.count-is ∙ passes_it c.args.runs.now c.loop-run.run-index c.run-item.result c.args.worker c.loop-run.count
          c.loop-run-test.true (λ g. w.if-worker.false (c.worker.ensures.value ∙ e ∙ g)) c.loop-run.invariant
    ]
