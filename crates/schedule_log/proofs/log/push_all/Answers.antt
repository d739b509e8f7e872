use Rattle.std.proofs.Common.{◌∙◌, ap, arith}
use Rattle.std.specs.Prelude.{replicate}
use Rattle.schedule_log.specs.KeptRuns.{MovesSeen}
use Rattle.schedule_log.specs.LogsSeen.{with_entries}
use Rattle.schedule_log.proofs.Copied.{room_for, one_run_more}
use Rattle.schedule_log.proofs.log.push_all.Goals as goal

pub push_many-requires : goal.push_many-requires
push_many-requires c =
    let n = ap (λ (m : MovesSeen). m.count) c.run-item.is in
    let a = room_for c.loop-run.log c.args.log.now c.args.runs.now c.loop-run.run-index c.run-item.result c.loop-run-test.true
    c.loop-run.invariant c.requires in
    record {
      worker = omega (arith, c.worker.ensures.few);
      room = omega (arith, a, n, c.count.ensures.value);
    }

pub loop-run-preserved : goal.loop-run-preserved
loop-run-preserved c =
    let t = ap (λ (m : MovesSeen). m.ticket) c.run-item.is in
    let w = ap (λ (m : MovesSeen). m.worker) c.run-item.is in
    let n = ap (λ (m : MovesSeen). m.count) c.run-item.is in
    one_run_more c.push_many.new.self c.loop-run.log c.args.log.now c.args.runs.now c.loop-run.run-index c.run-item.result
    c.loop-run-test.true
    (c.push_many.ensures ∙ (λ j. with_entries c.loop-run.log (replicate ((c.count.ensures.value ∙ n) j)
    (record { ticket = (c.ticket.ensures ∙ t) j; worker = (c.worker.ensures.value ∙ w) j }))))
    c.loop-run.invariant
