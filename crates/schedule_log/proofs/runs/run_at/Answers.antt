use Rattle.std.proofs.Common.{◌-◌, ap, sym, subst, arith}
use Rattle.schedule_log.specs.KeptRuns.{MovesSeen, IsHeld}
use Rattle.schedule_log.proofs.Holding.{found, goes_on}
use Rattle.schedule_log.proofs.runs.run_at.Goals as goal

pub returns-then-left-count-clause-held : goal.returns-then-left-count-clause-held
returns-then-left-count-clause-held c =
    let f = ap (λ (m : MovesSeen). m.count) c.run-item.is in
    subst (λ (r : MovesSeen). IsHeld c.args.runs.now c.args.place r (c.args.place - c.loop-run.left)) (sym c.run-item.is)
    (found c.args.runs.now c.loop-run.run-index c.run-item.result c.loop-run.left c.args.place c.loop-run-test.true
    (omega (arith, c.if-left-count.true, f, c.count.ensures.value)) c.loop-run.invariant)

pub loop-run-preserved : goal.loop-run-preserved
loop-run-preserved c =
    let f = ap (λ (m : MovesSeen). m.count) c.run-item.is in
    goes_on c.args.runs.now c.loop-run.run-index c.run-item.result c.loop-run.left
    (c.loop-run.left - c.count-left.result) c.args.place c.loop-run-test.true
    (omega (arith, f, c.if-left-count.false, c.count.ensures.value, c.count-left.ensures.value)) c.loop-run.invariant
