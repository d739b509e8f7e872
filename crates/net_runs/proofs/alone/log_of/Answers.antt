use Rattle.std.proofs.Common.{ap, arith, length}
use Rattle.net_runs.proofs.LogOf.{all_added, run_added, run_room}
use Rattle.net_runs.proofs.alone.log_of.Goals as goal

pub push_many-requires-clause-room : goal.push_many-requires-clause-room
push_many-requires-clause-room c =
    let same = ap length c.runs-runs.ensures in
    run_room c.args.worker c.runs-runs.result.now c.loop-run.run-index (length c.args.tickets.now) (record { ticket = 0; count = 0 })
    c.loop-run-test.true c.loop-run.log c.loop-run.invariant (omega (arith, same))

pub loop-run-preserved : goal.loop-run-preserved
loop-run-preserved c =
    run_added c.args.worker c.runs-runs.result.now c.loop-run.run-index (length c.args.tickets.now) (record { ticket = 0; count = 0 })
    c.loop-run-test.true c.loop-run.log c.loop-run.invariant c.push_many.new.self c.push_many.ensures

pub returns : goal.returns
returns c =
    all_added c.args.worker c.runs-runs.result.now c.loop-run.run-index (length c.args.tickets.now) c.args.tickets.now c.loop-run.log
    c.loop-run.invariant c.loop-run-test.false c.runs-runs.ensures
