use Rattle.std.proofs.Common.{rules}
use Rattle.net_runs.proofs.AloneIsRun.{alone_is_run}
use Rattle.net_runs.proofs.alone.run_by.Goals as goal

pub returns-clause-run : goal.returns-clause-run
returns-clause-run c =
    let law = c.law_one_worker.ensures.finished in
    let led = c.law_maps.ensures.led in
    let ran = c.in_ok-ran.ran in
    let (S, leads, answers) = c.in_ok-ran.ensures.answer in
    λ workers below.
    alone_is_run law led c.args.net.now c.requires.runs c.args.budget ran.tickets c.in_ok-ran.ensures.tickets
    ran.answer S leads answers c.args.worker workers below c.in_ok-log.log.entries (search rules)
