use Rattle.std.proofs.Common.{Some}
use Rattle.program_runs.specs.Programs.{number}
use Rattle.goi_tasks.proofs.Replayed.{faults_either, faults_first}
use Rattle.goi_tasks.proofs.Texts.{no_net}
use Rattle.goi_c.proofs.Walked.{walks_text}
use Rattle.goi_c.proofs.checking.replay_walk.Goals as goal

pub returns-clause-report : goal.returns-clause-report
returns-clause-report c =
    walks_text c.args.bytes.now c.args.schedule.now (Some c.args.window) c.in_ok-net.net c.in_ok-net.ensures.net
    c.report_replay-report.result c.report_replay-report.ensures.report

pub returns-clause-fault : goal.returns-clause-fault
returns-clause-fault c =
    faults_either c.args.bytes.now c.args.schedule.now c.in_ok-net.net c.in_ok-net.ensures.net c.report_replay-report.result
    c.report_replay-report.ensures.fault

pub returns-in_err-net-clause-fault : goal.returns-in_err-net-clause-fault
returns-in_err-net-clause-fault c =
    faults_first c.args.bytes.now c.args.schedule.now c.from_residual.result
    (no_net number c.args.bytes.now c.from_residual.result _ c.from_residual.ensures.1 c.in_err-net.ensures.fault)
