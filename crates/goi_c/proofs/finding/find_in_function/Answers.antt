use Rattle.std.proofs.Common.{subst}
use Rattle.program_runs.specs.declared.no_run.NoRun.{NoRun}
use Rattle.program_runs.specs.NoRuns.{NoRunFor}
use Rattle.function_runs.specs.Functions.{FaultyFunction}
use Rattle.goi_tasks.specs.Programs.{no_program}
use Rattle.goi_c.specs.Finding.{sound, first}
use Rattle.goi_c.proofs.Found.{no_fault}
use Rattle.goi_c.proofs.finding.find_in_function.Goals as goal

pub returns-in-Ok : goal.returns-in-Ok
returns-in-Ok c =
    sound c.fill_none.ensures.status
    (no_fault c.law_one_function.ensures c.args.arguments c.args.bytes.now _ c.in-Ok.ensures.function) c.fill_none.ensures.none

pub returns-in-Err-Fault : goal.returns-in-Err-Fault
returns-in-Err-Fault c =
    let faulty = FaultyFunction c.args.arguments c.args.bytes.now in
    let h = subst (λ (e : NoRun). NoRunFor faulty e) c.in-Err-Fault.field-0-is c.in-Err-Fault.ensures.fault in
    first _ (no_program _ h) c.fill_fault.ensures.status c.fill_fault.ensures.fault
