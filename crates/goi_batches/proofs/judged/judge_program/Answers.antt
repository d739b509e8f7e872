use Rattle.std.proofs.Common.{rules, subst}
use Rattle.program_runs.specs.declared.no_run.NoRun.{NoRun}
use Rattle.program_runs.specs.NoRuns.{NoRunFor}
use Rattle.program_runs.specs.Programs.{number, FaultyProgram}
use Rattle.goi_tasks.specs.declared.fault.Fault.TheVariants.{Program}
use Rattle.goi_tasks.specs.Programs.{no_program}
use Rattle.goi_batches.proofs.judged.judge_program.Goals as goal

pub returns-in-Ok : goal.returns-in-Ok
returns-in-Ok c = search rules

pub returns-in_ok-line_of-in-Err-Fault : goal.returns-in_ok-line_of-in-Err-Fault
returns-in_ok-line_of-in-Err-Fault c =
    let none = c.in-Err-Fault in
    let found : NoRunFor (FaultyProgram number c.args.bytes.now) none.field-0 = none.ensures.fault in
    let is = subst (λ (n : NoRun). NoRunFor (FaultyProgram number c.args.bytes.now) n) none.field-0-is found in
    (Program none.fault, no_program none.fault is, c.in_ok-line_of-in-Err-Fault.ensures)
