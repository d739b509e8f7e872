use Rattle.std.proofs.Common.{◌∙◌, subst}
use Rattle.program_runs.specs.declared.no_run.NoRun.{NoRun}
use Rattle.program_runs.specs.NoRuns.{NoRunFor}
use Rattle.program_runs.specs.Programs.{number, FaultyProgram}
use Rattle.goi_tasks.specs.RunReports.{demo_budget}
use Rattle.goi_tasks.proofs.Generated.{demo_run, demo_sound}
use Rattle.goi_tasks.proofs.demo.demo_ended.Goals as goal

pub returns-in-Ok : goal.returns-in-Ok
returns-in-Ok g c =
    let ended = c.in-Ok.ended in
    demo_run c.law_one_program.ensures c.law_demo_is_typed.ensures c.args.n c.requires.n c.deref.result.now
    (c.deref.ensures.value ∙ c.in_ok-text.ensures) (g.C.Crew.count c.args.crew.now) demo_budget ended.answer ended.log.entries
    c.in-Ok.ensures.run

pub unreachable-requires : goal.unreachable-requires
unreachable-requires g c =
    let fault = c.in-Err-Fault.field-0-0 in
    let bytes = c.deref.result.now in
    let found : NoRunFor (FaultyProgram number bytes) c.in-Err-Fault.field-0 = let h = c.in-Err-Fault.ensures.fault in h in
    demo_sound c.law_one_program.ensures c.law_demo_is_typed.ensures c.args.n c.requires.n bytes
    (c.deref.ensures.value ∙ c.in_ok-text.ensures) fault
    (subst (λ (s : NoRun). NoRunFor (FaultyProgram number bytes) s) c.in-Err-Fault.field-0-is found)
