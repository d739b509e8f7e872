use Rattle.std.proofs.Common.{refl, subst}
use Rattle.program_runs.specs.declared.no_run.NoRun.{NoRun}
use Rattle.program_runs.specs.NoRuns.{NoRunFor}
use Rattle.function_runs.specs.Functions.{FaultyFunction}
use Rattle.goi_c.proofs.ManyRows.{told_each, fault_told}
use Rattle.goi_c.proofs.rows.run_each.Goals as goal

pub returns-in-Ok-clause-tells : goal.returns-in-Ok-clause-tells
returns-in-Ok-clause-tells c =
    let told = c.tell_function-status in
    let back = c.give_nothing.ensures in
    told_each _ c.args.budget c.args.values.now c.args.text.now _ _ _ c.in-Ok.ensures.function told.result told.ensures.told
    (record { status_is = back.status; needed = back.needed; new = refl })

pub returns-in-Err-Fault-clause-tells : goal.returns-in-Err-Fault-clause-tells
returns-in-Err-Fault-clause-tells c =
    let faulty = FaultyFunction c.args.arguments c.args.text.now in
    let h = subst (λ (e : NoRun). NoRunFor faulty e) c.in-Err-Fault.field-0-is c.in-Err-Fault.ensures.fault in
    fault_told c.args.arguments c.args.budget c.args.values.now c.args.text.now _ _ _ h c.clear-in-Err-Fault.ensures.none
    c.give_fault.ensures
