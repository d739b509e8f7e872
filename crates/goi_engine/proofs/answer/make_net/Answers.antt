use Rattle.std.proofs.Common.{sym, subst}
use Rattle.program_runs.specs.Programs.{number, FaultyProgram}
use Rattle.goi_tasks.specs.declared.stop.Stop.{Stop}
use Rattle.goi_tasks.specs.Programs.{FaultyText}
use Rattle.goi_tasks.specs.Stops.{StopsFor}
use Rattle.goi_tasks.proofs.Texts.{stops_program}
use Rattle.goi_engine.proofs.LoadedFiles.{says_stopped}
use Rattle.goi_engine.proofs.answer.make_net.Goals as goal

pub returns-in-Err-clause-none : goal.returns-in-Err-clause-none
returns-in-Err-clause-none c =
    let P = FaultyText number c.args.bytes.now in
    let stops = stops_program (FaultyProgram number c.args.bytes.now) c.in-Err.none c.in-Err.ensures.fault in
    says_stopped (λ o. ⊥) P c.from.result c.stopped.result (subst (λ (s : Stop). StopsFor P s) (sym c.from.ensures) stops)
    c.stopped.ensures
