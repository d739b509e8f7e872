use Rattle.std.proofs.Common.{[], ◌≡◌, Ok, subst}
use Rattle.pcf_values.specs.Terms.{TyTree}
use Rattle.pcf_values.specs.Views.{named_of}
use Rattle.pcf_types.specs.Checking.{type_of}
use Rattle.program_runs.specs.Programs.{strict_number, FaultyTree}
use Rattle.program_runs.proofs.Texts.{runs_translated, stops_untranslated, stops_by}
use Rattle.program_runs.proofs.net.translate.Goals as goal

pub returns-clause-runner : goal.returns-clause-runner
returns-clause-runner c =
    let made = c.in_ok-by_value.ensures in
    runs_translated c.law_by_value.ensures c.law_translated.ensures.typed (named_of c.args.tree.now) c.args.program.now
    c.in_ok-by_value.field-0 c.requires.accepted c.requires.ground c.requires.typed made.translated made.accepted made.faultless

pub returns-in_err-by_value-clause-fault : goal.returns-in_err-by_value-clause-fault
returns-in_err-by_value-clause-fault c =
    let tree = named_of c.args.tree.now in
    let t = c.args.program.now.0 in
    let typed = subst (λ (A : TyTree). type_of [] tree ≡ Ok (t, A)) c.requires.ground c.requires.accepted in
    stops_by c.from_residual.result _ (FaultyTree strict_number tree) c.from_residual.ensures.1
    (stops_untranslated tree t _ typed c.in_err-by_value.ensures.fault)
