use Rattle.std.proofs.Common.{sym, ◌∙◌, subst}
use Rattle.net_check.specs.Steps.{IsFirstLoose}
use Rattle.std.proofs.lemmas.Result.{IfOk-weaker, MatchResult-weaker}
use Rattle.net_check.proofs.Verdict.{sound_of, fault_unsound, row_fault_first, roots_fault, loose_fault}
use Rattle.net_check.proofs.checking.check.Goals as goal

pub returns-then-roots-ne1-clause-fault : goal.returns-then-roots-ne1-clause-fault
returns-then-roots-ne1-clause-fault c =
    λ _. roots_fault c.args.net.now c.count_roots-roots.result c.count_roots-roots.ensures c.if-roots-ne1.true

pub returns-then-roots-ne1-clause-unsound : goal.returns-then-roots-ne1-clause-unsound
returns-then-roots-ne1-clause-unsound c =
    λ _. fault_unsound c.args.net.now _
    (roots_fault c.args.net.now c.count_roots-roots.result c.count_roots-roots.ensures c.if-roots-ne1.true)

pub returns-in-Ok-None-clause-sound : goal.returns-in-Ok-None-clause-sound
returns-in-Ok-None-clause-sound c =
    IfOk-weaker c.check_rows.result _ _
    (λ x m. sound_of c.args.net.now (sym c.count_roots-roots.ensures ∙ c.if-roots-ne1.false)
    (subst (IsFirstLoose c.args.net.now) c.in-Ok-None.field-0-is c.in-Ok-None.ensures) m) c.check_rows.ensures.meet

pub returns-in-Ok-None-clause-fault : goal.returns-in-Ok-None-clause-fault
returns-in-Ok-None-clause-fault c =
    MatchResult-weaker c.check_rows.result c.check_rows.ensures.fault (λ x h. h)
    (λ e f. λ _. row_fault_first c.args.net.now e (sym c.count_roots-roots.ensures ∙ c.if-roots-ne1.false)
    (subst (IsFirstLoose c.args.net.now) c.in-Ok-None.field-0-is c.in-Ok-None.ensures) f)

pub returns-in-Ok-None-clause-unsound : goal.returns-in-Ok-None-clause-unsound
returns-in-Ok-None-clause-unsound c =
    MatchResult-weaker c.check_rows.result c.check_rows.ensures.fault (λ x h. h)
    (λ e f. λ _. fault_unsound c.args.net.now e
    (row_fault_first c.args.net.now e (sym c.count_roots-roots.ensures ∙ c.if-roots-ne1.false)
    (subst (IsFirstLoose c.args.net.now) c.in-Ok-None.field-0-is c.in-Ok-None.ensures) f))

pub returns-in-Ok-Some-clause-fault : goal.returns-in-Ok-Some-clause-fault
returns-in-Ok-Some-clause-fault c =
    λ _. loose_fault c.args.net.now c.in-Ok-Some.n (sym c.count_roots-roots.ensures ∙ c.if-roots-ne1.false)
    (subst (IsFirstLoose c.args.net.now) c.in-Ok-Some.field-0-is c.in-Ok-Some.ensures)

pub returns-in-Ok-Some-clause-unsound : goal.returns-in-Ok-Some-clause-unsound
returns-in-Ok-Some-clause-unsound c =
    λ _. fault_unsound c.args.net.now _
    (loose_fault c.args.net.now c.in-Ok-Some.n (sym c.count_roots-roots.ensures ∙ c.if-roots-ne1.false)
    (subst (IsFirstLoose c.args.net.now) c.in-Ok-Some.field-0-is c.in-Ok-Some.ensures))
