use Rattle.std.proofs.Common.{nat_eq, arith}
use Rattle.program_runs.specs.Programs.{calling_of}
use Rattle.goi_c.proofs.Called.{told_as}
use Rattle.goi_c.proofs.Owned.{told_owned}
use Rattle.goi_c.proofs.Roomy.{told_fits}
use Rattle.goi_c.proofs.telling.goi_tell.Goals as goal

pub returns-clause-calls : goal.returns-clause-calls
returns-clause-calls c =
    let h = c.tell_text-told in
    let beyond : (_ → ⊥) → ⊥ = λ n.
    n ((omega (arith, c.if-budget-lt1.false), omega (arith, c.if-budget-gt-BUDGET.false)), omega (arith, c.if-flags-ge2.false)) in
    record {
      right = λ asked. told_as _ _ c.calling_of.ensures _ _ h.result _ _ h.ensures.told h.ensures.fault c.give_told.ensures;
      wrong = λ n. absurd (beyond n);
      no_answer = λ n. absurd (beyond n);
    }

pub returns-clause-own : goal.returns-clause-own
returns-clause-own c = λ asked.
    let h = c.tell_text-told in
    let calling = calling_of (nat_eq c.args.flags 1) in
    told_owned calling _ _ (c.law_tasks_settled.ensures.numbers calling c.args.budget c.args.text.now) _ _
    (told_as _ calling c.calling_of.ensures _ _ h.result _ _ h.ensures.told h.ensures.fault c.give_told.ensures)

pub returns-clause-room : goal.returns-clause-room
returns-clause-room c = λ room.
    let h = c.tell_text-told in
    told_fits _ _ _ _ _ (told_as _ _ c.calling_of.ensures _ _ h.result _ _ h.ensures.told h.ensures.fault c.give_told.ensures) room
