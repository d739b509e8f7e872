use Rattle.std.proofs.Common.{refl, arith}
use Rattle.goi_c.proofs.Found.{taken_for, taken_as_function}
use Rattle.goi_c.proofs.Lines.{lines_of_marks}
use Rattle.goi_c.proofs.finding.goi_find_fault.Goals as goal

pub returns-then-taken-lt4-clause-finds : goal.returns-then-taken-lt4-clause-finds
returns-then-taken-lt4-clause-finds c =
    taken_for c.args.text.now c.args.taken _ _ (let h = c.if-taken-lt4.true in omega (arith, h)) c.task_taken.result
    c.task_taken.ensures.value c.find_for.ensures

pub returns-then-taken-lt4-clause-lines : goal.returns-then-taken-lt4-clause-lines
returns-then-taken-lt4-clause-lines c = lines_of_marks

pub returns-else-taken-lt4-clause-finds : goal.returns-else-taken-lt4-clause-finds
returns-else-taken-lt4-clause-finds c =
    taken_as_function c.args.text.now c.args.taken _ _ _ (let h = c.if-taken-lt4.false in omega (arith, h)) refl c.find_in_function.ensures

pub returns-else-taken-lt4-clause-lines : goal.returns-else-taken-lt4-clause-lines
returns-else-taken-lt4-clause-lines c = lines_of_marks
