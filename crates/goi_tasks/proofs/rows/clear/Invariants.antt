use Rattle.std.proofs.Common.{◌≡◌, ◌<◌, ℕ, None, length, get_or}
use Rattle.goi_tasks.specs.declared.answer.Answer.{Answer}
use Rattle.goi_tasks.specs.Numbers.{AnswerIs}
use Rattle.goi_tasks.proofs.rows.clear.Given as goal

abbrev pub invariant-loop-i : goal.invariant-loop-i
invariant-loop-i l = record {
  count : length l.answers ≡ length l.initial.answers;
  none : (k : ℕ) (d : Answer) → k < l.i → AnswerIs None 0 (get_or l.answers k d);
}
