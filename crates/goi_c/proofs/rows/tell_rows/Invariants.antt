use Rattle.std.proofs.Common.{◌≡◌, ◌*◌, ◌<◌, ℕ, length, get_or, drop}
use Rattle.goi_tasks.specs.declared.answer.Answer.{Answer}
use Rattle.goi_c.specs.Rows.{TellsRow, row}
use Rattle.goi_c.proofs.rows.tell_rows.Given as goal

abbrev pub invariant-loop-i : goal.invariant-loop-i
invariant-loop-i l = record {
  count : length l.answers ≡ length l.initial.answers;
  kept : l.function ≡ l.initial.function;
  rest : l.rest ≡ drop (l.i * l.each) l.values;
  told : (k : ℕ) (d : Answer) → k < l.i → TellsRow l.initial.function.0 l.budget (row l.each l.values k) (get_or l.answers k d);
}
