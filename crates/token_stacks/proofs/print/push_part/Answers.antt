use Rattle.std.proofs.Common.{sym, ◌∙◌}
use Rattle.token_stacks.proofs.Said.{some_words, nothing}
use Rattle.token_stacks.proofs.print.push_part.Goals as goal

pub returns-in-empty : goal.returns-in-empty
returns-in-empty c s e = absurd (some_words s (sym (nothing c.args.words.now c.in-empty.len_below) ∙ e))
