use Rattle.std.proofs.Common.{◌≡◌, ◌++◌}
use Rattle.token_stacks.specs.Signatures.{Sig}
use Rattle.token_stacks.specs.Words.{body}
use Rattle.token_stacks.specs.Texts.{sig_text}
use Rattle.token_stacks.specs.Printing.{AreParts, held, pieces_text, pieces_work}
use Rattle.token_stacks.proofs.print.push_sig.Given as goal

abbrev pub invariant-loop-piece : goal.invariant-loop-piece
invariant-loop-piece l = record {
  parts : AreParts (l.todo.items ++ held l.hand);
  text : (s : Sig) → l.words ≡ body s →
      l.text.items ++ pieces_text (l.todo.items ++ held l.hand) ≡ l.fn.text.items ++ sig_text l.deep s;
}

abbrev pub decreases-loop-piece : goal.decreases-loop-piece
decreases-loop-piece l = pieces_work (l.todo.items ++ held l.hand)
