use Rattle.std.proofs.Common.{◌≡◌, ◌++◌, [], length, map}
use Rattle.token_stacks.specs.Signatures.{Work}
use Rattle.token_stacks.specs.Texts.{sym_text, dots, first_parts}
use Rattle.token_stacks.specs.Printing.{IsStack}
use Rattle.token_stacks.proofs.Writing.{StandsFor}
use Rattle.token_stacks.proofs.print.push_rest.Given as goal

abbrev pub invariant-loop-rest : goal.invariant-loop-rest
invariant-loop-rest l = record {
  nothing : l.todo.items ≡ [];
  stack : (m : Work) × IsStack l.form l.rest m;
  text : (m : Work) → IsStack l.form l.words m →
      StandsFor l.form l.rest l.left l.deep l.text.items (l.fn.text.items ++ dots (first_parts l.most (map (sym_text l.deep) m)));
}

abbrev pub decreases-loop-rest : goal.decreases-loop-rest
decreases-loop-rest l = length l.rest
