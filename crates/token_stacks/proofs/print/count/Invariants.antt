use Rattle.std.proofs.Common.{◌≡◌, ◌≤◌, ◌+◌, length}
use Rattle.token_stacks.specs.Signatures.{Work}
use Rattle.token_stacks.specs.Printing.{IsStack}
use Rattle.token_stacks.proofs.print.count.Given as goal

abbrev pub invariant-loop-rest : goal.invariant-loop-rest
invariant-loop-rest l = record {
  few : l.n + length l.rest ≤ length l.words;
  rest : (m : Work) → IsStack l.form l.words m → (k : Work) × IsStack l.form l.rest k × (l.n + length k ≡ length m);
}

abbrev pub decreases-loop-rest : goal.decreases-loop-rest
decreases-loop-rest l = length l.rest
