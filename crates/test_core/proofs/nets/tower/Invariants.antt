use Rattle.std.proofs.Common.{◌≤◌, ◌+◌, ◌*◌, []}
use Rattle.pcf_values.specs.Terms.{nat, size, height}
use Rattle.pcf_values.specs.Typing.{HasType}
use Rattle.pcf_values.specs.Views.{term_of}
use Rattle.test_core.proofs.nets.tower.Given as goal

abbrev pub invariant-loop-n : goal.invariant-loop-n
invariant-loop-n l = HasType [] (term_of l.term) nat × (size (term_of l.term) ≤ 4 * l._n + 1) × (height (term_of l.term) ≤ l._n + 2)
