use Rattle.std.proofs.Common.{◌≡◌, ◌++◌, length}
use Rattle.net_build.specs.Found.{present}
use Rattle.net_text.specs.Listing.{numbers_text}
use Rattle.net_text.proofs.print.push_wire_numbers.Given as goal

abbrev pub invariant-loop-rest : goal.invariant-loop-rest
invariant-loop-rest l = l.text.items ++ numbers_text (present l.rest) ≡ l.fn.text.items ++ numbers_text (present l.wires)

abbrev pub decreases-loop-rest : goal.decreases-loop-rest
decreases-loop-rest l = length l.rest
