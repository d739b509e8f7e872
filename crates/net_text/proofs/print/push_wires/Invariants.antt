use Rattle.std.proofs.Common.{◌≡◌, ◌++◌, drop, map}
use Rattle.net_build.specs.Views.{wire_of}
use Rattle.net_text.specs.Listing.{wire_line, lines_of}
use Rattle.net_text.proofs.print.push_wires.Given as goal

abbrev pub invariant-loop-n : goal.invariant-loop-n
invariant-loop-n l = l.text.items ++ lines_of wire_line l.n (map wire_of (drop l.n l.wires)) ≡ l.fn.text.items ++ lines_of wire_line 0
    (map wire_of l.wires)
