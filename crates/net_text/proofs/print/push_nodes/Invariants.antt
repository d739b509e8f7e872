use Rattle.std.proofs.Common.{◌≡◌, ◌++◌, drop}
use Rattle.net_text.specs.Listing.{node_line, lines_of}
use Rattle.net_text.proofs.print.push_nodes.Given as goal

abbrev pub invariant-loop-n : goal.invariant-loop-n
invariant-loop-n l = l.text.items ++ lines_of node_line l.n (drop l.n l.nodes) ≡ l.fn.text.items ++ lines_of node_line 0 l.nodes
