use Rattle.std.proofs.Common.{◌≡◌, ◌+◌, ◌≤◌, length}
use Rattle.net_text.specs.FirstFault.{nodes_from}
use Rattle.net_text.specs.Limits.{most_text_bytes}
use Rattle.text_lines.specs.Lines.{lines}
use Rattle.net_text.specs.Scanning.{with_nodes}
use Rattle.net_text.proofs.read.read_nodes.Given as goal

abbrev pub invariant-loop-rest : goal.invariant-loop-rest
invariant-loop-rest l = record {
  few : length l.nodes.items + length l.rest ≤ length l.bytes;
  line : l.n + length l.rest ≤ most_text_bytes + 2;
  nodes : with_nodes l.nodes.items (nodes_from (length l.nodes.items) l.n (lines l.rest)) ≡ nodes_from 0 l.first (lines l.bytes);
}

abbrev pub decreases-loop-rest : goal.decreases-loop-rest
decreases-loop-rest l = length l.rest
