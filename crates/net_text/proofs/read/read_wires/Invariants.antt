use Rattle.std.proofs.Common.{◌≡◌, ◌+◌, ◌≤◌, length, map}
use Rattle.net_build.specs.Views.{wire_of}
use Rattle.net_text.specs.FirstFault.{wires_from}
use Rattle.text_lines.specs.Lines.{lines}
use Rattle.net_text.specs.Scanning.{with_wires}
use Rattle.net_text.proofs.read.read_wires.Given as goal

abbrev pub invariant-loop-rest : goal.invariant-loop-rest
invariant-loop-rest l = record {
  few : length l.wires.items + length l.rest ≤ length l.bytes;
  wires : with_wires (map wire_of l.wires.items) (wires_from l.height (length l.wires.items) (length l.wires.items + 2) (lines l.rest)) ≡
      wires_from l.height 0 2 (lines l.bytes);
}

abbrev pub decreases-loop-rest : goal.decreases-loop-rest
decreases-loop-rest l = length l.rest
