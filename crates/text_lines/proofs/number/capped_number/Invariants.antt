use Rattle.std.proofs.Common.{◌≡◌, ◌≤◌, ◌^◌, drop}
use Rattle.text_lines.specs.Scanning.{capped_after}
use Rattle.text_lines.proofs.number.capped_number.Given as goal

abbrev pub invariant-loop-i : goal.invariant-loop-i
invariant-loop-i l = record {
  few : l.n ≤ 2 ^ 40;
  value : capped_after l.n (drop l.i l.digits) ≡ capped_after 0 l.digits;
}
