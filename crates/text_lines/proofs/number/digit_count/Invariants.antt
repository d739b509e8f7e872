use Rattle.std.proofs.Common.{◌≡◌, ◌+◌, length, drop}
use Rattle.text_lines.specs.Digits.{digits_in}
use Rattle.text_lines.proofs.number.digit_count.Given as goal

abbrev pub invariant-loop-i : goal.invariant-loop-i
invariant-loop-i l = l.i + length (digits_in (drop l.i l.bytes)) ≡ length (digits_in l.bytes)
