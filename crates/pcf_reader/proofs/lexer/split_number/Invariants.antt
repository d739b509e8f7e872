use Rattle.std.proofs.Common.{◌≡◌, ℕ, ◌+◌, ◌-◌, ◌≤◌, ◌^◌, length}
use denote.Text.{Utf8}
use denote.Shadow.{shadow}
use Rattle.std.specs.Str.{chars}
use Rattle.pcf_reader.specs.Lexing.{lex, in_number, capped}
use Rattle.pcf_reader.proofs.lexer.split_number.Given as goal

abbrev pub invariant-loop-first : goal.invariant-loop-first
invariant-loop-first l =
    shadow (Utf8 l.rest) × (length l.rest ≤ length l.fn.text) × (l.value ≤ 2 ^ 64)
    × ((n : ℕ) × (l.value ≡ capped n) ×
    ((at start : ℕ) → lex (chars l.fn.text) at (in_number start 0) ≡ lex (chars l.rest) (at + (length l.fn.text - length l.rest))
    (in_number start n)))

abbrev pub decreases-loop-first : goal.decreases-loop-first
decreases-loop-first l = length l.rest
