use Rattle.std.proofs.Common.{◌≡◌, ℕ, ◌+◌, ◌++◌, [], List, length}
use denote.Text.{Utf8}
use denote.Shadow.{shadow}
use Rattle.std.specs.Str.{chars}
use Rattle.pcf_reader.specs.Lexing.{lex, in_word}
use Rattle.pcf_reader.proofs.lexer.split_word.Given as goal

abbrev pub invariant-loop-first : goal.invariant-loop-first
invariant-loop-first l =
    shadow (Utf8 l.rest)
    × ((read : List ℕ) × (l.fn.text ≡ read ++ l.rest) ×
    ((at start : ℕ) → lex (chars l.fn.text) at (in_word start []) ≡ lex (chars l.rest) (at + length read) (in_word start read)))

abbrev pub decreases-loop-first : goal.decreases-loop-first
decreases-loop-first l = length l.rest
