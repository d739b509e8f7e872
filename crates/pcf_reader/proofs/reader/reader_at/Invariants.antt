use Rattle.std.proofs.Common.{◌≡◌, ◌+◌, length}
use denote.Text.{Utf8}
use denote.Shadow.{shadow}
use Rattle.std.specs.Str.{chars}
use Rattle.pcf_reader.specs.Lexing.{lex, idle}
use Rattle.pcf_reader.proofs.reader.reader_at.Given as goal

abbrev pub invariant-loop-first : goal.invariant-loop-first
invariant-loop-first l = shadow (Utf8 l.rest) × (lex (chars l.fn.text) l.fn.at idle ≡ lex (chars l.rest) l.place idle) ×
    (l.place + length l.rest ≡ l.fn.at + length l.fn.text)

abbrev pub decreases-loop-first : goal.decreases-loop-first
decreases-loop-first l = length l.rest
