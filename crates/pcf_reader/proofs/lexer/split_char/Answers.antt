use Rattle.std.proofs.Common.{rules, arith, ◌≡◌, ◌++◌, length, ap, length-append}
use Rattle.std.specs.Prelude.{encode_utf8}
use Rattle.std.proofs.lemmas.List.{nil_from_length}
use Rattle.std.proofs.lemmas.Str.{length-encode}
use Rattle.pcf_reader.proofs.Chars.{chars_step, chars_none}
use Rattle.pcf_reader.proofs.lexer.split_char.Goals as goal

pub returns-in-Some-clause-chars : goal.returns-in-Some-clause-chars
returns-in-Some-clause-chars c = chars_step _ _ _ c.utf8.text (search rules)

pub returns-in-None-clause-chars : goal.returns-in-None-clause-chars
returns-in-None-clause-chars c = chars_none _ (nil_from_length _ (search rules))

pub returns-in-Some-clause-length : goal.returns-in-Some-clause-length
returns-in-Some-clause-length c =
    let e : c.args.text.now ≡ encode_utf8 c.in-Some.first ++ c.as_str.result.now = search rules in
    omega (arith, ap length e, length-append (encode_utf8 c.in-Some.first) c.as_str.result.now, length-encode c.in-Some.first)
