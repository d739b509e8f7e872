use Rattle.std.proofs.Common.{rules, arith, ◌≡◌, true, false, ℕ, ◌+◌, ◌-◌, ◌*◌, ◌≤◌, ◌∷◌, [], ap, ◌∙◌}
use Rattle.std.proofs.Common.{length}
use Rattle.std.specs.Str.{chars, IsUtf8}
use Rattle.std.specs.Char.{len_utf8}
use Rattle.pcf_reader.specs.Spelling.{is_digit}
use Rattle.pcf_reader.specs.Lexing.{lex, in_number, capped}
use Rattle.pcf_reader.proofs.LexSteps.{number_more, number_stop, number_end, capped_more, capped_le}
use Rattle.pcf_reader.proofs.lexer.split_number.Goals as goal

pub returns-then-not-is_digit-clause-lexed : goal.returns-then-not-is_digit-clause-lexed
returns-then-not-is_digit-clause-lexed c =
    let (n, value, goes) = c.loop-first.invariant.3 in
    let e : chars c.loop-first.rest.now ≡ c.in-Some.first ∷ chars c.in-Some.more.now = search rules in
    let p : is_digit c.in-Some.first ≡ false = search rules in (
      n,
      value,
      λ at start. goes at start ∙ number_stop (chars c.loop-first.rest.now) (chars c.in-Some.more.now)
          (at + (length c.args.text.now - length c.loop-first.rest.now)) c.in-Some.first start n e p,
    )

pub returns-clause-lexed : goal.returns-clause-lexed
returns-clause-lexed c =
    let (n, value, goes) = c.loop-first.invariant.3 in
    let e : chars c.loop-first.rest.now ≡ [] = search rules in (
      n,
      value,
      λ at start. goes at start ∙ number_end (chars c.loop-first.rest.now)
          (at + (length c.args.text.now - length c.loop-first.rest.now)) start n e,
    )

pub loop-first-preserved : goal.loop-first-preserved
loop-first-preserved c =
    let (n, value, goes) = c.loop-first.invariant.3 in
    let e : chars c.loop-first.rest.now ≡ c.in-Some.first ∷ chars c.in-Some.more.now = search rules in
    let l : length c.loop-first.rest.now ≡ len_utf8 c.in-Some.first + length c.in-Some.more.now = search rules in
    let u : IsUtf8 c.in-Some.more.now = search rules in
    let p : is_digit c.in-Some.first ≡ true = search rules in
    let d : ℕ = c.in-Some.first - 48 in
    let is : c.with_digit-value.result ≡ capped (10 * n + d) = c.with_digit-value.ensures ∙ ap (λ v. capped (10 * v + d)) value ∙
    capped_more n d in
    let short : length c.loop-first.rest.now ≤ length c.args.text.now = c.loop-first.invariant.1 in (
      u,
      omega (arith, l, short),
      omega (arith, is, capped_le (10 * n + d)),
      (
        10 * n + d,
        is,
        λ at start.
            goes at start
            ∙ number_more (chars c.loop-first.rest.now) (chars c.in-Some.more.now)
            (at + (length c.args.text.now - length c.loop-first.rest.now)) c.in-Some.first start n e p
            ∙ ap (λ i. lex (chars c.in-Some.more.now) i (in_number start (10 * n + d))) (omega (arith, l, short)),
      ),
    )

pub with_digit-value-requires : goal.with_digit-value-requires
with_digit-value-requires c = search rules
