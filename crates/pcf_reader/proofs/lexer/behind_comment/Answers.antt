use Rattle.std.proofs.Common.{rules, arith, ◌≡◌, ◌+◌, ◌∷◌, sym, ap, ◌∙◌, length}
use Rattle.std.specs.Str.{chars, IsUtf8}
use Rattle.std.specs.Char.{len_utf8}
use Rattle.pcf_reader.specs.Lexing.{lex, in_comment}
use Rattle.pcf_reader.proofs.LexSteps.{comment_more, comment_line}
use Rattle.pcf_reader.proofs.lexer.behind_comment.Goals as goal

pub returns-then-first-eq10-clause-lexed : goal.returns-then-first-eq10-clause-lexed
returns-then-first-eq10-clause-lexed c =
    let e : chars c.loop-first.rest.now ≡ c.in-Some.first ∷ chars c.in-Some.more.now = search rules in
    c.loop-first.invariant.1 ∙ comment_line (chars c.loop-first.rest.now) (chars c.in-Some.more.now) c.loop-first.place c.in-Some.first e
    (search rules)

pub loop-first-preserved : goal.loop-first-preserved
loop-first-preserved c =
    let e : chars c.loop-first.rest.now ≡ c.in-Some.first ∷ chars c.in-Some.more.now = search rules in
    let n : c.len_utf8.result ≡ len_utf8 c.in-Some.first = search rules in
    let l : length c.loop-first.rest.now ≡ len_utf8 c.in-Some.first + length c.in-Some.more.now = search rules in
    let u : IsUtf8 c.in-Some.more.now = search rules in (
      u,
      c.loop-first.invariant.1
          ∙ comment_more (chars c.loop-first.rest.now) (chars c.in-Some.more.now) c.loop-first.place c.in-Some.first e
          c.if-first-eq10.false
          ∙ ap (λ n. lex (chars c.in-Some.more.now) (c.loop-first.place + n) in_comment) (sym n),
      omega (arith, n, l, c.loop-first.invariant.2),
      omega (arith, l, c.loop-first.invariant.3),
    )
