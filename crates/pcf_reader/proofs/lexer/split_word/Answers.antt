use Rattle.std.proofs.Common.{rules, arith, ◌≡◌, true, ℕ, List, [], ◌+◌, ◌∷◌, ◌++◌, sym, ap, ◌∙◌, length}
use Rattle.std.proofs.Common.{append_assoc, append-nil, length-append}
use Rattle.std.specs.Prelude.{encode_utf8}
use Rattle.std.specs.Str.{chars, IsUtf8}
use Rattle.std.specs.Char.{len_utf8}
use Rattle.std.proofs.lemmas.Str.{length-encode}
use Rattle.unicode_ident.specs.Ident.{is_xid_continue}
use Rattle.pcf_reader.specs.Lexing.{lex, idle, in_word, closed}
use Rattle.pcf_reader.proofs.LexSteps.{word_more, word_stop, word_end}
use Rattle.pcf_reader.proofs.Taking.{front_read, back_rest, seam}
use Rattle.pcf_reader.proofs.lexer.split_word.Goals as goal

pub split_at-requires : goal.split_at-requires
split_at-requires c =
    let (read, whole, goes) = c.loop-first.invariant.1 in
    seam c.args.text.now read c.loop-first.rest.now _ whole (search rules) (search rules)

pub returns-then-not-is_xid_continue-clause-lexed : goal.returns-then-not-is_xid_continue-clause-lexed
returns-then-not-is_xid_continue-clause-lexed c =
    let (read, whole, goes) = c.loop-first.invariant.1 in
    let e : chars c.loop-first.rest.now ≡ c.in-Some.first ∷ chars c.in-Some.more.now = search rules in
    let word : c.split_at.result.0.now ≡ read =
    front_read c.args.text.now read c.loop-first.rest.now c.split_at.result.0.now _ whole (search rules) c.split_at.ensures.front in
    let rest : c.split_at.result.1.now ≡ c.loop-first.rest.now =
    back_rest c.args.text.now read c.loop-first.rest.now c.split_at.result.1.now _ whole (search rules) c.split_at.ensures.back in
    λ at start.
    goes at start
    ∙ word_stop (chars c.loop-first.rest.now) (chars c.in-Some.more.now) (at + length read) c.in-Some.first start read e (search rules)
    ∙ ap (λ w. closed (in_word start w) (lex (chars c.loop-first.rest.now) (at + length w) idle)) (sym word)
    ∙ ap (λ z. closed (in_word start c.split_at.result.0.now) (lex (chars z) (at + length c.split_at.result.0.now) idle)) (sym rest)

pub loop-first-preserved : goal.loop-first-preserved
loop-first-preserved c =
    let e : chars c.loop-first.rest.now ≡ c.in-Some.first ∷ chars c.in-Some.more.now = search rules in
    let x : c.loop-first.rest.now ≡ encode_utf8 c.in-Some.first ++ c.in-Some.more.now = search rules in
    let u : IsUtf8 c.in-Some.more.now = search rules in
    let p : is_xid_continue c.in-Some.first ≡ true = search rules in
    let (read, whole, goes) = c.loop-first.invariant.1 in
    let w : List ℕ = encode_utf8 c.in-Some.first in
    let n : length (read ++ w) ≡ length read + len_utf8 c.in-Some.first =
    omega (arith, length-append read w, length-encode c.in-Some.first) in (
      u,
      (
        read ++ w,
        whole ∙ ap (λ z. read ++ z) x ∙ sym (append_assoc read w c.in-Some.more.now),
        λ at start.
            goes at start
            ∙ word_more (chars c.loop-first.rest.now) (chars c.in-Some.more.now) (at + length read) c.in-Some.first start read e p
            ∙ ap (λ i. lex (chars c.in-Some.more.now) i (in_word start (read ++ w))) (omega (arith, n)),
      ),
    )

pub returns-clause-lexed : goal.returns-clause-lexed
returns-clause-lexed c =
    let (read, whole, goes) = c.loop-first.invariant.1 in
    let none : c.loop-first.rest.now ≡ [] = search rules in
    let no_chars : chars c.loop-first.rest.now ≡ [] = search rules in
    let all : read ≡ c.args.text.now = sym (whole ∙ ap (λ z. read ++ z) none ∙ append-nil read) in
    λ at start.
    goes at start
    ∙ word_end (chars c.loop-first.rest.now) (at + length read) start read no_chars
    ∙ ap (λ w. closed (in_word start w) (lex (chars c.loop-first.rest.now) (at + length w) idle)) all
