use Rattle.std.proofs.Common.{rules, ◌≡◌, ◌<◌, true, false, List, length, ap, ◌∙◌, sym, subst, IfOk}
use Rattle.std.specs.Prelude.{◌==◌}
use Rattle.std.specs.Str.{chars}
use Rattle.unicode_ident.specs.Ident.{is_xid_continue}
use Rattle.pcf_reader.specs.Tokens.{Placed}
use Rattle.pcf_reader.specs.Spelling.{is_digit, starts_name}
use Rattle.pcf_reader.specs.Machine.{State}
use Rattle.pcf_reader.specs.Scan.{scan}
use Rattle.pcf_reader.specs.Rest.{Rest}
use Rattle.pcf_reader.proofs.LexSteps.{dash_first, number_first, word_first, sign_first}
use Rattle.pcf_reader.proofs.Gives.{gives_from}
use Rattle.pcf_reader.proofs.reader.at_token.Goals as goal

pub returns-then-first-eq45-clause-goes : goal.returns-then-first-eq45-clause-goes
returns-then-first-eq45-clause-goes c =
    let e : c.args.first ≡ 45 = search rules in
    λ (s : State). ap (λ z. scan z s c.args.nodes)
    (dash_first (chars c.args.text.now) (chars c.args.more.now) c.args.at c.args.first c.requires.chars e) ∙ c.at_dash.ensures.goes s

pub returns-then-first-eq45-clause-shorter : goal.returns-then-first-eq45-clause-shorter
returns-then-first-eq45-clause-shorter c =
    let e : c.args.first ≡ 45 = search rules in
    subst (λ (z : List Placed). length c.at_dash.result.after < length z)
    (sym (dash_first (chars c.args.text.now) (chars c.args.more.now) c.args.at c.args.first c.requires.chars e)) c.at_dash.ensures.shorter

pub returns-then-is_digit-clause-goes : goal.returns-then-is_digit-clause-goes
returns-then-is_digit-clause-goes c =
    let nd : (c.args.first == 45) ≡ false = search rules in
    let h : is_digit c.args.first ≡ true = search rules in
    λ (s : State).
    gives_from _ _ _ c.at_number.result (ap (λ z. scan z s c.args.nodes)
    (number_first (chars c.args.text.now) (chars c.args.more.now) c.args.at c.args.first c.requires.chars c.requires.begins.0
    c.requires.begins.1 nd h)) (c.at_number.ensures.goes s)

pub returns-then-is_digit-clause-shorter : goal.returns-then-is_digit-clause-shorter
returns-then-is_digit-clause-shorter c =
    let nd : (c.args.first == 45) ≡ false = search rules in
    let h : is_digit c.args.first ≡ true = search rules in
    subst (λ (z : List Placed). IfOk c.at_number.result (λ (r : Rest). length r.after < length z))
    (sym (number_first (chars c.args.text.now) (chars c.args.more.now) c.args.at c.args.first c.requires.chars c.requires.begins.0
    c.requires.begins.1 nd h)) c.at_number.ensures.shorter

pub returns-then-starts_name-clause-goes : goal.returns-then-starts_name-clause-goes
returns-then-starts_name-clause-goes c =
    let nd : (c.args.first == 45) ≡ false = search rules in
    let ng : is_digit c.args.first ≡ false = search rules in
    let h : starts_name c.args.first ≡ true = search rules in
    let k : is_xid_continue c.args.first ≡ true = search rules in
    λ (s : State).
    ap (λ z. scan z s c.args.nodes) (word_first (chars c.args.text.now) (chars c.args.more.now) c.args.at c.args.first c.requires.chars
    c.requires.begins.0 c.requires.begins.1 nd ng h k) ∙ c.at_word.ensures.goes s

pub returns-then-starts_name-clause-shorter : goal.returns-then-starts_name-clause-shorter
returns-then-starts_name-clause-shorter c =
    let nd : (c.args.first == 45) ≡ false = search rules in
    let ng : is_digit c.args.first ≡ false = search rules in
    let h : starts_name c.args.first ≡ true = search rules in
    let k : is_xid_continue c.args.first ≡ true = search rules in
    subst (λ (z : List Placed). length c.at_word.result.after < length z)
    (sym (word_first (chars c.args.text.now) (chars c.args.more.now) c.args.at c.args.first c.requires.chars c.requires.begins.0
    c.requires.begins.1 nd ng h k)) c.at_word.ensures.shorter

pub returns-else-starts_name-clause-goes : goal.returns-else-starts_name-clause-goes
returns-else-starts_name-clause-goes c =
    let nd : (c.args.first == 45) ≡ false = search rules in
    let ng : is_digit c.args.first ≡ false = search rules in
    let h : starts_name c.args.first ≡ false = search rules in
    λ (s : State).
    gives_from _ _ _ c.at_sign.result (ap (λ z. scan z s c.args.nodes)
    (sign_first (chars c.args.text.now) (chars c.args.more.now) c.args.at c.args.first c.requires.chars c.requires.begins.0
    c.requires.begins.1 nd ng h)) (c.at_sign.ensures.goes s)

pub returns-else-starts_name-clause-shorter : goal.returns-else-starts_name-clause-shorter
returns-else-starts_name-clause-shorter c =
    let nd : (c.args.first == 45) ≡ false = search rules in
    let ng : is_digit c.args.first ≡ false = search rules in
    let h : starts_name c.args.first ≡ false = search rules in
    subst (λ (z : List Placed). IfOk c.at_sign.result (λ (r : Rest). length r.after < length z))
    (sym (sign_first (chars c.args.text.now) (chars c.args.more.now) c.args.at c.args.first c.requires.chars c.requires.begins.0
    c.requires.begins.1 nd ng h)) c.at_sign.ensures.shorter
