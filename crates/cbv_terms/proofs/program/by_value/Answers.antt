use Rattle.std.proofs.Common.{◌≡◌, ◌+◌, ◌*◌, ◌<◌, ◌≤◌, [], sym, ap, ◌∙◌, subst, arith}
use Rattle.pcf_values.specs.Terms.{nat, size, height}
use Rattle.pcf_values.specs.Typing.{HasType}
use Rattle.pcf_values.specs.Views.{term_of, named_of}
use Rattle.cbv_terms.specs.declared.limit.TheConstants.{BY_VALUE_HEIGHT}
use Rattle.cbv_terms.specs.Translation.{translated}
use Rattle.cbv_terms.specs.Accepted.{HasTranslation}
use Rattle.cbv_terms.proofs.Typed.{translated_typed, translated_size, translated_height}
use Rattle.cbv_terms.proofs.Accepting.{faultless_accepted}
use Rattle.cbv_terms.proofs.program.by_value.Goals as goal

pub translate_program-requires-clause-taken : goal.translate_program-requires-clause-taken
translate_program-requires-clause-taken c =
    let (_, taken) = faultless_accepted (named_of c.args.program.now) c.args.typed.now.0 c.args.typed.now.1 c.requires.typed
    c.in-None.ensures in
    subst HasTranslation (sym c.term.ensures.term) taken

pub translate_program-requires-clause-room : goal.translate_program-requires-clause-room
translate_program-requires-clause-room c =
    let (low, _) = faultless_accepted (named_of c.args.program.now) c.args.typed.now.0 c.args.typed.now.1 c.requires.typed c.in-None.ensures
    in
    let h : height (term_of c.term.result.now) ≤ BY_VALUE_HEIGHT =
    subst (λ m. height m ≤ BY_VALUE_HEIGHT) (sym c.term.ensures.term) low in
    omega arith

pub of-requires : goal.of-requires
of-requires c =
    let (_, taken) = faultless_accepted (named_of c.args.program.now) c.args.typed.now.0 c.args.typed.now.1 c.requires.typed
    c.in-None.ensures in
    let typed : HasType [] c.args.typed.now.0 nat = subst (HasType [] c.args.typed.now.0) c.requires.ground c.term.ensures.typed in
    subst (λ m. HasType [] m nat) (sym (c.in_ok-term-in-None.ensures ∙ ap translated c.term.ensures.term))
    (translated_typed c.args.typed.now.0 typed taken)

pub returns-in_ok-term-in-None-clause-accepted : goal.returns-in_ok-term-in-None-clause-accepted
returns-in_ok-term-in-None-clause-accepted c = faultless_accepted (named_of c.args.program.now) c.args.typed.now.0 c.args.typed.now.1
    c.requires.typed c.in-None.ensures

pub returns-in_ok-term-in-None-clause-size : goal.returns-in_ok-term-in-None-clause-size
returns-in_ok-term-in-None-clause-size c =
    let e : c.of.result.0 ≡ translated c.args.typed.now.0 = ap (λ p. p.0) c.of.ensures ∙ c.in_ok-term-in-None.ensures ∙
    ap translated c.term.ensures.term in
    subst (λ m. size m ≤ 10 * size c.args.typed.now.0 + 3) (sym e) (translated_size c.args.typed.now.0)

pub returns-in_ok-term-in-None-clause-height : goal.returns-in_ok-term-in-None-clause-height
returns-in_ok-term-in-None-clause-height c =
    let e : c.of.result.0 ≡ translated c.args.typed.now.0 = ap (λ p. p.0) c.of.ensures ∙ c.in_ok-term-in-None.ensures ∙
    ap translated c.term.ensures.term in
    let accepted = faultless_accepted (named_of c.args.program.now) c.args.typed.now.0 c.args.typed.now.1 c.requires.typed c.in-None.ensures
    in
    subst (λ m. height m < 2600) (sym e) (translated_height c.args.typed.now.0 accepted)
