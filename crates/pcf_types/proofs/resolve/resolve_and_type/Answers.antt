use Rattle.std.proofs.Common.{[], sym, subst}
use Rattle.pcf_values.specs.Typing.{HasType}
use Rattle.pcf_values.specs.Views.{term_of, named_of}
use Rattle.pcf_types.specs.Views.{known_of}
use Rattle.pcf_types.proofs.Sound.{good}
use Rattle.pcf_types.proofs.resolve.resolve_and_type.Goals as goal

pub of-requires : goal.of-requires
of-requires c =
    let judged = c.in_ok-judged.judged in
    let (_, typed) = good (named_of c.args.program.now) [] (term_of judged.term.value, known_of judged.ty) c.in_ok-judged.ensures.ok in
    subst (HasType [] (term_of c.into_inner.result)) (sym c.in_ok-ty.ensures)
    (subst (λ m. HasType [] (term_of m) (known_of judged.ty)) (sym c.into_inner.ensures) (typed c.in_ok-judged.ensures.fit))
