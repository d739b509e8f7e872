use Rattle.std.proofs.Common.{◌≡◌, [], subst, sym}
use Rattle.std.proofs.lemmas.Bool.{MatchBool-at_true, cases_from_iff, iff_false}
use Rattle.pcf_values.specs.Typing.{HasType}
use Rattle.net_build.specs.NetOf.{net_of}
use Rattle.net_terms.specs.Answered.{TermOrNone}
use Rattle.net_terms.proofs.ReadingBack.{is_net, kept_is, not_same}
use Rattle.net_terms.proofs.readback.checked.Goals as goal

pub returns : goal.returns
returns c =
    let h = c.args.height in
    let net = c.args.net.now in
    let m = c.args.program.0 in
    let same = c.in_ok-same.ensures in
    let t : HasType [] m c.args.program.1 = subst (λ p. HasType [] p.0 p.1) c.program.view_is c.program.invariant in
    subst (TermOrNone h net) (sym c.then_some.ensures)
    (kept_is (TermOrNone h net) c.in_ok-same.same c.args.program
    (λ e. (
      is_net h net m c.requires.only (subst (HasType [] m) c.requires.ground t)
          (MatchBool-at_true _ (net_of m ≡ net → ⊥) e (cases_from_iff same)),
      c.requires.ground,
    ))
    (λ e. not_same h net m c.requires.only (iff_false same e)))
