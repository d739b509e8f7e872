use Rattle.std.proofs.Common.{ap, ◌∙◌}
use Rattle.std.proofs.lemmas.Result.{IfOk-weaker}
use Rattle.pcf_values.specs.Terms.{arrow}
use Rattle.pcf_values.specs.Views.{ty_of}
use Rattle.net_build.specs.declared.node.Node.TheVariants.{Lam}
use Rattle.net_build.proofs.Ending.{lam_ending}
use Rattle.net_build.proofs.closing.close_fun.Goals as goal

pub returns : goal.returns
returns c =
    let a = ty_of c.args.ty.now in
    IfOk-weaker c.finish.result _ _
    (λ x f. lam_ending c.args.parts.now c.bind.new.parts c.finish.new.parts c.args.depth a (ty_of c.in_ok-whole.whole) c.args.body
    c.bind.new.free.items c.in_ok-variable.variable (Lam c.args.body.out c.in_ok-variable.variable c.next.result) x
    c.in_ok-variable.ensures
    (c.in_ok-whole.ensures ∙ ap (arrow a) c.ty.ensures) (ap (Lam c.args.body.out c.in_ok-variable.variable) c.next.ensures) f)
    c.finish.ensures
