use Rattle.std.proofs.Common.{ap, ◌∙◌}
use Rattle.std.proofs.lemmas.Result.{IfOk-weaker}
use Rattle.pcf_values.specs.Views.{ty_of}
use Rattle.net_build.specs.declared.node.Node.TheVariants.{App}
use Rattle.net_build.specs.NetOf.{domain, codomain}
use Rattle.net_build.proofs.Growing.{kept_twice, inside_twice}
use Rattle.net_build.proofs.Ending.{app_ending}
use Rattle.net_build.proofs.closing.close_app.Goals as goal

pub ty-requires-2 : goal.ty-requires-2
ty-requires-2 c =
    inside_twice c.args.parts.now c.close_box.new.parts c.contract.new.parts _ _ _ _ c.args.function.out c.in_ok-boxed.ensures.bundle.grows
    c.in_ok-free.ensures.grows c.requires.function.0

pub returns : goal.returns
returns c =
    let k = kept_twice c.args.parts.now c.close_box.new.parts c.contract.new.parts _ _ _ _ c.args.function.out
    c.in_ok-boxed.ensures.bundle.grows c.in_ok-free.ensures.grows c.requires.function.0 in
    IfOk-weaker c.finish.result _ _
    (λ x f. app_ending c.args.parts.now c.close_box.new.parts c.contract.new.parts c.finish.new.parts c.args.depth (ty_of c.in_ok-from.from)
    (ty_of c.in_ok-to.to) c.args.function c.args.argument
    c.in_ok-boxed.boxed.free.items c.in_ok-free.free.items c.in_ok-boxed.boxed.out
    (App c.args.function.out c.in_ok-boxed.boxed.out c.next.result) x (c.in_ok-from.ensures ∙ ap domain c.ty.ensures)
    (c.in_ok-to.ensures ∙ ap codomain (c.ty-2.ensures ∙ k))
    c.in_ok-boxed.ensures.bundle c.in_ok-boxed.ensures.wire c.in_ok-free.ensures
    (ap (App c.args.function.out c.in_ok-boxed.boxed.out) c.next.ensures) f)
    c.finish.ensures
