use Rattle.std.proofs.Common.{ap, ◌∙◌}
use Rattle.std.proofs.lemmas.Result.{IfOk-weaker}
use Rattle.pcf_values.specs.Views.{ty_of}
use Rattle.net_build.specs.Building.{double_node, double_type}
use Rattle.net_build.proofs.Ending.{double_ending}
use Rattle.net_build.proofs.closing.close_double.Goals as goal

pub returns : goal.returns
returns c =
    IfOk-weaker c.finish.result _ _
    (λ x f. double_ending c.args.parts.now c.contract.new.parts c.finish.new.parts c.args.form c.args.depth c.args.left c.args.right
    c.in_ok-free.free.items (ty_of c.in_ok-ty.ty) c.node-node.result x c.in_ok-free.ensures
    (c.in_ok-ty.ensures ∙ (λ k. double_type c.args.form (c.ty.ensures k) (c.ty-2.ensures k)))
    (c.node-node.ensures ∙ ap (double_node c.args.form c.args.left.out c.args.right.out) c.next.ensures) f)
    c.finish.ensures
