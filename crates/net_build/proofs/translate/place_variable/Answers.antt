use Rattle.std.proofs.Common.{rules, ◌≡◌, ◌+◌, length, refl, ap, ◌∙◌, arith}
use Rattle.pcf_values.specs.Views.{ty_of}
use Rattle.net_build.specs.declared.node.Node.TheVariants.{Der}
use Rattle.net_build.specs.Building.{one_at}
use Rattle.net_build.proofs.Placing.{variable_builds, node_grows}
use Rattle.net_build.proofs.translate.place_variable.Goals as goal

pub returns : goal.returns
returns c =
    let q : c.len.result ≡ length c.args.parts.now.context.items = (let e = ap length c.in_ok-add_uses.ensures.context in search rules) in
    let n = c.next-wire.result in
    variable_builds c.args.parts.now c.add_uses.new.parts _ c.args.depth c.args.i (n + 1) (ty_of c.in_ok-ty.ty) _ c.in_ok-add_uses.ensures
    c.next-wire.ensures c.in_ok-ty.ensures (omega (arith, c.next-wire.ensures))
    (node_grows c.add_uses.new.parts _ (Der n (n + 1)) refl c.in_ok-push.ensures.items refl)
    (c.in_ok-free.ensures ∙ ap (λ k. one_at k c.args.i (n + 1)) q)
