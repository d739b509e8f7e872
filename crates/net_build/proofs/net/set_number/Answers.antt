use Rattle.std.proofs.Common.{◌∙◌, sym, arith}
use Rattle.net_build.proofs.Renumbering.{set_there, set_past, set_other}
use Rattle.net_build.proofs.net.set_number.Goals as goal

pub returns-in-Const : goal.returns-in-Const
returns-in-Const c =
    let l = c.if-at-len.true in
    let n = c.len.ensures in
    set_there c.args.nodes.now.items c.args.at c.args.value c.in-Const.value c.in-Const.wire c.index.result.now
    (sym c.index.ensures ∙ c.in-Const.is) (omega arith)

pub returns-in_default : goal.returns-in_default
returns-in_default c =
    sym (set_other c.args.nodes.now.items c.args.at c.args.value c.index.result.now
    (λ x y e. c.in_default.not-Const x y (c.index.ensures ∙ e)))

pub returns-else-at-len : goal.returns-else-at-len
returns-else-at-len c =
    let h = c.if-at-len.false in
    let n = c.len.ensures in
    sym (set_past c.args.nodes.now.items c.args.at c.args.value (omega arith))
