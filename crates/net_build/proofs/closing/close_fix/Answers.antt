use Rattle.std.proofs.lemmas.Grind.{common_steps}
use Rattle.std.proofs.Common.{rules}
use Rattle.std.proofs.Common.{◌≡◌, suc, ◌+◌, ap, subst, arith}
use Rattle.std.proofs.lemmas.Result.{IfOk-weaker}
use Rattle.pcf_values.specs.Views.{ty_of}
use Rattle.net_build.specs.declared.node.Node.TheVariants.{FixBox}
use Rattle.net_build.specs.Building.{Binds}
use Rattle.net_build.proofs.Ending.{fix_ending}
use Rattle.net_build.proofs.closing.close_fix.Goals as goal

pub returns : goal.returns
returns c =
    let a = ty_of c.args.ty.now in
    let e : c.args.depth + 1 ≡ suc c.args.depth = omega arith in
    let b = subst (λ d. Binds c.args.parts.now c.bind.new.parts d a c.args.body.free.items c.bind.new.free.items c.in_ok-variable.variable)
    e c.in_ok-variable.ensures in
    IfOk-weaker c.finish.result _ _
    (λ x f. fix_ending c.args.parts.now c.bind.new.parts c.doors.new.parts c.finish.new.parts c.args.depth a (ty_of c.in_ok-copy.field-0)
    c.args.body c.bind.new.free.items c.in_ok-free.free.items c.in_ok-variable.variable
    (FixBox c.args.body.out c.in_ok-variable.variable c.next.result) x b c.in_ok-free.ensures c.in_ok-copy.ensures
    (ap (FixBox c.args.body.out c.in_ok-variable.variable) c.next.ensures) f)
    c.finish.ensures

pub doors-requires-clause-falling : goal.doors-requires-clause-falling
doors-requires-clause-falling c = search rules

pub doors-requires-clause-room : goal.doors-requires-clause-room
doors-requires-clause-room c = grind (arith, common_steps)

pub bind-requires-clause-falling : goal.bind-requires-clause-falling
bind-requires-clause-falling c = search rules

pub bind-requires-clause-room : goal.bind-requires-clause-room
bind-requires-clause-room c = search rules

pub next-requires : goal.next-requires
next-requires c = grind (arith, common_steps)
