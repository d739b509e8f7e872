use Rattle.std.proofs.lemmas.Grind.{common_steps}
use Rattle.std.proofs.Common.{arith}
use Rattle.std.proofs.Common.{ap}
use Rattle.std.proofs.lemmas.Result.{IfOk-weaker}
use Rattle.net_build.specs.declared.node.Node.TheVariants.{Ifz}
use Rattle.net_build.proofs.Ending.{ifz_ending}
use Rattle.net_build.proofs.closing.close_ifz.Goals as goal

pub returns : goal.returns
returns c =
    IfOk-weaker c.finish.result _ _
    (λ x f. ifz_ending c.args.parts.now c.contract.new.parts c.contract-2.new.parts c.finish.new.parts c.args.depth c.args.test c.args.then
    c.args.otherwise c.in_ok-branches.branches.items c.in_ok-free.free.items
    (Ifz c.args.test.out c.args.then.out c.args.otherwise.out c.next.result) x c.in_ok-branches.ensures c.in_ok-free.ensures
    (ap (Ifz c.args.test.out c.args.then.out c.args.otherwise.out) c.next.ensures) f)
    c.finish.ensures

pub contract-requires-clause-room : goal.contract-requires-clause-room
contract-requires-clause-room c = grind (arith, common_steps)

pub contract-requires-2-clause-room : goal.contract-requires-2-clause-room
contract-requires-2-clause-room c = grind (arith, common_steps)

pub next-requires : goal.next-requires
next-requires c = grind (arith, common_steps)
