use Rattle.goi_tasks.proofs.Circuits.{prints_function}
use Rattle.goi_tasks.proofs.circuit.circuit_of.Goals as goal

pub returns : goal.returns
returns c =
    prints_function c.args.name.now c.args.cells c.args.forks c.args.function.0 c.args.function.1 c.into_net_at_zeros-net.result
    c.first.result c.arguments.result c.in_ok-text.field-0.items c.into_net_at_zeros-net.ensures.typed
    c.into_net_at_zeros-net.ensures.net c.first.ensures.first c.arguments.ensures
    c.in_ok-text.ensures
