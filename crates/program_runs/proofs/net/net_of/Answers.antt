use Rattle.program_runs.proofs.Sized.{few_wires, few_nodes}
use Rattle.program_runs.proofs.net.net_of.Goals as goal

pub build-requires-clause-wires : goal.build-requires-clause-wires
build-requires-clause-wires c = few_wires c.law_net_size.ensures c.args.program.now.0 c.requires.size c.requires.height

pub build-requires-clause-nodes : goal.build-requires-clause-nodes
build-requires-clause-nodes c = few_nodes c.law_net_size.ensures c.args.program.now.0 c.requires.size c.requires.height
