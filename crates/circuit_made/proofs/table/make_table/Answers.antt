use Rattle.std.proofs.Common.{length}
use Rattle.circuit_made.specs.Views.{made_view}
use Rattle.circuit_made.proofs.Parts.{empty_is, empty_fit}
use Rattle.circuit_made.proofs.table.make_table.Goals as goal

pub returns-in-None-clause-table : goal.returns-in-None-clause-table
returns-in-None-clause-table c =
    empty_is c.args.net.now c.args.ports.now (made_view c.empty.result) c.empty.ensures c.requires.ports

pub returns-in-None-clause-fits : goal.returns-in-None-clause-fits
returns-in-None-clause-fits c = empty_fit (length c.args.ports.now) (made_view c.empty.result) c.empty.ensures c.requires.ports
