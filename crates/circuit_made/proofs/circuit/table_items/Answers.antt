use Rattle.std.proofs.Common.{length}
use Rattle.circuit_made.specs.Views.{made_view}
use Rattle.circuit_made.proofs.Parts.{smaller_fits}
use Rattle.circuit_made.proofs.circuit.table_items.Goals as goal

pub joined_items-requires : goal.joined_items-requires
joined_items-requires c = record {
  fits = smaller_fits (made_view c.args.made) c.args.cells c.args.forks (length c.args.ports.now) c.requires.cells c.requires.forks
      c.requires.fits;
}

pub returns : goal.returns
returns c = c.joined_items.ensures
