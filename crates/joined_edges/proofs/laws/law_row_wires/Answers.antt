use Rattle.joined_edges.proofs.Row.{row_wires}
use Rattle.joined_edges.proofs.laws.law_row_wires.Goals as goal

pub returns : goal.returns
returns c = row_wires
