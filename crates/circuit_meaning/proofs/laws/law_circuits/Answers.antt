use Rattle.circuit_meaning.proofs.Circuits.{table_circuits, table_counts}
use Rattle.circuit_meaning.proofs.laws.law_circuits.Goals as goal

pub returns-clause-circuits : goal.returns-clause-circuits
returns-clause-circuits c = table_circuits

pub returns-clause-counts : goal.returns-clause-counts
returns-clause-counts c = table_counts
