use Rattle.goi_engine.proofs.CircuitHeadlines.{circuit_headline}
use Rattle.goi_engine.proofs.circuit_headline.law_circuit_headline.Goals as goal

pub returns : goal.returns
returns c = circuit_headline
