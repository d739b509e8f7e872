use Rattle.verilog_tree.proofs.Settled.{settles_once, settled_stays}
use Rattle.verilog_tree.proofs.laws.law_settled.Goals as goal

pub returns-clause-rests : goal.returns-clause-rests
returns-clause-rests c = settles_once

pub returns-clause-stays : goal.returns-clause-stays
returns-clause-stays c = settled_stays
