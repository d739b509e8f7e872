use Rattle.verilog_tree.proofs.Once.{tree_declares}
use Rattle.verilog_tree.proofs.laws.law_tree_declares.Goals as goal

pub returns : goal.returns
returns c = tree_declares
