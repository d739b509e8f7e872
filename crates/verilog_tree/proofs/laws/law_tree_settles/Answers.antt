use Rattle.verilog_tree.proofs.Kept.{tree_settles}
use Rattle.verilog_tree.proofs.laws.law_tree_settles.Goals as goal

pub returns : goal.returns
returns c = tree_settles
