use Rattle.std.proofs.Common.{length}
use Rattle.joined_tree.proofs.pointers.+operand_or.Given as goal

abbrev pub decreases-operand_or : goal.decreases-operand_or
decreases-operand_or l = length l.rest.now
