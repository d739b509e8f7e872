use Rattle.std.proofs.Common.{length}
use Rattle.joined_tree.proofs.registers.+add_found_registers.Given as goal

abbrev pub decreases-add_found_registers : goal.decreases-add_found_registers
decreases-add_found_registers l = length l.fields.now
