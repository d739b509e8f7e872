use Rattle.std.proofs.Common.{length}
use Rattle.joined_tree.proofs.registers.+add_field_registers.Given as goal

abbrev pub decreases-add_field_registers : goal.decreases-add_field_registers
decreases-add_field_registers l = length l.fields.now
