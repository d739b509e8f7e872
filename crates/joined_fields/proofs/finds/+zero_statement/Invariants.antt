use Rattle.std.proofs.Common.{length}
use Rattle.joined_fields.proofs.finds.+zero_statement.Given as goal

abbrev pub decreases-zero_statement : goal.decreases-zero_statement
decreases-zero_statement l = length l.rows.now
