use Rattle.joined_found.proofs.Finds.{row_taken}
use Rattle.joined_found.proofs.laws.law_row_taken.Goals as goal

pub returns : goal.returns
returns c = row_taken
