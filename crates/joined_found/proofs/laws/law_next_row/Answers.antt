use Rattle.joined_found.proofs.Finds.{next_row_is}
use Rattle.joined_found.proofs.laws.law_next_row.Goals as goal

pub returns : goal.returns
returns c = next_row_is
