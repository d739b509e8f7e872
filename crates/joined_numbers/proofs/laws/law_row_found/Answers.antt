use Rattle.joined_numbers.proofs.Runs.{row_found_is}
use Rattle.joined_numbers.proofs.laws.law_row_found.Goals as goal

pub returns : goal.returns
returns c = row_found_is
