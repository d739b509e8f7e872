use Rattle.joined_numbers.proofs.Runs.{rows_along}
use Rattle.joined_numbers.proofs.laws.law_rows_along.Goals as goal

pub returns : goal.returns
returns c = rows_along
