use Rattle.joined_numbers.proofs.Runs.{row_needs, row_looks_there}
use Rattle.joined_numbers.proofs.laws.law_row_needs.Goals as goal

pub returns-clause-needs : goal.returns-clause-needs
returns-clause-needs c = row_needs

pub returns-clause-looks : goal.returns-clause-looks
returns-clause-looks c = row_looks_there
