use Rattle.joined_found.proofs.Lands.{rows_do_land}
use Rattle.joined_found.proofs.laws.law_rows_land.Goals as goal

pub returns : goal.returns
returns c = rows_do_land
