use Rattle.goi_reports.proofs.Counting.{adds_up}
use Rattle.goi_reports.proofs.laws.law_tally_adds_up.Goals as goal

pub returns : goal.returns
returns c = adds_up
