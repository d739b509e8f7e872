use Rattle.goi_engine.proofs.Headlines.{headline, one_outcome}
use Rattle.goi_engine.proofs.headline.law_headline.Goals as goal

pub returns-clause-run : goal.returns-clause-run
returns-clause-run c = headline

pub returns-clause-one : goal.returns-clause-one
returns-clause-one c = one_outcome c.law_one_length.ensures c.law_one_program.ensures
