use Rattle.goi_engine.proofs.CallHeadlines.{call_headline, one_call_outcome}
use Rattle.goi_engine.proofs.call_headline.law_call_headline.Goals as goal

pub returns-clause-call : goal.returns-clause-call
returns-clause-call c = call_headline

pub returns-clause-one : goal.returns-clause-one
returns-clause-one c = one_call_outcome c.law_one_length.ensures c.law_one_function.ensures
