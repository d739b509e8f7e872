use Rattle.net_text.proofs.OneAnswers.{one_answer}
use Rattle.net_text.proofs.laws.law_listing_one_answer.Goals as goal

pub returns : goal.returns
returns c = one_answer c.law_net_one_fault.ensures.one c.law_net_one_fault.ensures.none
