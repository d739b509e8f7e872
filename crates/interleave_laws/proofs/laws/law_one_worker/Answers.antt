use Rattle.interleave_laws.proofs.OneWorker.{one_least, one_leads, one_finished, one_next, one_ends, one_finishes, one_prefix}
use Rattle.interleave_laws.proofs.OneWorker.{one_continues, least_found, least_none}
use Rattle.interleave_laws.proofs.Stays.{least_stays, one_walks}
use Rattle.interleave_laws.proofs.laws.law_one_worker.Goals as goal

pub returns-clause-least : goal.returns-clause-least
returns-clause-least c = one_least

pub returns-clause-leads : goal.returns-clause-leads
returns-clause-leads c = one_leads

pub returns-clause-finished : goal.returns-clause-finished
returns-clause-finished c = one_finished

pub returns-clause-next : goal.returns-clause-next
returns-clause-next c = one_next

pub returns-clause-ends : goal.returns-clause-ends
returns-clause-ends c = one_ends

pub returns-clause-finishes : goal.returns-clause-finishes
returns-clause-finishes c = one_finishes

pub returns-clause-prefix : goal.returns-clause-prefix
returns-clause-prefix c = one_prefix

pub returns-clause-stays : goal.returns-clause-stays
returns-clause-stays c = least_stays

pub returns-clause-walks : goal.returns-clause-walks
returns-clause-walks c = one_walks

pub returns-clause-continues : goal.returns-clause-continues
returns-clause-continues c = one_continues

pub returns-clause-finds : goal.returns-clause-finds
returns-clause-finds c = least_found

pub returns-clause-misses : goal.returns-clause-misses
returns-clause-misses c = least_none
