use Rattle.batch_lists.proofs.OneList.{one_list}
use Rattle.batch_lists.proofs.laws.law_one_list.Goals as goal

pub returns : goal.returns
returns c = one_list
