use Rattle.token_stacks.proofs.WordLaws.{boxes_in_order}
use Rattle.token_stacks.proofs.laws.law_boxes_in_order.Goals as goal

pub returns : goal.returns
returns c = boxes_in_order
