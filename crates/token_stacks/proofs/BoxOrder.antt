-- The order of box stacks is total, and tells them apart as trees.
use Rattle.std.proofs.Common.{sym, ◌∙◌, ap}
use Rattle.std.specs.Cmp.{IsTotalOrder}
use Rattle.std.specs.FinMap.{IsAntisymmetric, nat_cmp-IsAntisymmetric, slice_cmp-IsAntisymmetric}
use Rattle.std.proofs.lemmas.Cmp.{on_total, nat_list_cmp_total}
use Rattle.token_stacks.specs.Words.{box_words}
use Rattle.token_stacks.specs.Reading.{boxes_of, boxes_of-words}
use Rattle.token_stacks.specs.Order.{box_cmp}

pub box_cmp-total : IsTotalOrder box_cmp
box_cmp-total = on_total box_words nat_list_cmp_total

-- only equal box stacks tie
pub box_cmp-same : IsAntisymmetric box_cmp
box_cmp-same a b e =
    sym (boxes_of-words a) ∙ ap boxes_of (slice_cmp-IsAntisymmetric nat_cmp-IsAntisymmetric (box_words a) (box_words b) e)
    ∙ boxes_of-words b
