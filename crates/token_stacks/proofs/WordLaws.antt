-- Words tell stacks apart, and so does their order.
use Rattle.std.proofs.Common.{◌≡◌, sym, ◌∙◌, ap}
use Rattle.std.specs.Bool.{Decides}
use Rattle.std.specs.Ordering.{is_eq}
use Rattle.std.specs.Cmp.{Equal-is}
use Rattle.std.specs.Cmp.Lexicographic.{bytes_decides}
use Rattle.std.proofs.lemmas.Cmp.{tied_itself}
use Rattle.token_stacks.specs.Signatures.{Boxes}
use Rattle.token_stacks.specs.Words.{box_words}
use Rattle.token_stacks.specs.Reading.{work_of, boxes_of, work_of-words, boxes_of-words}
use Rattle.token_stacks.specs.Order.{box_eq, box_cmp}
use Rattle.token_stacks.proofs.BoxOrder.{box_cmp-total, box_cmp-same}
use Rattle.token_stacks.specs.Laws.{WordsTell, BoxesInOrder}

pub words_tell : WordsTell
words_tell = record {
  work = λ m n e. sym (work_of-words m) ∙ ap work_of e ∙ work_of-words n;
  boxes = λ t u e. sym (boxes_of-words t) ∙ ap boxes_of e ∙ boxes_of-words u;
}

equal_decides : (t u : Boxes) → Decides (box_eq t u) (t ≡ u)
equal_decides t u =
    let d = bytes_decides (box_words t) (box_words u) in
    (λ h. words_tell.boxes t u (d.0 h), λ e. d.1 (ap box_words e))

tie_decides : (t u : Boxes) → Decides (is_eq (box_cmp t u)) (t ≡ u)
tie_decides t u =
    let d = Equal-is (box_cmp t u) in
    (λ h. box_cmp-same t u (d.0 h), λ e. d.1 (ap (λ (z : Boxes). box_cmp t z) (sym e) ∙ tied_itself box_cmp-total t))

pub boxes_in_order : BoxesInOrder
boxes_in_order = record { total = box_cmp-total; equal = equal_decides; tie = tie_decides }
