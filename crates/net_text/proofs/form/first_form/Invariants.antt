use Rattle.std.proofs.Common.{◌≡◌, length}
use Rattle.net_text.specs.NodeText.{form_among}
use Rattle.net_text.proofs.form.first_form.Given as goal

abbrev pub invariant-loop-left : goal.invariant-loop-left
invariant-loop-left l = form_among l.left l.text ≡ form_among l.forms l.text

abbrev pub decreases-loop-left : goal.decreases-loop-left
decreases-loop-left l = length l.left
