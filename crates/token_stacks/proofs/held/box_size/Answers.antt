use Rattle.token_stacks.proofs.Laid.{lies_so}
use Rattle.token_stacks.proofs.Shapes.{has_box, box_fits, no_box}
use Rattle.token_stacks.proofs.held.box_size.Goals as goal

pub returns-then-held-eq0-clause-none : goal.returns-then-held-eq0-clause-none
returns-then-held-eq0-clause-none c = λ _. no_box _ _ _ _ (lies_so _ _ c.requires) c.if-held-eq0.true

pub returns-clause-some : goal.returns-clause-some
returns-clause-some c = has_box _ _ _ _ _ (lies_so _ _ c.requires) c.if-held-eq0.false c.index.ensures

pub returns-clause-fits : goal.returns-clause-fits
returns-clause-fits c = (box_fits _ _ _ (has_box _ _ _ _ _ (lies_so _ _ c.requires) c.if-held-eq0.false c.index.ensures)).0

pub returns-clause-long : goal.returns-clause-long
returns-clause-long c = (box_fits _ _ _ (has_box _ _ _ _ _ (lies_so _ _ c.requires) c.if-held-eq0.false c.index.ensures)).1
