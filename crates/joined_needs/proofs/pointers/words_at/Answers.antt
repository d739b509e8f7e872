use Rattle.std.proofs.Common.{ap, ◌∙◌, map}
use Rattle.joined_needs.specs.Views.{pointer_of}
use Rattle.joined_needs.proofs.Lists.{cell_there, cell_none}
use Rattle.joined_needs.proofs.pointers.words_at.Goals as goal

pub returns-then-place-cells : goal.returns-then-place-cells
returns-then-place-cells c =
    ap (map pointer_of) c.deref.ensures.value
    ∙ cell_there c.args.cells.now c.index-cells-place.result c.args.place c.if-place-cells.true c.index-cells-place.is

pub returns : goal.returns
returns c = cell_none c.args.cells.now c.args.place c.if-place-cells.false
