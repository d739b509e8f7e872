use Rattle.std.proofs.Common.{ap, ◌∙◌, map}
use Rattle.joined_needs.specs.Views.{cell_at, cells_of, pointer_of}
use Rattle.joined_needs.proofs.Lists.{cell_more}
use Rattle.joined_needs.proofs.makes.reach.Goals as goal

pub loop-alloc-preserved : goal.loop-alloc-preserved
loop-alloc-preserved c = λ j.
    ap (λ cs. cell_at (cells_of cs) j) c.in_ok-push.ensures.items
    ∙ cell_more c.loop-alloc.cells.items c.new.result j (ap (map pointer_of) c.new.ensures.items) ∙ c.loop-alloc.invariant j
