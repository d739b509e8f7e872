use Rattle.std.proofs.Common.{ap, ◌∙◌, nat_eq, if◌then◌else◌}
use Rattle.joined_needs.specs.Views.{pointers_of}
use Rattle.joined_needs.proofs.Lists.{cell_put}
use Rattle.joined_needs.proofs.makes.put_cell.Goals as goal

pub returns-clause-cells : goal.returns-clause-cells
returns-clause-cells c = λ j.
    cell_put c.reach.new.cells.items c.args.words c.args.place j c.in_ok-reach.ensures.long
    ∙ ap (λ ps. if nat_eq j c.args.place then pointers_of c.args.words else ps) (c.in_ok-reach.ensures.same j)
