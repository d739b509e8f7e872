use Rattle.joined_data.specs.Views.{row_view}
use Rattle.joined_needs.specs.Views.{cells_of, forks_of}
use Rattle.joined_needs.proofs.Making.{made_put}
use Rattle.joined_needs.proofs.makes.put_made.Goals as goal

pub returns : goal.returns
returns c = λ ps m. rw c.from.ensures
    (made_put ps (row_view c.args.row.now) c.args.held.now c.args.made m c.in_ok-top.top c.in_ok-top.ensures.top
    (cells_of c.put_words.new.cells.items) c.in_ok-top.ensures.cells (forks_of c.fork_on.new.forks.items) c.in_ok-fork_on.ensures)
