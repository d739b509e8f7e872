use Rattle.std.proofs.Common.{map, max, ap, ◌∙◌, refl, sym}
use Rattle.joined_numbers.specs.At.{number_at}
use Rattle.joined_data.specs.Views.{row_view}
use Rattle.joined_needs.specs.Views.{needs_table}
use Rattle.joined_needs.proofs.Lists.{forks_long}
use Rattle.joined_needs.proofs.Counting.{counted_more}
use Rattle.joined_needs.proofs.needs.count_edge.Goals as goal

pub returns-clause-counted : goal.returns-clause-counted
returns-clause-counted c = λ start.
    counted_more (number_at c.args.ports.now) (needs_table (map row_view c.args.rows.now) start) c.args.counting.now _ c.requires.goes
    c.in_ok-an_edge.ensures refl c.max-counting.ensures
    (let forks = c.an_edge.new.walk.held.forks in
    c.max-counting-2.ensures ∙ ap (max c.args.counting.now.forks) (c.len.ensures ∙ forks.ok.0 ∙ sym (forks_long forks.items)))
