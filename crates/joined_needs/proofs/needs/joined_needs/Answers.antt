use Rattle.std.proofs.Common.{map, ⊎_elim, inl, inr, arith}
use Rattle.joined_numbers.specs.At.{number_at}
use Rattle.joined_data.specs.Views.{row_view}
use Rattle.joined_needs.specs.Views.{needs_table}
use Rattle.joined_needs.proofs.needs.joined_needs.Goals as goal

pub returns : goal.returns
returns c =
    let ps = number_at c.args.ports.now in
    let most = c.from.ensures in
    c.told-needs.ensures ps (needs_table (map row_view c.args.rows.now) c.args.start)
    (c.in_ok-count_run.ensures.counted c.args.start (c.begin-counting.ensures.counted ps))
    (⊎_elim (λ e. inl (omega (arith, e, most))) inr c.in_ok-count_run.ensures.ends)
