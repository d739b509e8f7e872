use Rattle.std.proofs.Common.{◌≡◌, ap, subst, map}
use Rattle.std.specs.Prelude.{IfOk}
use Rattle.joined_table.specs.Views.{source_view, fork_view, entry_view}
use Rattle.joined_data.specs.Views.{row_view}
use Rattle.joined_entries.specs.Views.{numbers_view}
use Rattle.joined_entries.proofs.Ways.{goes_on}
use Rattle.joined_entries.proofs.rows.onwards_row.Goals as goal

pub returns : goal.returns
returns c =
    subst (λ t. IfOk c.landing_row.result (λ r. row_view r ≡ t))
    (goes_on (numbers_view c.args.numbers.now) (entry_view c.args.entry.now) _ _ _ _ _ c.site_at.ensures
    (ap (map source_view) c.as_slice.ensures.value) (ap (map fork_view) c.deref.ensures.value) c.in_ok-fork.ensures
    c.walker_worth-worth.ensures) c.landing_row.ensures
