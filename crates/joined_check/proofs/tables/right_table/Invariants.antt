use Rattle.std.proofs.Common.{◌≡◌, length}
use Rattle.joined_core.specs.Listed.{right_table}
use Rattle.joined_numbers.specs.Ports.{with_ports}
use Rattle.joined_table.specs.Views.{sites_view, entries_view}
use Rattle.joined_check.proofs.tables.right_table.Given as goal

abbrev pub invariant-loop-rest : goal.invariant-loop-rest
invariant-loop-rest l =
    right_table (with_ports l.net l.ports) (sites_view l.sites) (entries_view l.entries) ≡
    right_table (with_ports l.net l.ports) (sites_view l.sites) (entries_view l.rest)

abbrev pub decreases-loop-rest : goal.decreases-loop-rest
decreases-loop-rest l = length l.rest
