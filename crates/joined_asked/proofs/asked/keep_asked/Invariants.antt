use Rattle.std.proofs.Common.{◌≡◌, true, length}
use Rattle.joined_numbers.specs.Ports.{with_ports}
use Rattle.joined_table.specs.Views.{sites_view, entries_view}
use Rattle.joined_asked.specs.Parts.{all_asked}
use Rattle.joined_asked.proofs.asked.keep_asked.Given as goal

abbrev pub invariant-loop-entry : goal.invariant-loop-entry
invariant-loop-entry l = all_asked (with_ports l.net l.ports) (length l.ports) (sites_view l.sites) (entries_view l.kept.items) ≡ true
