use Rattle.std.proofs.Common.{◌≡◌, length}
use Rattle.joined_core.specs.Listed.{site_of}
use Rattle.joined_table.specs.Views.{key_view, sites_view}
use Rattle.joined_check.proofs.tables.site.Given as goal

abbrev pub invariant-loop-rest : goal.invariant-loop-rest
invariant-loop-rest l = site_of (sites_view l.sites) (key_view l.key) ≡ site_of (sites_view l.rest) (key_view l.key)

abbrev pub decreases-loop-rest : goal.decreases-loop-rest
decreases-loop-rest l = length l.rest
