-- What is asked of one row, and of all rows of a list.
use Rattle.std.specs.Prelude.{ℕ, ◌+◌, ◌^◌, Bool, true, ◌&&◌, List, [], ◌∷◌, nat_lt}
use Rattle.net_build.specs.Nets.{NetTree}
use Rattle.joined_core.specs.Rows.{Site, row_moves}
use Rattle.joined_core.specs.Right.{row_right}
use Rattle.joined_core.specs.Listed.{Entry, site_of}
use Rattle.joined_module.specs.Rows.{way_fits}
use Rattle.joined_numbers.specs.Within.{entry_within}

-- it is one that a module can have
abbrev pub fits : Entry → Bool
fits e = way_fits e.row.to e.row.way && nat_lt (row_moves e.seen e.row) 256

-- it is that, and within so many ports, and right of the net
abbrev pub asked : NetTree → (ports : ℕ) → List (ℕ × Site) → Entry → Bool
asked net n sites e = fits e && (entry_within sites (2 ^ 64 + n) e && row_right net (site_of sites e.key) e.key e.seen e.row)

abbrev pub all_asked : NetTree → (ports : ℕ) → List (ℕ × Site) → List Entry → Bool
all_asked net n sites [] = true
all_asked net n sites (e ∷ es) = asked net n sites e && all_asked net n sites es
