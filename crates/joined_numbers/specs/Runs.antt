-- What is asked of a net's table so that its module computes what the net's program or function means, as one number that computes.
use Rattle.std.specs.Prelude.{ℕ, Bool, ◌&&◌, List, length}
use Rattle.net_build.specs.Nets.{NetTree}
use Rattle.joined_core.specs.Rows.{Site}
use Rattle.joined_core.specs.Listed.{Entry, right_table}
use Rattle.joined_core.specs.Numbers.{key_number}
use Rattle.joined_core.specs.Circuit.{Room}
use Rattle.joined_module.specs.Rows.{rows_fit}
use Rattle.joined_module.specs.Module.{ModuleTable}
use Rattle.joined_module.specs.Fits.{module_fits}
use Rattle.joined_numbers.specs.Within.{start_key, rows_within, starts_within}
use Rattle.joined_numbers.specs.Ports.{with_ports}
use Rattle.joined_numbers.specs.Laws.{table_rows}

-- the module's table
abbrev pub table_of : NetTree → List (ℕ × Site) → List Entry → ModuleTable
table_of net sites entries = record { rows = table_rows sites entries; start = key_number entries (start_key net) }

-- the table is right of the net with numbers of ports at these places, its rows fit, and so do the module's widths
abbrev pub module_runs : NetTree → (places : List ℕ) → List (ℕ × Site) → List Entry → Room → Bool
module_runs net places sites entries z =
    right_table (with_ports net places) sites entries && (rows_fit entries && (rows_within (length places) sites entries
    && (starts_within net sites && module_fits (table_of net sites entries) z (length places))))
