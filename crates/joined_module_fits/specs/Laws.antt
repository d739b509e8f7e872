-- The statements of `law_joined_well_formed` and `law_empty_fits`.
use Rattle.std.specs.Prelude.{◌≡◌, ◌<◌, ◌^◌, ℕ, true, []}
use Rattle.joined_core.specs.Circuit.{Room}
use Rattle.verilog_tree.specs.WellFormed.{WellFormed}
use Rattle.joined_module.specs.Module.{ModuleTable, joined_module}
use Rattle.joined_module.specs.Fits.{module_fits}

-- of a table that fits, with so many cells and forks and so many ports, the module is one that the standard takes
abbrev pub JoinedWellFormed : Type 0
JoinedWellFormed = (T : ModuleTable) (z : Room) (n : ℕ) → module_fits T z n ≡ true → WellFormed (joined_module T z n) ≡ true

-- the table without rows fits, unless cells, forks or ports are more than tools count
abbrev pub EmptyFits : Type 0
EmptyFits = (z : Room) (n : ℕ) → z.cells < 2 ^ 31 → z.forks < 2 ^ 31 → n < 2 ^ 31 →
    module_fits (record { rows = []; start = 0 }) z n ≡ true
