-- The view: which table a table of the code is.
use Rattle.std.specs.Prelude.{map}
use Rattle.joined_data.specs.Views.{row_view}
use Rattle.joined_module.specs.Module.{ModuleTable}
use Rattle.circuit_made.specs.declared.table.Made.{Made}

abbrev pub made_view : Made → ModuleTable
made_view m = record { rows = map row_view m.rows.now; start = m.start }
