-- An edge of the module is a row, one that waits, or a rest: the statements of `law_joined_edges`.
-- Of the world it is asked that `rst` is stable around each edge, and that all has settled before it. What is read past the end of a
-- vector or a memory is anything, afresh at each edge, and so is what is at the ports of arguments but at the start.
use Rattle.std.specs.Prelude.{◌≡◌, ◌<◌, ℕ, ◌^◌, true, false, List, length}
use Prim.Native.String.{String}
use Rattle.verilog_tree.specs.Meaning.{Store, edge, set_vec}
use Rattle.verilog_tree.specs.WellFormed.{WellFormed}
use Rattle.joined_core.specs.Circuit.{Room}
use Rattle.joined_module.specs.Names.{arg_name}
use Rattle.joined_module.specs.Ports.{set_args}
use Rattle.joined_module.specs.Module.{ModuleTable, joined_module}
use Rattle.joined_module.specs.Machine.{Tagged}
use Rattle.joined_module.specs.Fits.{module_fits}
use Rattle.joined_found.specs.Found.{each_row, rows_land, rows_keyed}
use Rattle.joined_edges.specs.Timed.{Timed, TimedRight, ends_calm, starts_right, timed_edge, timed_start}
use Rattle.joined_edges.specs.Stands.{Stands}

-- what is asked of a table
pub record TableFits (T : ModuleTable) (z : Room) (n : ℕ) : Type 0 where
  pub fits : module_fits T z n ≡ true
  pub well : WellFormed (joined_module T z n) ≡ true
  pub keyed : rows_keyed T.rows ≡ true
  pub lands : rows_land T.rows ≡ true
  pub calm : each_row ends_calm T.rows ≡ true
  pub starts : starts_right T ≡ true

-- an edge with `rst` at 1, from whatever was there, is the start, and holds what is at the ports
abbrev pub EdgeStarts : Type 0
EdgeStarts = (T : ModuleTable) (z : Room) (n : ℕ) → TableFits T z n → (ps : ℕ → ℕ) → ((i : ℕ) → i < n → ps i < 2 ^ 64) →
    (mem : ℕ → ℕ → Tagged) (S : Store) → S.vec "rst" ≡ 1 → ((i : ℕ) → i < n → S.vec (arg_name i) ≡ ps i) →
    Stands T z n ps (timed_start T mem) (edge (joined_module T z n) S)

-- an edge with `rst` at 0 is a row, one that waits, or a rest
abbrev pub EdgeGoes : Type 0
EdgeGoes = (T : ModuleTable) (z : Room) (n : ℕ) → TableFits T z n → (ps : ℕ → ℕ) → ((i : ℕ) → i < n → ps i < 2 ^ 64) →
    (t : Timed) (S : Store) → S.vec "rst" ≡ 0 → Stands T z n ps t S →
    (t.circuit.ended ≡ false → t.circuit.full ≡ false → TimedRight ps T.rows t) →
    Stands T z n ps (timed_edge ps z T.rows t) (edge (joined_module T z n) S)

-- what is at `rst` and at the ports, and what is read past ends, is no matter of what the registers stand for
abbrev pub StandsSame : Type 0
StandsSame = (T : ModuleTable) (z : Room) (n : ℕ) → TableFits T z n → (ps : ℕ → ℕ) (t : Timed) (S : Store) → Stands T z n ps t S →
    (stray : String → ℕ → ℕ) (ws : List ℕ) → length ws ≡ n → (v : ℕ) →
    Stands T z n ps t (set_args 0 ws (set_vec "rst" v (record S { stray = stray })))
