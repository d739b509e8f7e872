-- The views: which rows with their waits the data of a run stands for.
use Rattle.std.specs.Prelude.{ℕ, zero, suc, List, [], ◌∷◌, ◌++◌, map, Vec}
use Rattle.std.specs.Option.{option_map}
use Rattle.std.specs.declared.alloc.Global.{Global}
use Rattle.joined_module.specs.Rows.{ModuleRow}
use Rattle.joined_module.specs.Module.{ModuleTable}
use Rattle.joined_module.specs.Machine.{Tagged, tagged, tagged_at, looked_place, RowFork, RowCircuit}
use Rattle.joined_edges.specs.Timed.{Timed}
use Rattle.joined_data.specs.Views.{site_view, row_view}
use Rattle.joined_needs.specs.declared.walk.Pointer.{Pointer}
use Rattle.joined_needs.specs.declared.walk.Open.{Open}
use Rattle.joined_needs.specs.declared.walk.Held.{Held}
use Rattle.joined_needs.specs.declared.walk.Walk.{Walk}

abbrev pub pointer_of : Pointer → Tagged
pointer_of p = tagged p.tag p.place

abbrev pub pointers_of : Vec Pointer Global → List Tagged
pointers_of v = map pointer_of v.items

abbrev pub open_of : Open → RowFork
open_of f = record { boxes = pointers_of f.boxes; answered = f.answered; top = f.top }

-- the innermost stands last
abbrev pub forks_of : List Open → List RowFork
forks_of [] = []
forks_of (f ∷ fs) = forks_of fs ++ open_of f ∷ []

abbrev pub cells_of : List (Vec Pointer Global) → List (List Tagged)
cells_of cs = map pointers_of cs

-- the words of a cell, of which one that was never made has none
abbrev pub cell_at : List (List Tagged) → ℕ → List Tagged
cell_at [] n = []
cell_at (c ∷ cs) zero = c
cell_at (c ∷ cs) (suc n) = cell_at cs n

abbrev pub words_of : List (List Tagged) → ℕ → ℕ → Tagged
words_of cs n = tagged_at (cell_at cs n)

abbrev pub held_of : Held → RowCircuit
held_of h = record {
  key = h.key;
  site = site_view h.site;
  value = h.value;
  sigs = pointers_of h.sigs;
  boxes = pointers_of h.boxes;
  read = words_of (cells_of h.cells.items) (looked_place (site_view h.site) (pointers_of h.sigs) (pointers_of h.boxes));
  cells = words_of (cells_of h.cells.items);
  top = h.top;
  forks = forks_of h.forks.items;
  ended = h.ended;
  full = h.full;
  moves = h.moves;
}

abbrev pub timed_of : Walk → Timed
timed_of w = record {
  circuit = held_of w.held;
  row = option_map row_view w.row;
  late = w.late;
  seen = w.seen;
  fresh = w.fresh;
  changed = w.changed;
  done = w.done;
}

-- a table of these rows
abbrev pub needs_table : List ModuleRow → ℕ → ModuleTable
needs_table rows start = record { rows = rows; start = start }
