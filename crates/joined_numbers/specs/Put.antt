-- A circuit over compound cells as the module has it: keys and shapes are numbers.
use Rattle.std.specs.Prelude.{ℕ, true, false, List, [], ◌∷◌, Option, Some, None}
use Rattle.joined_rows.specs.Open.{Term}
use Rattle.joined_rows.specs.Compound.{Pointer, Lists}
use Rattle.joined_core.specs.Rows.{Site, nowhere}
use Rattle.joined_core.specs.Circuit.{JoinedToken, JoinedFork, JoinedCircuit, left_answer}
use Rattle.joined_module.specs.Rows.{Numbering}
use Rattle.joined_module.specs.Machine.{Tagged, tagged, tagged_at, RowFork, RowCircuit, looked_place}

-- a pointer by its shape's tag
abbrev pub put_pointer : (Term → ℕ) → Pointer → Tagged
put_pointer tag p = tagged (tag p.shape) p.place

abbrev pub put_pointers : (Term → ℕ) → List Pointer → List Tagged
put_pointers tag [] = []
put_pointers tag (p ∷ ps) = put_pointer tag p ∷ put_pointers tag ps

-- the two words of each cell
abbrev pub put_cells : (Term → ℕ) → (ℕ → ℕ → Pointer) → ℕ → ℕ → Tagged
put_cells tag ws n = tagged_at (put_pointer tag (ws n 0) ∷ put_pointer tag (ws n 1) ∷ [])

abbrev pub put_fork : (Term → ℕ) → JoinedFork → RowFork
put_fork tag f = record { boxes = put_pointers tag f.boxes; answered = f.answered; top = f.top }

abbrev pub put_forks : (Term → ℕ) → List JoinedFork → List RowFork
put_forks tag [] = []
put_forks tag (f ∷ fs) = put_fork tag f ∷ put_forks tag fs

-- the words of what is looked at
abbrev pub put_read : Numbering → Site → Lists → (ℕ → ℕ → Pointer) → ℕ → Tagged
put_read N w k ws = put_cells N.tag ws (looked_place w (put_pointers N.tag k.sigs) (put_pointers N.tag k.boxes))

-- with a token, and without one: then the run has ended
abbrev pub put_live : Numbering → Option JoinedToken → JoinedCircuit → RowCircuit
put_live N None C = record {
  key = 0;
  site = nowhere;
  value = left_answer C.result;
  sigs = [];
  boxes = [];
  read = put_cells N.tag C.store.words 0;
  cells = put_cells N.tag C.store.words;
  top = C.store.top;
  forks = put_forks N.tag C.forks;
  ended = true;
  full = C.full;
  moves = C.moves;
}
put_live N (Some k) C = record {
  key = N.key k.key;
  site = N.site k.key;
  value = k.value;
  sigs = put_pointers N.tag k.lists.sigs;
  boxes = put_pointers N.tag k.lists.boxes;
  read = put_read N (N.site k.key) k.lists C.store.words;
  cells = put_cells N.tag C.store.words;
  top = C.store.top;
  forks = put_forks N.tag C.forks;
  ended = false;
  full = C.full;
  moves = C.moves;
}

abbrev pub put : Numbering → JoinedCircuit → RowCircuit
put N C = put_live N C.live C
