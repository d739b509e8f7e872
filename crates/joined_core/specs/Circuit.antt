-- The circuit over compound cells that runs a table of joined rows: its registers, and one cycle of its clock.
-- In a cycle one pointer's shape is looked at at most, or whether the value is 0; one cell is read at most, the one that was looked at, and
-- one is made at most. Where an answer comes to a fork that was open before, the cells made since are given back, and the fork's own boxes
-- are taken. What the rows do has no sizes. A circuit does the same as far as it has room: `full` is raised where a pair has no row, and
-- where there are too few cells or forks.
use Rattle.std.specs.Prelude.{ℕ, zero, suc, ◌+◌, Bool, true, false, List, [], ◌∷◌, length, Option, Some, None, nat_lt}
use Rattle.std.specs.Prelude.{◌||◌, if◌then◌else◌}
use Rattle.pcf_values.specs.declared.val.Val.{Val}
use Rattle.pcf_values.specs.declared.val.Val.TheVariants.{Number}
use Rattle.token_stacks.specs.Signatures.{star}
use Rattle.net_build.specs.Nets.{NetTree}
use Rattle.interleave_laws.specs.Start.{start_of}
use Rattle.net_rows.specs.Rows.{channel_of}
use Rattle.joined_rows.specs.Open.{Term, named, a_star, a_left, a_right, a_pair, an_again, Amount, Walker, asks, says, spot_of, val_of}
use Rattle.joined_rows.specs.Compound.{Pointer, point, Store, has_name, with_cell, back_to, terms_of, pointers_for, Lists}
use Rattle.joined_rows.specs.CompoundTicks.{none}
use Rattle.joined_rows.specs.Ticks.{of_names, NamedHalf, waiting, left, NamedFork, Named}
use Rattle.joined_core.specs.Rows.{Key, key, key_of, Site, nowhere, on_sigs, on_boxes, on_value, Seen, nothing, shaped, zero_is, is_zero}
use Rattle.joined_core.specs.Rows.{Source, a_sig, a_box, a_word, a_part, given_at, Second, Way, onwards, answers_run, answers_fork}
use Rattle.joined_core.specs.Rows.{JoinedRow, Table, row_moves}

pub record JoinedToken : Type 0 where
  pub value : Val
  pub key : Key
  pub lists : Lists

-- an open fork: its boxes, its left answer once that came, and the cells in use when it was opened
pub record JoinedFork : Type 0 where
  pub boxes : List Pointer
  pub answered : Option Val
  pub top : ℕ

pub record JoinedCircuit : Type 0 where
  pub live : Option JoinedToken
  -- the innermost first
  pub forks : List JoinedFork
  pub store : Store
  pub result : Option Val
  pub full : Bool
  pub moves : ℕ

abbrev pub stuck : JoinedCircuit → JoinedCircuit
stuck C = record C { full = true }

-- a pointer of a list; past its end `*`
abbrev pub pointer_at : List Pointer → ℕ → Pointer
pointer_at [] n = point a_star 0
pointer_at (p ∷ ps) zero = p
pointer_at (p ∷ ps) (suc n) = pointer_at ps n

-- what is looked at
abbrev pub looked_at : Site → Lists → Pointer
looked_at nowhere k = point a_star 0
looked_at on_sigs k = pointer_at k.sigs 0
looked_at on_boxes k = pointer_at k.boxes 0
looked_at on_value k = point a_star 0

abbrev pub seen_at : Site → JoinedToken → Seen
seen_at nowhere k = nothing
seen_at on_sigs k = shaped (pointer_at k.lists.sigs 0).shape
seen_at on_boxes k = shaped (pointer_at k.lists.boxes 0).shape
seen_at on_value k = zero_is (is_zero k.value)

-- a name's pointer; a shape without names has no cell, and its place is that of the next one
abbrev pub source_of : Store → Pointer → Lists → Source → Pointer
source_of V p k (a_sig i) = pointer_at k.sigs i
source_of V p k (a_box i) = pointer_at k.boxes i
source_of V p k (a_word i) = V.words p.place i
source_of V p k (a_part x) = point x (if has_name x then p.place else V.top)

abbrev pub row_names : Store → Site → Lists → List Source → ℕ → Pointer
row_names V w k gs n = source_of V (looked_at w k) k (given_at gs n)

-- a term that needs the new cell
abbrev pub is_new : Term → Bool
is_new (named n) = false
is_new a_star = false
is_new (a_left x) = has_name x
is_new (a_right x) = has_name x
is_new (a_pair x y) = has_name x || has_name y
is_new (an_again x y) = has_name x || has_name y

abbrev pub any_new : List Term → Bool
any_new [] = false
any_new (x ∷ xs) = is_new x || any_new xs

abbrev pub forks_new : List NamedFork → Bool
forks_new [] = false
forks_new (f ∷ fs) = any_new f.boxes || forks_new fs

-- whether the row makes a cell
abbrev pub makes_cell : Named → Bool
makes_cell Y = any_new (terms_of (spot_of Y.live).work) || (any_new (spot_of Y.live).boxes || forks_new Y.forks)

-- how many cells are in use when a fork is opened: with the new one, if it or one around it needs that
abbrev pub top_by : Bool → ℕ → ℕ
top_by b n = if b then suc n else n

-- its left answer, once that came
abbrev pub half_answer : (Amount → Val) → NamedHalf → Option Val
half_answer v (waiting q) = None
half_answer v (left a) = Some (v a)

-- the forks that the row leaves open, inside of those around
abbrev pub forks_on : (ℕ → Pointer) → ℕ → (Amount → Val) → List NamedFork → List JoinedFork → List JoinedFork
forks_on g n v [] around = around
forks_on g n v (f ∷ fs) around = record {
  boxes = pointers_for g n f.boxes;
  answered = half_answer v f.half;
  top = top_by (forks_new (f ∷ fs)) n;
} ∷ forks_on g n v fs around

-- the value of an answer; a question keeps the value that was there
abbrev pub value_of : Val → (Amount → Val) → Walker → Val
value_of u v (asks s) = u
value_of u v (says a s) = v a

-- what values' names stand for
abbrev pub amount_of : (ℕ → Val) → Amount → Val
amount_of vs a = val_of (of_names (record { sigs = λ n. star; vals = vs })) a

-- the token after a row, where u was the value
abbrev pub token_on : (ℕ → Pointer) → ℕ → Val → (Amount → Val) → Walker → JoinedToken
token_on g n u v x = record {
  value = value_of u v x;
  key = key_of x;
  lists = record { sigs = pointers_for g n (terms_of (spot_of x).work); boxes = pointers_for g n (spot_of x).boxes };
}

-- a cell's two words
abbrev pub two_words : (ℕ → Pointer) → ℕ → Pointer
two_words g zero = g 0
two_words g (suc zero) = g 1
two_words g (suc (suc n)) = point a_star 0

abbrev pub stored : Bool → Store → (ℕ → Pointer) → Store
stored b V g = if b then with_cell V (two_words g) else V

-- the registers after a row that ends there
abbrev pub lands : Named → Store → (ℕ → Pointer) → Val → (Amount → Val) → List JoinedFork → JoinedCircuit → JoinedCircuit
lands Y V g u v around C = record C {
  live = Some (token_on g V.top u v Y.live);
  forks = forks_on g V.top v Y.forks around;
  store = stored (makes_cell Y) V g;
}

-- value 0 is the answer that came, and any other the left one
abbrev pub left_answer : Option Val → Val
left_answer None = Number 0
left_answer (Some v) = v

abbrev pub two_values : Val → Option Val → ℕ → Val
two_values a o zero = a
two_values a o (suc n) = left_answer o

-- the pointers of a fork's names
abbrev pub fork_lists : JoinedFork → Lists
fork_lists f = record { sigs = []; boxes = f.boxes }

abbrev pub fork_names : Store → Second → JoinedFork → ℕ → Pointer
fork_names V q f = row_names V nowhere (fork_lists f) q.given

-- an answer at the innermost fork, where u was the value
abbrev pub meets_fork : List JoinedFork → Second → Val → Val → JoinedCircuit → JoinedCircuit
meets_fork [] q u a C = stuck C
meets_fork (f ∷ fs) q u a C =
    lands q.to (back_to C.store f.top) (fork_names (back_to C.store f.top) q f) u (amount_of (two_values a f.answered)) fs C

-- how the row ends
abbrev pub ends : Way → Named → (ℕ → Pointer) → Val → (Amount → Val) → JoinedCircuit → JoinedCircuit
ends onwards Y g u v C = lands Y C.store g u v C.forks C
ends answers_run Y g u v C = record C { live = None; result = Some (value_of u v Y.live) }
ends (answers_fork q) Y g u v C = meets_fork C.forks q u (value_of u v Y.live) C

abbrev pub joined_row : Site → Seen → JoinedRow → JoinedToken → JoinedCircuit → JoinedCircuit
joined_row w e r k C =
    ends r.way r.to (row_names C.store w k.lists r.given) k.value (amount_of (λ n. k.value))
    (record C { moves = C.moves + row_moves e r })

abbrev pub row_found : Site → Seen → Option JoinedRow → JoinedToken → JoinedCircuit → JoinedCircuit
row_found w e None k C = stuck C
row_found w e (Some r) k C = joined_row w e r k C

abbrev pub row_on : Table → Option JoinedToken → JoinedCircuit → JoinedCircuit
row_on T None C = C
row_on T (Some k) C = row_found (T.site k.key) (seen_at (T.site k.key) k) (T.row k.key (seen_at (T.site k.key) k)) k C

-- one row of the table, whatever room that takes
abbrev pub a_row : Table → JoinedCircuit → JoinedCircuit
a_row T C = if C.full then C else row_on T C.live C

-- how many cells and forks a circuit has
pub record Room : Type 0 where
  pub cells : ℕ
  pub forks : ℕ

-- more are in use than there are
abbrev pub no_room : Room → JoinedCircuit → Bool
no_room z C = nat_lt z.cells C.store.top || nat_lt z.forks (length C.forks)

-- one cycle: a row, if there is room for what it makes
abbrev pub joined_clock : Table → Room → JoinedCircuit → JoinedCircuit
joined_clock T z C = if no_room z (a_row T C) then stuck C else a_row T C

-- so many cycles
abbrev pub joined_clocks : Table → Room → ℕ → JoinedCircuit → JoinedCircuit
joined_clocks T z zero C = C
joined_clocks T z (suc k) C = joined_clocks T z k (joined_clock T z C)

-- after reset, whatever the memory has
abbrev pub joined_powered : NetTree → (ℕ → ℕ → Pointer) → JoinedCircuit
joined_powered net mem = record {
  live = Some (record { value = Number 0; key = key false (channel_of (start_of net)) []; lists = none });
  forks = [];
  store = record { words = mem; top = 0 };
  result = None;
  full = false;
  moves = 0;
}

abbrev pub joined_circuit : NetTree → Table → Room → (ℕ → ℕ → Pointer) → ℕ → JoinedCircuit
joined_circuit net T z mem k = joined_clocks T z k (joined_powered net mem)
