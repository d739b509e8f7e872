-- What the numbers of a table are asked beside that its rows are right: that each row takes its pointers from within the lists, that a
-- number is one of 64 bits or a port's, and that there is something to look at where a row leads.
use Rattle.std.specs.Prelude.{ℕ, ◌+◌, ◌^◌, Bool, true, false, ◌&&◌, List, [], ◌∷◌, length, nat_eq, nat_lt}
use Rattle.pcf_values.specs.declared.val.Val.{Val}
use Rattle.pcf_values.specs.declared.val.Val.TheVariants.{Number, Overflow}
use Rattle.net_build.specs.Nets.{NetTree}
use Rattle.interleave_laws.specs.Start.{start_of}
use Rattle.net_rows.specs.Rows.{channel_of}
use Rattle.joined_rows.specs.Open.{Term, Amount, some, known, more_than, less_than, both, Walker, asks, says, spot_of}
use Rattle.joined_rows.specs.Compound.{terms_of}
use Rattle.joined_rows.specs.Ticks.{NamedHalf, waiting, left, NamedFork, Named}
use Rattle.joined_core.specs.Rows.{Key, key, key_of, Site, nowhere, on_sigs, on_boxes, on_value, Seen, nothing, shaped, zero_is}
use Rattle.joined_core.specs.Rows.{Source, a_sig, a_box, a_word, a_part, Second, Way, onwards, answers_run, answers_fork, JoinedRow}
use Rattle.joined_core.specs.Listed.{Entry, site_of}

-- a pointer's source is within so many signatures and boxes, and a cell has two words
abbrev pub source_within : (sigs boxes : ℕ) → Source → Bool
source_within m n (a_sig i) = nat_lt i m
source_within m n (a_box i) = nat_lt i n
source_within m n (a_word i) = nat_lt i 2
source_within m n (a_part x) = true

abbrev pub sources_within : (sigs boxes : ℕ) → List Source → Bool
sources_within m n [] = true
sources_within m n (s ∷ ss) = source_within m n s && sources_within m n ss

-- a number is below this bound
abbrev pub val_within : ℕ → Val → Bool
val_within b (Number n) = nat_lt n b
val_within b Overflow = true

abbrev pub amount_within : ℕ → Amount → Bool
amount_within b (some n) = true
amount_within b (known v) = val_within b v
amount_within b (more_than a) = amount_within b a
amount_within b (less_than a) = amount_within b a
amount_within b (both o x y) = amount_within b x && amount_within b y

abbrev pub walker_within : ℕ → Walker → Bool
walker_within b (asks s) = true
walker_within b (says a s) = amount_within b a

abbrev pub half_within : ℕ → NamedHalf → Bool
half_within b (waiting q) = true
half_within b (left a) = amount_within b a

abbrev pub forks_within : ℕ → List NamedFork → Bool
forks_within b [] = true
forks_within b (f ∷ fs) = half_within b f.half && forks_within b fs

abbrev pub named_within : ℕ → Named → Bool
named_within b Y = walker_within b Y.live && forks_within b Y.forks

-- there is a pointer where one is looked at
abbrev pub looks_within : Site → (sigs boxes : List Term) → Bool
looks_within on_sigs [] bs = false
looks_within on_boxes ss [] = false
looks_within w ss bs = true

abbrev pub lands_within : List (ℕ × Site) → Walker → Bool
lands_within sites x = looks_within (site_of sites (key_of x)) (terms_of (spot_of x).work) (spot_of x).boxes

-- each fork has so many boxes
abbrev pub boxes_within : ℕ → List NamedFork → Bool
boxes_within n [] = true
boxes_within n (f ∷ fs) = nat_eq (length f.boxes) n && boxes_within n fs

abbrev pub second_within : List (ℕ × Site) → ℕ → Second → Bool
second_within sites b q =
    sources_within 0 (length q.boxes) q.given && (named_within b q.to && (lands_within sites q.to.live
    && boxes_within (length q.boxes) q.to.forks))

abbrev pub way_within : List (ℕ × Site) → ℕ → Walker → Way → Bool
way_within sites b x onwards = lands_within sites x
way_within sites b x answers_run = true
way_within sites b x (answers_fork q) = second_within sites b q

abbrev pub row_within : List (ℕ × Site) → ℕ → JoinedRow → Bool
row_within sites b r =
    sources_within (length (terms_of (spot_of r.from).work)) (length (spot_of r.from).boxes) r.given
    && (named_within b r.to && way_within sites b r.to.live r.way)

-- what is seen is what is looked at
abbrev pub seen_within : Site → Seen → Bool
seen_within nowhere nothing = true
seen_within on_sigs (shaped x) = true
seen_within on_boxes (shaped x) = true
seen_within on_value (zero_is b) = true
seen_within w e = false

abbrev pub entry_within : List (ℕ × Site) → ℕ → Entry → Bool
entry_within sites b e = seen_within (site_of sites e.key) e.seen && row_within sites b e.row

-- each row, where so many numbers are those of ports
abbrev pub rows_below : List (ℕ × Site) → ℕ → List Entry → Bool
rows_below sites b [] = true
rows_below sites b (e ∷ es) = entry_within sites b e && rows_below sites b es

abbrev pub rows_within : (ports : ℕ) → List (ℕ × Site) → List Entry → Bool
rows_within n sites entries = rows_below sites (2 ^ 64 + n) entries

-- the key at which the run begins, and nothing is looked at there
abbrev pub start_key : NetTree → Key
start_key net = key false (channel_of (start_of net)) []

abbrev pub is_nowhere : Site → Bool
is_nowhere nowhere = true
is_nowhere w = false

abbrev pub starts_within : NetTree → List (ℕ × Site) → Bool
starts_within net sites = is_nowhere (site_of sites (start_key net))
