-- A worked table: `(fun x:nat. x + x) 3` in four rows, of which each is right of the net. The prover computes it.
use Rattle.std.specs.Prelude.{◌≡◌, ℕ, Bool, true, false, List, [], ◌∷◌, Option, Some, None}
use Rattle.pcf_values.specs.declared.val.Val.{Val}
use Rattle.pcf_values.specs.declared.val.Val.TheVariants.{Number}
use Rattle.pcf_values.specs.declared.operator.Operator.TheVariants.{Plus}
use Rattle.net_build.specs.Example.{doubled_net}
use Rattle.net_rows.specs.Rows.{rises, falls}
use Rattle.joined_rows.specs.Open.{a_star, a_left, a_right, some, known, both, spot, asks, says}
use Rattle.joined_rows.specs.Compound.{Pointer, point}
use Rattle.joined_rows.specs.Ticks.{waiting, left}
use Rattle.joined_core.specs.Rows.{key, Site, on_boxes, nothing, shaped, onwards, answers_run, answers_fork, JoinedRow}
use Rattle.joined_core.specs.Right.{alone}
use Rattle.joined_core.specs.Listed.{Entry, entry, listed, right_table}
use Rattle.joined_core.specs.Numbers.{key_number}
use Rattle.joined_core.specs.Circuit.{Room, joined_circuit}

-- up to the number, with the right question left at the fork
abbrev pub up_left : JoinedRow
up_left = record {
  from = asks (spot (rises 9) [] []);
  given = [];
  moves = 8;
  to = record {
    live = asks (spot (rises 7) [] (a_left a_star ∷ []));
    forks = record { node = 3; boxes = []; half = waiting (spot (rises 2) [] []) } ∷ [];
  };
  way = onwards;
}

-- back to the fork, and the right question up to the number
abbrev pub back_left : JoinedRow
back_left = record {
  from = asks (spot (rises 7) [] (a_left a_star ∷ []));
  given = [];
  moves = 6;
  to = alone (says (known (Number 3)) (spot (falls 0) [] []));
  way = answers_fork (record {
    boxes = [];
    given = [];
    moves = 5;
    to = record {
      live = asks (spot (rises 7) [] (a_right a_star ∷ []));
      forks = record { node = 3; boxes = []; half = left (some 0) } ∷ [];
    };
  });
}

-- back to the fork, and what both come to down to the root
abbrev pub back_right : JoinedRow
back_right = record {
  from = asks (spot (rises 7) [] (a_right a_star ∷ []));
  given = [];
  moves = 6;
  to = alone (says (known (Number 3)) (spot (falls 2) [] []));
  way = answers_fork (record { boxes = []; given = []; moves = 2; to = alone (says (both Plus (some 1) (some 0)) (spot (falls 9) [] [])) });
}

abbrev pub root : JoinedRow
root = record {
  from = says (some 0) (spot (falls 9) [] []);
  given = [];
  moves = 0;
  to = alone (says (some 0) (spot (falls 9) [] []));
  way = answers_run;
}

abbrev pub entries : List Entry
entries = entry (key false (rises 9) []) nothing up_left ∷
    entry (key false (rises 7) []) (shaped (a_left a_star)) back_left ∷
    entry (key false (rises 7) []) (shaped (a_right a_star)) back_right ∷
    entry (key true (falls 9) []) nothing root ∷
    []

abbrev pub sites : List (ℕ × Site)
sites = (14, on_boxes) ∷ []

abbrev pub room : (cells forks : ℕ) → Room
room cells forks = record { cells = cells; forks = forks }

abbrev pub junk : ℕ → ℕ → Pointer
junk j i = point (a_left a_star) j

-- result, full, moves, and how many cells are in use
abbrev pub ports : Room → ℕ → Option Val × (Bool × (ℕ × ℕ))
ports z k = let C = joined_circuit doubled_net (listed sites entries) z junk k in (C.result, (C.full, (C.moves, C.store.top)))

-- thirty moves in four cycles, with room for a fork and no cell; without room for a fork it is full
abbrev pub ExampleTable : Type 0
ExampleTable =
    (ports (room 0 1) 3 ≡ (None, (false, (29, 0))))
    × (ports (room 0 1) 4 ≡ (Some (Number 6), (false, (30, 0))))
    × (ports (room 0 1) 9 ≡ (Some (Number 6), (false, (30, 0))))
    × ((joined_circuit doubled_net (listed sites entries) (room 0 0) junk 1).full ≡ true)

-- its rows are right of the net
abbrev pub ExampleRows : Type 0
ExampleRows = right_table doubled_net sites entries ≡ true

-- a row that says one move less isn't, nor is a table that doesn't look at the box
abbrev pub ExampleRefused : Type 0
ExampleRefused =
    (right_table doubled_net sites (entry (key false (rises 9) []) nothing (record up_left { moves = 7 }) ∷ []) ≡ false)
    × (right_table doubled_net [] entries ≡ false)

-- its keys' numbers; the last one has no row
abbrev pub ExampleNumbers : Type 0
ExampleNumbers =
    (key_number entries (key false (rises 9) []) ≡ 0)
    × (key_number entries (key false (rises 7) []) ≡ 1)
    × (key_number entries (key true (falls 9) []) ≡ 3)
    × (key_number entries (key true (falls 0) []) ≡ 4)
