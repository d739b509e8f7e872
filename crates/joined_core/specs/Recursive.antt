-- A worked table with cells, looks and tests: the numbers up to 2 summed by recursion, in ten rows. The prover computes it.
use Rattle.std.specs.Prelude.{◌≡◌, ℕ, Bool, true, false, List, [], ◌∷◌, Option, Some, None}
use Rattle.pcf_values.specs.declared.val.Val.{Val}
use Rattle.pcf_values.specs.declared.val.Val.TheVariants.{Number}
use Rattle.pcf_values.specs.declared.operator.Operator.TheVariants.{Plus}
use Rattle.net_rows.specs.Rows.{rises, falls}
use Rattle.newest_core.specs.Example.{recursive_net}
use Rattle.joined_rows.specs.Open.{named, a_star, a_left, a_right, a_pair, an_again, to_R, to_L, sign, some, known, less_than}
use Rattle.joined_rows.specs.Open.{both, spot, asks, says}
use Rattle.joined_rows.specs.Ticks.{waiting, left}
use Rattle.joined_core.specs.Rows.{is_R, is_L, is_sig, key, Site, on_sigs, on_boxes, on_value, nothing, shaped, zero_is, a_sig, a_box}
use Rattle.joined_core.specs.Rows.{a_word, onwards, answers_run, answers_fork, JoinedRow}
use Rattle.joined_core.specs.Right.{alone}
use Rattle.joined_core.specs.Listed.{Entry, entry, listed, right_table}
use Rattle.joined_core.specs.Circuit.{Room, joined_powered, joined_circuit}
use Rattle.joined_core.specs.Room.{most_cells, most_forks, rows_made}
use Rattle.joined_core.specs.Example.{room, junk}

-- up from the root through the call to its test, and to the number that this asks for
abbrev pub to_the_number : JoinedRow
to_the_number = record {
  from = asks (spot (rises 21) [] []);
  given = [];
  moves = 17;
  to = alone (says (known (Number 2)) (spot (falls 0) [] (a_star ∷ [])));
  way = onwards;
}

-- the number isn't 0: the sum is asked, with its right question left at the fork
abbrev pub not_zero : JoinedRow
not_zero = record {
  from = says (some 0) (spot (falls 0) [] (named 0 ∷ []));
  given = a_box 0 ∷ [];
  moves = 5;
  to = record {
    live = asks (spot (falls 17) (to_L ∷ sign (a_right (a_left a_star)) ∷ []) (named 0 ∷ []));
    forks = record { node = 10; boxes = named 0 ∷ []; half = waiting (spot (rises 12) [] (named 0 ∷ [])) } ∷ [];
  };
  way = onwards;
}

-- a question for the number outside of all calls has the argument
abbrev pub at_the_argument : JoinedRow
at_the_argument = record {
  from = asks (spot (falls 17) (to_L ∷ sign (named 0) ∷ []) (a_star ∷ []));
  given = a_sig 0 ∷ [];
  moves = 8;
  to = alone (says (known (Number 2)) (spot (rises 15) (sign (named 0) ∷ []) (a_star ∷ [])));
  way = onwards;
}

-- the number is the left operand; the right one is a call, whose test asks for its own number
abbrev pub left_operand : JoinedRow
left_operand = record {
  from = says (some 0) (spot (rises 15) (sign (a_right (a_left a_star)) ∷ []) (named 0 ∷ []));
  given = a_box 0 ∷ [];
  moves = 3;
  to = alone (says (some 0) (spot (falls 3) [] (named 0 ∷ [])));
  way = answers_fork (record {
    boxes = named 0 ∷ [];
    given = a_box 0 ∷ [];
    moves = 18;
    to = record {
      live = asks (spot (falls 17) (to_L ∷ sign (a_right (a_right (a_pair (a_left a_star) a_star))) ∷ []) (named 0 ∷ []));
      forks = record { node = 10; boxes = named 0 ∷ []; half = left (some 0) } ∷ [];
    };
  });
}

-- the number of a call is one less than that around it, and comes to its test
abbrev pub to_the_next_test : JoinedRow
to_the_next_test = record {
  from = says (some 0) (spot (rises 15) (sign (a_right (a_right (a_pair (a_left a_star) a_star))) ∷ []) (named 0 ∷ []));
  given = a_box 0 ∷ [];
  moves = 12;
  to = alone (says (less_than (some 0)) (spot (falls 0) [] (an_again (named 0) a_star ∷ [])));
  way = onwards;
}

-- a question for the number goes out by one call more
abbrev pub up_a_call : JoinedRow
up_a_call = record {
  from = asks (spot (falls 17) (to_L ∷ sign (named 0) ∷ []) (an_again (named 1) a_star ∷ []));
  given = a_sig 0 ∷ a_word 0 ∷ [];
  moves = 10;
  to = alone (asks (spot (falls 17) (to_L ∷ sign (a_right (a_right (a_pair (named 0) a_star))) ∷ []) (named 1 ∷ [])));
  way = onwards;
}

-- a number goes into the next call, one less
abbrev pub down_a_call : JoinedRow
down_a_call = record {
  from = says (some 0) (spot (rises 15) (sign (a_right (a_right (a_pair (named 1) a_star))) ∷ []) (named 0 ∷ []));
  given = a_box 0 ∷ a_word 0 ∷ [];
  moves = 10;
  to = alone (says (less_than (some 0)) (spot (rises 15) (sign (named 1) ∷ []) (an_again (named 0) a_star ∷ [])));
  way = onwards;
}

-- the number is 0: so is the answer
abbrev pub zero_answers : JoinedRow
zero_answers = record {
  from = says (some 0) (spot (falls 0) [] (named 0 ∷ []));
  given = a_box 0 ∷ [];
  moves = 3;
  to = alone (says (known (Number 0)) (spot (falls 17) (to_R ∷ []) (named 0 ∷ [])));
  way = onwards;
}

-- the right operand is there: what both come to is the answer of the call around
abbrev pub right_operand : JoinedRow
right_operand = record {
  from = says (some 0) (spot (falls 17) (to_R ∷ []) (an_again (named 0) a_star ∷ []));
  given = a_word 0 ∷ [];
  moves = 3;
  to = alone (says (some 0) (spot (falls 12) [] (named 0 ∷ [])));
  way = answers_fork (record {
    boxes = named 0 ∷ [];
    given = a_box 0 ∷ [];
    moves = 2;
    to = alone (says (both Plus (some 1) (some 0)) (spot (falls 17) (to_R ∷ []) (named 0 ∷ [])));
  });
}

-- the answer of the outermost call is the run's
abbrev pub to_the_root : JoinedRow
to_the_root = record {
  from = says (some 0) (spot (falls 17) (to_R ∷ []) (a_star ∷ []));
  given = [];
  moves = 2;
  to = alone (says (some 0) (spot (falls 21) [] []));
  way = answers_run;
}

abbrev pub entries : List Entry
entries = entry (key false (rises 21) []) nothing to_the_number ∷
    entry (key true (falls 0) []) (zero_is false) not_zero ∷
    entry (key false (falls 17) (is_L ∷ is_sig ∷ [])) (shaped a_star) at_the_argument ∷
    entry (key true (rises 15) (is_sig ∷ [])) (shaped (a_right (a_left a_star))) left_operand ∷
    entry (key true (rises 15) (is_sig ∷ [])) (shaped (a_right (a_right (a_pair (a_left a_star) a_star)))) to_the_next_test ∷
    entry (key false (falls 17) (is_L ∷ is_sig ∷ [])) (shaped (an_again (named 0) a_star)) up_a_call ∷
    entry (key true (rises 15) (is_sig ∷ [])) (shaped (a_right (a_right (a_pair (named 0) a_star)))) down_a_call ∷
    entry (key true (falls 0) []) (zero_is true) zero_answers ∷
    entry (key true (falls 17) (is_R ∷ [])) (shaped (an_again (named 0) a_star)) right_operand ∷
    entry (key true (falls 17) (is_R ∷ [])) (shaped a_star) to_the_root ∷
    []

abbrev pub sites : List (ℕ × Site)
sites = (1, on_value) ∷ (30, on_sigs) ∷ (35, on_boxes) ∷ []

-- result, full, moves, and how many cells are in use
abbrev pub ports : Room → ℕ → Option Val × (Bool × (ℕ × ℕ))
ports z k = let C = joined_circuit (recursive_net 2) (listed sites entries) z junk k in (C.result, (C.full, (C.moves, C.store.top)))

-- 188 moves in 19 cycles; 4 cells and 2 forks are enough, and not one less of either
abbrev pub ExampleRecursive : Type 0
ExampleRecursive =
    (ports (room 4 2) 18 ≡ (None, (false, (185, 0))))
    × (ports (room 4 2) 19 ≡ (Some (Number 3), (false, (188, 0))))
    × ((joined_circuit (recursive_net 2) (listed sites entries) (room 3 2) junk 19).full ≡ true)
    × ((joined_circuit (recursive_net 2) (listed sites entries) (room 4 1) junk 19).full ≡ true)

-- its rows are right of the net
abbrev pub ExampleRight : Type 0
ExampleRight = right_table (recursive_net 2) sites entries ≡ true

-- the most cells and forks in use, and the rows up to the answer, counted along the rows alone
abbrev pub ExampleCounted : Type 0
ExampleCounted = let C = joined_powered (recursive_net 2) junk in
    (most_cells (listed sites entries) 188 C ≡ 4)
    × (most_forks (listed sites entries) 188 C ≡ 2)
    × (rows_made (listed sites entries) 188 C ≡ 19)
