-- A run makes at most 255 moves at an edge.
use Rattle.std.proofs.Common.{◌≡◌, ◌<◌, ◌≤◌, ◌*◌, ℕ, zero, suc, Bool, true, false, ◌&&◌, ◌||◌, List, [], ◌∷◌, ◌++◌, length}
use Rattle.std.proofs.Common.{Option, Some, None, inl, inr, arith}
use Rattle.std.specs.Prelude.{nat_eq, nat_lt, if◌then◌else◌}
use Rattle.std.proofs.lemmas.Bool.{and_parts, ltb-true}
use Rattle.joined_core.specs.Circuit.{Room}
use Rattle.joined_module.specs.Rows.{Sees, sees_nothing, ModuleRow, row_looks, opened_boxes}
use Rattle.joined_module.specs.Fields.{first_operand, second_operand, sees_later}
use Rattle.joined_module.specs.Fits.{sources_within, option_within, operand_within, row_within, row_sound, each_within, module_fits}
use Rattle.joined_module.specs.Module.{ModuleTable, found_rows, waiting_rows, Widths, widths, is_waited, waiting_row, site_at}
use Rattle.joined_module.specs.Machine.{same_sees, seen_by, find_row}
use Rattle.joined_module_fits.proofs.Fits.{small_of}
use Rattle.joined_found.specs.Found.{Each, OfFound, has_key, waiting_found, next_row}
use Rattle.joined_edges.specs.Timed.{Timed, rests, timed_rest, timed_wait}
use Rattle.joined_needs.specs.Edges.{act_edge, found_edge, an_edge, edge_run}
use Rattle.joined_needs.specs.Told.{Spent, EndsSo}
use Rattle.joined_needs.specs.declared.needs.Ending.{Ending}
use Rattle.joined_needs.specs.declared.needs.Ending.TheVariants.{Answered, NoRow, Beyond}

-- ---- a row

abbrev Few : ModuleRow → Type 0
Few r = r.moves < 256

-- the last of what is asked of a row that is within its widths
within_few : (W : Widths) (n : ℕ) (rs : List ModuleRow) → each_within W n rs ≡ true → Each Few rs
within_few W n [] h = tt
within_few W n (r ∷ rs) h =
    let (a, b) = and_parts (row_within W n r && row_sound W r) (each_within W n rs) h in
    let (c, d) = and_parts (row_within W n r) (row_sound W r) a in
    let last : Bool = (operand_within n (first_operand r) && operand_within n (second_operand r)) && nat_lt r.moves 256 in
    let looks : Bool = option_within W (row_looks r) && last in
    let (e, f) = and_parts (sources_within W r.sigs && sources_within W r.boxes)
    ((sources_within W r.words && sources_within W (opened_boxes r.fork)) && looks) c in
    let (g, i) = and_parts (sources_within W r.words && sources_within W (opened_boxes r.fork)) looks f in
    let (j, k) = and_parts (option_within W (row_looks r)) last i in
    let (l, m) = and_parts (operand_within n (first_operand r) && operand_within n (second_operand r)) (nat_lt r.moves 256) k in
    (ltb-true r.moves 256 m, within_few W n rs b)

behind : (xs ys : List ModuleRow) → Each Few (xs ++ ys) → Each Few ys
behind [] ys h = h
behind (x ∷ xs) ys h = behind xs ys h.1

pub few_moves : (T : ModuleTable) (z : Room) (n : ℕ) → module_fits T z n ≡ true → Each Few T.rows
few_moves T z n h =
    let rows = found_rows T.rows in
    behind (waiting_rows T.rows 0 (length T.rows)) T.rows (within_few (widths rows z) n rows (small_of rows z T.start n h).within)

-- ---- a row that is found

module _ (rows : List ModuleRow) (few : Each Few rows) where
  found_few : (rs : List ModuleRow) → Each Few rs → (k : ℕ) (e : Sees) → OfFound Few (find_row rs k e)
  found_few [] a k e = tt
  found_few (r ∷ rs) a k e = go (nat_eq r.key k && same_sees r.sees e) (found_few rs a.1 k e)
    where
      go : (b : Bool) → OfFound Few (find_row rs k e) → OfFound Few (if b then Some r else find_row rs k e)
      go true h = a.0
      go false h = h

  next_few : (later : Bool) (k : ℕ) (e : Sees) → OfFound Few (next_row rows later k e)
  next_few later k e = go (later && is_waited rows k)
    where
      wait : (b : Bool) → OfFound Few (if b then Some (waiting_row k (site_at rows k)) else None)
      wait true = omega arith
      wait false = tt

      go : (b : Bool) → OfFound Few (if b then waiting_found rows k else find_row rows k e)
      go true = wait (has_key rows k)
      go false = found_few rows few k e

  -- ---- edges

  record Slow (t : Timed) (k : ℕ) : Type 0 where
    moves : t.circuit.moves ≤ 255 * k
    row : OfFound Few t.row

  module _ (ps : ℕ → ℕ) (t : Timed) (k : ℕ) (s : Slow t k) where
    acts : (r : ModuleRow) → Few r → Slow (act_edge ps rows r t) (suc k)
    acts r f =
        let D = (act_edge ps rows r t).circuit in
        record { moves = let m = s.moves in omega (arith, m, f); row = next_few (sees_later r) D.key (seen_by D.site D) }

    rest : Slow (timed_rest t) (suc k)
    rest = record { moves = let m = s.moves in omega (arith, m); row = s.row }

    waits : Slow (timed_wait rows t) (suc k)
    waits = record {
      moves = let m = s.moves in omega (arith, m);
      row = found_few rows few t.circuit.key (seen_by t.circuit.site t.circuit);
    }

    edge : Slow (an_edge ps rows t) (suc k)
    edge = go (t.circuit.ended || t.circuit.full)
      where
        waiting : (r : ModuleRow) → Few r → (b : Bool) → Slow (if b then timed_wait rows t else act_edge ps rows r t) (suc k)
        waiting r f true = waits
        waiting r f false = acts r f

        resting : (r : ModuleRow) → Few r → (b : Bool) →
            Slow (if b then timed_rest t else (if r.waits then timed_wait rows t else act_edge ps rows r t)) (suc k)
        resting r f true = rest
        resting r f false = waiting r f r.waits

        found : (o : Option ModuleRow) → OfFound Few o → Slow (found_edge ps rows o t) (suc k)
        found None f = record { moves = let m = s.moves in omega (arith, m); row = s.row }
        found (Some r) f = resting r f (rests r t)

        go : (b : Bool) → Slow (if b then timed_rest t else found_edge ps rows t.row t) (suc k)
        go true = rest
        go false = found t.row s.row

module _ (T : ModuleTable) (few : Each Few T.rows) (ps : ℕ → ℕ) where
  slow_run : (k : ℕ) → Slow T.rows few (edge_run ps T k) k
  slow_run zero = record { moves = omega arith; row = found_few T.rows few T.rows few T.start sees_nothing }
  slow_run (suc k) = edge T.rows few ps (edge_run ps T k) k (slow_run k)

  -- a run beyond a budget was followed as long as it takes to make as many moves
  pub long_run : (budget k : ℕ) (o : Ending) → EndsSo budget k (edge_run ps T k) o → o ≡ Beyond → budget ≤ 255 * k
  long_run budget k (Answered v) s e = absurd cc
  long_run budget k NoRow s e = absurd cc
  long_run budget k Beyond s e = go s.1
    where
      go : Spent budget k (edge_run ps T k) → budget ≤ 255 * k
      go (inl h) = let a = h.1 in let m = (slow_run k).moves in omega (arith, a, m)
      go (inr (inl h)) = let a = h.1 in let m = (slow_run k).moves in omega (arith, a, m)
      go (inr (inr h)) = let a = h.1 in omega (arith, a)
