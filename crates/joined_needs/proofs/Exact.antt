-- A circuit makes the edges that were counted, as far as it has room.
use Rattle.std.proofs.Common.{◌≡◌, ◌⊎◌, ◌≤◌, ◌<◌, ℕ, zero, suc, Bool, true, false, ◌||◌, List, length, Option, Some, None}
use Rattle.std.proofs.Common.{refl, sym, ap, ◌∙◌, inl, inr, arith}
use Rattle.std.specs.Prelude.{nat_lt, if◌then◌else◌}
use Rattle.std.proofs.lemmas.Bool.{ltb-true, ltb-false, lt-ltb, le-ltb, or_right}
use Rattle.net_rows.proofs.Small.{not_full}
use Rattle.joined_core.specs.Circuit.{Room}
use Rattle.joined_module.specs.Rows.{ModuleRow}
use Rattle.joined_module.specs.Module.{ModuleTable}
use Rattle.joined_module.specs.Machine.{RowCircuit, too_many, row_makes, seen_by}
use Rattle.joined_module.specs.Fields.{sees_later}
use Rattle.joined_found.specs.Found.{next_row}
use Rattle.joined_edges.specs.Timed.{Timed, rests, timed_rest, timed_wait, timed_act, timed_found, timed_edge}
use Rattle.joined_edges.specs.Timed.{timed_edges, timed_start}
use Rattle.joined_timed.proofs.Bound.{edges_last}
use Rattle.joined_needs.specs.Edges.{act_edge, found_edge, an_edge, blank, edge_run, edge_cells, edge_forks}
use Rattle.joined_needs.specs.Laws.{NeedsExact, NeedsSame}

-- ---- one edge

module _ (ps : ℕ → ℕ) (z : Room) (rows : List ModuleRow) (t : Timed) where
  -- where there is room for it
  act_room : (r : ModuleRow) → too_many z (row_makes ps r t.circuit) ≡ false → timed_act ps z rows r t ≡ act_edge ps rows r t
  act_room r e =
      ap (λ b. let D : RowCircuit = if b then record t.circuit { full = true } else row_makes ps r t.circuit in
      record (act_edge ps rows r t) { circuit = D; row = (next D) }) e
    where
      next : RowCircuit → Option ModuleRow
      next D = next_row rows (sees_later r) D.key (seen_by D.site D)

  row_room : (r : ModuleRow) (b c : Bool) →
      too_many z (if b then timed_rest t else (if c then timed_wait rows t else act_edge ps rows r t)).circuit ≡ false →
      (if b then timed_rest t else (if c then timed_wait rows t else timed_act ps z rows r t))
      ≡ (if b then timed_rest t else (if c then timed_wait rows t else act_edge ps rows r t))
  row_room r true c e = refl
  row_room r false true e = refl
  row_room r false false e = act_room r e

  found_room : (o : Option ModuleRow) → too_many z (found_edge ps rows o t).circuit ≡ false →
      timed_found ps z rows o t ≡ found_edge ps rows o t
  found_room None e = refl
  found_room (Some r) e = row_room r (rests r t) r.waits e

  edge_by_room : (b : Bool) → too_many z (if b then timed_rest t else found_edge ps rows t.row t).circuit ≡ false →
      (if b then timed_rest t else timed_found ps z rows t.row t) ≡ (if b then timed_rest t else found_edge ps rows t.row t)
  edge_by_room true e = refl
  edge_by_room false e = found_room t.row e

  edge_room : too_many z (an_edge ps rows t).circuit ≡ false → timed_edge ps z rows t ≡ an_edge ps rows t
  edge_room e = edge_by_room (t.circuit.ended || t.circuit.full) e

  -- and where there isn't
  act_full : (r : ModuleRow) → too_many z (row_makes ps r t.circuit) ≡ true → (timed_act ps z rows r t).circuit.full ≡ true
  act_full r e = ap (λ b. (if b then record t.circuit { full = true } else row_makes ps r t.circuit).full) e

  module _ (before : too_many z t.circuit ≡ false) where
    row_full : (r : ModuleRow) (b c : Bool) →
        too_many z (if b then timed_rest t else (if c then timed_wait rows t else act_edge ps rows r t)).circuit ≡ true →
        (if b then timed_rest t else (if c then timed_wait rows t else timed_act ps z rows r t)).circuit.full ≡ true
    row_full r true c e = not_full (sym e ∙ before)
    row_full r false true e = not_full (sym e ∙ before)
    row_full r false false e = act_full r e

    found_full : (o : Option ModuleRow) → too_many z (found_edge ps rows o t).circuit ≡ true →
        (timed_found ps z rows o t).circuit.full ≡ true
    found_full None e = refl
    found_full (Some r) e = row_full r (rests r t) r.waits e

    edge_by_full : (b : Bool) → too_many z (if b then timed_rest t else found_edge ps rows t.row t).circuit ≡ true →
        (if b then timed_rest t else timed_found ps z rows t.row t).circuit.full ≡ true
    edge_by_full true e = not_full (sym e ∙ before)
    edge_by_full false e = found_full t.row e

    edge_full : too_many z (an_edge ps rows t).circuit ≡ true → (timed_edge ps z rows t).circuit.full ≡ true
    edge_full e = edge_by_full (t.circuit.ended || t.circuit.full) e

  -- once full, it stays so
  full_stays : t.circuit.full ≡ true → (timed_edge ps z rows t).circuit.full ≡ true
  full_stays e = go (t.circuit.ended || t.circuit.full) (or_right t.circuit.ended t.circuit.full e)
    where
      go : (b : Bool) → b ≡ true → (if b then timed_rest t else timed_found ps z rows t.row t).circuit.full ≡ true
      go true q = e
      go false q = absurd cc

-- ---- so many

module _ (ps : ℕ → ℕ) (T : ModuleTable) (z : Room) where
  abbrev run : ℕ → Timed
  run n = timed_edges ps z T.rows n (timed_start T blank)

  abbrev D : ℕ → RowCircuit
  D n = (edge_run ps T n).circuit

  top_within : (n : ℕ) → (D n).top ≤ edge_cells ps T n
  top_within zero = omega arith
  top_within (suc n) = omega arith

  forks_within : (n : ℕ) → length (D n).forks ≤ edge_forks ps T n
  forks_within zero = omega arith
  forks_within (suc n) = omega arith

  enough : (E : RowCircuit) → E.top ≤ z.cells → length E.forks ≤ z.forks → too_many z E ≡ false
  enough E c f =
      ap (λ b. b || nat_lt z.forks (length E.forks)) (le-ltb z.cells E.top c) ∙ le-ltb z.forks (length E.forks) f

  lacks : (E : RowCircuit) → (z.cells < E.top) ⊎ (z.forks < length E.forks) → too_many z E ≡ true
  lacks E (inl l) = ap (λ b. b || nat_lt z.forks (length E.forks)) (lt-ltb z.cells E.top l)
  lacks E (inr l) = or_right (nat_lt z.cells E.top) (nat_lt z.forks (length E.forks)) (lt-ltb z.forks (length E.forks) l)

  pub same : (n : ℕ) → edge_cells ps T n ≤ z.cells → edge_forks ps T n ≤ z.forks → run n ≡ edge_run ps T n
  same zero c f = refl
  same (suc n) c f =
      let i = same n (omega (arith, c)) (omega (arith, f)) in
      edges_last ps z T.rows n (timed_start T blank) ∙ ap (timed_edge ps z T.rows) i
      ∙ edge_room ps z T.rows (edge_run ps T n) (enough (D (suc n)) (omega (arith, c)) (omega (arith, f)))

  -- there are as many, or not
  data Within (n : ℕ) : Type 0 where
    within : edge_cells ps T n ≤ z.cells → edge_forks ps T n ≤ z.forks → Within n
    without : (z.cells < edge_cells ps T n) ⊎ (z.forks < edge_forks ps T n) → Within n

  decide : (n : ℕ) → Within n
  decide n = go (nat_lt z.cells (edge_cells ps T n)) (nat_lt z.forks (edge_forks ps T n)) refl refl
    where
      go : (a b : Bool) → nat_lt z.cells (edge_cells ps T n) ≡ a → nat_lt z.forks (edge_forks ps T n) ≡ b → Within n
      go true b e f = without (inl (ltb-true z.cells (edge_cells ps T n) e))
      go false true e f = without (inr (ltb-true z.forks (edge_forks ps T n) f))
      go false false e f =
          within (ltb-false z.cells (edge_cells ps T n) e) (ltb-false z.forks (edge_forks ps T n) f)

  pub few : (n : ℕ) → (z.cells < edge_cells ps T n) ⊎ (z.forks < edge_forks ps T n) → (run n).circuit.full ≡ true
  few zero (inl l) = absurd (omega (arith, l))
  few zero (inr l) = absurd (omega (arith, l))
  few (suc n) h = ap (λ (t : Timed). t.circuit.full) (edges_last ps z T.rows n (timed_start T blank)) ∙ go (λ l. few n l) (decide n)
    where
      last : edge_cells ps T n ≤ z.cells → edge_forks ps T n ≤ z.forks →
          (z.cells < edge_cells ps T (suc n)) ⊎ (z.forks < edge_forks ps T (suc n)) →
          (z.cells < (D (suc n)).top) ⊎ (z.forks < length (D (suc n)).forks)
      last c f (inl l) = inl (omega (arith, c, l))
      last c f (inr l) = inr (omega (arith, f, l))

      go : ((z.cells < edge_cells ps T n) ⊎ (z.forks < edge_forks ps T n) → (run n).circuit.full ≡ true) → Within n →
          (timed_edge ps z T.rows (run n)).circuit.full ≡ true
      go rest (without l) = full_stays ps z T.rows (run n) (rest l)
      go rest (within c f) =
          let a = top_within n in
          let b = forks_within n in
          ap (λ t. (timed_edge ps z T.rows t).circuit.full) (same n c f)
          ∙ edge_full ps z T.rows (edge_run ps T n) (enough (D n) (omega (arith, a, c)) (omega (arith, b, f)))
          (lacks (D (suc n)) (last c f h))

pub needs_same : NeedsSame
needs_same ps T z n c f = same ps T z n c f

pub needs_exact : NeedsExact
needs_exact ps T z n = (there, back)
  where
    there : (timed_edges ps z T.rows n (timed_start T blank)).circuit.full ≡ false →
        ((edge_run ps T n).circuit.full ≡ false) × (edge_cells ps T n ≤ z.cells) × (edge_forks ps T n ≤ z.forks)
    there e = go (decide ps T z n)
      where
        go : Within ps T z n → ((edge_run ps T n).circuit.full ≡ false) × (edge_cells ps T n ≤ z.cells) × (edge_forks ps T n ≤ z.forks)
        go (without l) = not_full (sym (few ps T z n l) ∙ e)
        go (within c f) = (ap (λ (t : Timed). t.circuit.full) (sym (same ps T z n c f)) ∙ e, c, f)

    back : ((edge_run ps T n).circuit.full ≡ false) × (edge_cells ps T n ≤ z.cells) × (edge_forks ps T n ≤ z.forks) →
        (timed_edges ps z T.rows n (timed_start T blank)).circuit.full ≡ false
    back h = ap (λ (t : Timed). t.circuit.full) (same ps T z n h.1 h.2) ∙ h.0
