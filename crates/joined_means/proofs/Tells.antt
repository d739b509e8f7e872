-- What the module tells.
use Rattle.std.proofs.Common.{◌≡◌, ◌⊎◌, ◌<◌, ◌≤◌, ℕ, zero, suc, ◌+◌, ◌*◌, ◌%◌, ◌^◌, Bool, true, false, List, [], length}
use Rattle.std.proofs.Common.{refl, sym, ap, ◌∙◌, subst, inl, inr, ⊎_elim, arith}
use Rattle.std.proofs.lemmas.Bool.{and_from}
use Rattle.net_rows.proofs.Small.{not_full}
use Prim.Native.String.{String}
use Rattle.pcf_values.specs.declared.val.Val.{Val}
use Rattle.pcf_values.specs.Terms.{TermTree, nat}
use Rattle.pcf_values.specs.Typing.{HasType}
use Rattle.net_build.specs.Nets.{NetTree}
use Rattle.net_build.specs.NetOf.{net_of}
use Rattle.net_build.proofs.Built.{built_sound}
use Rattle.adequacy_laws.specs.Questions.{in_turn, Length}
use Rattle.adequacy_laws.proofs.Agreeing.{built_runs}
use Rattle.adequacy_laws.proofs.Counting.{one_count}
use Rattle.open_net_laws.specs.Applied.{applied, numeric}
use Rattle.open_net_laws.specs.Arguments.{AreNumbers}
use Rattle.open_net_laws.specs.Numbers.{places}
use Rattle.open_net_laws.proofs.Parts.{has}
use Rattle.open_net_laws.proofs.Exchanged.{other as exchanged, places_length}
use Rattle.circuit_module.specs.Stands.{value_number}
use Rattle.circuit_module.proofs.Constants.{small_constants}
use Rattle.verilog_tree.specs.Meaning.{Store, flag}
use Rattle.joined_rows.specs.Compound.{Pointer, point}
use Rattle.joined_rows.specs.Open.{a_star}
use Rattle.joined_core.specs.Rows.{Site, nowhere, Table}
use Rattle.joined_core.specs.Right.{IsTable}
use Rattle.joined_core.specs.Listed.{Entry, site_of, listed}
use Rattle.joined_core.specs.Room.{row_run, most_cells, most_forks, rows_made}
use Rattle.joined_core.proofs.Room.{full_stays}
use Rattle.joined_core.proofs.Time.{rows_compute}
use Rattle.joined_core.specs.Numbers.{key_number}
use Rattle.joined_core.specs.Circuit.{JoinedCircuit, Room, joined_clock, joined_clocks, joined_powered, joined_circuit}
use Rattle.joined_module.specs.Rows.{numbering}
use Rattle.joined_module.specs.Module.{ModuleTable, found_rows}
use Rattle.joined_module.specs.Machine.{Tagged, RowCircuit, row_clocks, row_start}
use Rattle.joined_module.specs.Fits.{module_fits}
use Rattle.joined_module_fits.proofs.Fits.{small_of}
use Rattle.joined_module_fits.proofs.Formed.{joined_well_formed}
use Rattle.joined_found.specs.Found.{rows_see}
use Rattle.joined_edges.specs.Timed.{Timed, timed_edges, timed_start}
use Rattle.joined_edges.specs.Stands.{Stands}
use Rattle.joined_timed.specs.Laws.{TableGoes, Timely}
use Rattle.joined_steps.specs.Laws.{TableFits}
use Rattle.joined_numbers.specs.Within.{start_key}
use Rattle.joined_numbers.specs.At.{number_at, entries_at}
use Rattle.joined_numbers.specs.Laws.{TableRuns, memory_of, RowsTell}
use Rattle.joined_numbers.proofs.Runs.{nowhere_is, rows_along, rows_mean, full_is}
use Rattle.joined_timed.proofs.Runs.{timed_along}
use Rattle.joined_numbers.specs.Runs.{table_of, module_runs}
use Rattle.joined_means.specs.Laws.{AtPorts, after_call, Ended, RunTells, RunTimes}
use Rattle.joined_means.proofs.Tables.{Checked, checked, table_runs, table_goes, start_same}
use Rattle.joined_means.proofs.Starts.{calm_rows, none_at_start}
use Rattle.joined_means.proofs.Edges.{called}

-- a run of rows that is over has told its value, and one that isn't goes on
module _ (m : TermTree) (ps : ℕ → ℕ) (z : Room) (B : ModuleTable) (p : ℕ) (mem : ℕ → ℕ → Tagged) (n : ℕ) (t : Timed) (S : Store)
    (st : Stands B z p ps t S) (time : Timely ps z B mem n t)
    (tell : (j : ℕ) → ((row_clocks ps z B.rows j (row_start B.start mem)).full ≡ true)
    ⊎ RowsTell m j (row_clocks ps z B.rows j (row_start B.start mem))) where
  abbrev D : ℕ → RowCircuit
  D j = row_clocks ps z B.rows j (row_start B.start mem)

  told : (j : ℕ) → (D j).full ≡ false → RowsTell m j (D j)
  told j f = ⊎_elim (λ e. not_full (sym e ∙ f)) (λ h. h) (tell j)

  module _ (full : t.circuit.full ≡ false) where
    here : RowsTell m time.rows (D time.rows)
    here = told time.rows (ap (λ (D : RowCircuit). D.full) (sym time.circuit) ∙ full)

    -- it has ended
    over : t.done ≡ true → Ended m S
    over d =
        let s = st.standing full in
        let e : (D time.rows).ended ≡ true = ap (λ (D : RowCircuit). D.ended) (sym time.circuit) ∙ time.done d in
        record {
          value = (D time.rows).value;
          result = s.value (s.late_done d) ∙ ap (λ (D : RowCircuit). value_number D.value) time.circuit;
          means = here.means e;
          length = (D time.rows).moves;
          is_length = here.length e;
          moves = moves_are (S.vec "moves") (S.vec "carried") t.circuit.moves (s.carried_done d) s.moves_low s.moves
              ∙ ap (λ (D : RowCircuit). D.moves % 2 ^ 64) time.circuit;
        }
      where
        moves_are : (a c k : ℕ) → c ≡ 0 → a < 2 ^ 64 → (a + 2 ^ 32 * c) % 2 ^ 64 ≡ k % 2 ^ 64 → a ≡ k % 2 ^ 64
        moves_are a c k e l h =
            let x : a + 2 ^ 32 * c ≡ a = omega (arith, e) in
            let y : a % 2 ^ 64 ≡ a = omega (arith, l) in
            sym y ∙ ap (λ a. a % 2 ^ 64) (sym x) ∙ h

    -- it goes on, so that the program is longer
    longer : t.done ≡ false → (v : Val) (l : ℕ) → Length (net_of m) v l → 133 * suc l ≤ n → ⊥
    longer d v l h b = go t.circuit.ended refl
      where
        go : (e : Bool) → t.circuit.ended ≡ e → ⊥
        go false e =
            let x : (D time.rows).ended ≡ false = ap (λ (D : RowCircuit). D.ended) (sym time.circuit) ∙ e in
            let y = here.waits x v l h in
            let w = here.goes x in
            let q = time.bound d full in
            omega (arith, y, w, q, b)
        go true e =
            let i : ℕ = time.before in
            let r = told i (time.ready e) in
            let y = r.waits (time.going e) v l h in
            let w = r.goes (time.going e) in
            let q = time.bound d full in
            let k = time.last e in
            omega (arith, y, w, q, b, k)

    comes : (v : Val) (l : ℕ) → Length (net_of m) v l → 133 * suc l ≤ n → (S.vec "done" ≡ 1) × (S.vec "result" ≡ value_number v)
    comes v l h b = go t.done refl
      where
        go : (d : Bool) → t.done ≡ d → (S.vec "done" ≡ 1) × (S.vec "result" ≡ value_number v)
        go false d = absurd (longer d v l h b)
        go true d =
            let o = over d in
            (st.done ∙ ap flag d, o.result ∙ ap value_number (one_count in_turn (net_of m) o.value v o.length l o.is_length h).0)

    tells : RunTells m n S
    tells = record {
      done = go t.done refl;
      ends = λ e. up e t.done refl;
      comes = comes;
    }
      where
        go : (d : Bool) → t.done ≡ d → (S.vec "done" ≡ 0) ⊎ (S.vec "done" ≡ 1)
        go false d = inl (st.done ∙ ap flag d)
        go true d = inr (st.done ∙ ap flag d)

        up : S.vec "done" ≡ 1 → (d : Bool) → t.done ≡ d → Ended m S
        up e true d = over d
        up e false d = let no : 0 ≡ 1 = sym (st.done ∙ ap flag d) ∙ e in absurd (omega (arith, no))

  pub full_or_tells : (S.vec "full" ≡ 1) ⊎ ((S.vec "full" ≡ 0) × RunTells m n S)
  full_or_tells = go t.circuit.full refl
    where
      go : (f : Bool) → t.circuit.full ≡ f → (S.vec "full" ≡ 1) ⊎ ((S.vec "full" ≡ 0) × RunTells m n S)
      go true f = inl (st.full ∙ ap flag f)
      go false f = inr (st.full ∙ ap flag f, tells f)

-- once full, it stays so
before : (T : Table) (z : Room) (k j : ℕ) (C : JoinedCircuit) → (joined_clocks T z (k + j) C).full ≡ false →
    (joined_clocks T z k C).full ≡ false
before T z zero j C h = go C.full refl
  where
    go : (b : Bool) → C.full ≡ b → C.full ≡ false
    go false e = e
    go true e = not_full (sym (full_stays T z (zero + j) C e) ∙ h)
before T z (suc k) j C h =
    let e : suc k + j ≡ suc (k + j) = omega arith in
    before T z k j (joined_clock T z C) (subst (λ n. (joined_clocks T z n C).full ≡ false) e h)

module _ (m : TermTree) (us vs : List ℕ) (h : HasType [] m (numeric (length vs))) (e : length us ≡ length vs) (a : AreNumbers us)
    (b : AreNumbers vs) (sites : List (ℕ × Site)) (entries : List Entry) (z : Room)
    (runs : module_runs (net_of (applied m us)) (places m (length vs)) sites entries z ≡ true) where
  abbrev net : NetTree
  net = net_of (applied m us)

  abbrev other : NetTree
  other = net_of (applied m vs)

  abbrev B : ModuleTable
  B = table_of net sites entries

  typed : HasType [] (applied m vs) nat
  typed = has m vs h b

  typed_us : HasType [] (applied m us) nat
  typed_us = has m us (subst (λ n. HasType [] m (numeric n)) (sym e) h) a

  c : Checked net (places m (length vs)) sites entries z
  c = checked net (places m (length vs)) sites entries z runs

  long : length (places m (length vs)) ≡ length vs
  long = places_length _ (length vs)

  pub table : TableRuns other sites entries (number_at vs)
  table =
      table_runs net other (places m (length vs)) vs (small_constants (applied m us) typed_us) (sym long)
      (exchanged m us vs e) sites entries z c

  same_start : start_key other ≡ start_key net
  same_start = ap start_key (exchanged m us vs e) ∙ start_same net (places m (length vs)) vs

  pub goes_along : (mem : ℕ → ℕ → Pointer) → TableGoes (number_at vs) z B (memory_of sites entries mem)
  goes_along mem =
      table_goes net other (built_runs (applied m vs) typed (built_sound (applied m vs) typed)) same_start sites entries
      (number_at vs) table z mem

  fit : module_fits B z (length vs) ≡ true
  fit = subst (λ n. module_fits B z n ≡ true) long c.wide

  few : length vs < 2 ^ 64
  few = let l = (small_of (found_rows B.rows) z B.start (length vs) fit).asked.ports in omega (arith, l)

  fits : TableFits B z (length vs)
  fits =
      let g = goes_along (λ j i. point a_star 0) in
      let site : site_of sites (start_key net) ≡ nowhere = nowhere_is (site_of sites (start_key net)) c.start in
      record {
        fits = fit;
        well = joined_well_formed B z (length vs) fit;
        keyed = g.keyed;
        lands = g.land;
        calm = calm_rows (numbering sites entries) entries;
        starts = and_from (rows_see B.rows B.start nowhere) _ g.start (none_at_start sites entries (start_key net) site);
      }

  pub stands : (mem : ℕ → ℕ → Pointer) (S : Store) (strays : ℕ → String → ℕ → ℕ) (more : List (List ℕ)) → AtPorts (length vs) more →
      Stands B z (length vs) (number_at vs)
      (timed_edges (number_at vs) z B.rows (length more) (timed_start B (memory_of sites entries mem))) (after_call B z vs S strays more)
  stands mem S strays more p =
      called B z vs fits b few (memory_of sites entries mem) (goes_along mem) S strays more p

  pub function_tells : (S : Store) (strays : ℕ → String → ℕ → ℕ) (more : List (List ℕ)) → AtPorts (length vs) more →
      ((after_call B z vs S strays more).vec "full" ≡ 1)
      ⊎ (((after_call B z vs S strays more).vec "full" ≡ 0) × RunTells (applied m vs) (length more) (after_call B z vs S strays more))
  function_tells S strays more p =
      let mem : (ℕ → ℕ → Pointer) = λ j i. point a_star 0 in
      full_or_tells (applied m vs) (number_at vs) z B (length vs) (memory_of sites entries mem) (length more)
      (timed_edges (number_at vs) z B.rows (length more) (timed_start B (memory_of sites entries mem))) (after_call B z vs S strays more)
      (stands mem S strays more p) (timed_along (number_at vs) z B (memory_of sites entries mem) (goes_along mem) (length more))
      (λ j. subst (λ k. let D = row_clocks (number_at vs) z B.rows j (row_start (key_number entries k) (memory_of sites entries mem)) in
      (D.full ≡ true) ⊎ RowsTell (applied m vs) j D) same_start
      (rows_mean (applied m vs) typed (built_sound (applied m vs) typed) sites entries (number_at vs) table z mem j))

  -- it is as timed
  pub function_times : (S : Store) (strays : ℕ → String → ℕ → ℕ) (more : List (List ℕ)) → AtPorts (length vs) more →
      RunTimes (number_at vs) z net sites entries (length more) (after_call B z vs S strays more)
  function_times S strays more p = record {
    done = λ mem. (stands mem S strays more p).done;
    full = λ mem. (stands mem S strays more p).full;
  }

  -- and it has room
  pub function_fits : (mem : ℕ → ℕ → Pointer) (v : Val) (l : ℕ) → Length other v l →
      (row_run other (listed sites (entries_at (number_at vs) entries)) mem l).full ≡ false →
      most_cells (listed sites (entries_at (number_at vs) entries)) l (joined_powered other mem) ≤ z.cells →
      most_forks (listed sites (entries_at (number_at vs) entries)) l (joined_powered other mem) ≤ z.forks →
      (S : Store) (strays : ℕ → String → ℕ → ℕ) (more : List (List ℕ)) → AtPorts (length vs) more →
      (after_call B z vs S strays more).vec "full" ≡ 0
  function_fits mem v l long ready cells forks S strays more p =
      let t = timed_along (number_at vs) z B (memory_of sites entries mem) (goes_along mem) (length more) in
      (stands mem S strays more p).full
      ∙ ap (λ (D : RowCircuit). flag D.full) t.circuit
      ∙ ap (λ k. flag (row_clocks (number_at vs) z B.rows t.rows (row_start (key_number entries k) (memory_of sites entries mem))).full)
      (sym same_start)
      ∙ ap (λ (D : RowCircuit). flag D.full)
      (rows_along other (built_runs (applied m vs) typed (built_sound (applied m vs) typed)) sites entries (number_at vs) table z mem
      t.rows)
      ∙ ap flag (full_is (numbering sites entries)
      (joined_circuit other (listed sites (entries_at (number_at vs) entries)) z mem t.rows))
      ∙ ap flag (never_full (applied m vs) typed (listed sites (entries_at (number_at vs) entries)) table.right v l long z mem ready
      cells forks t.rows)
    where
      never_full : (m : TermTree) → HasType [] m nat → (T : Table) → IsTable (net_of m) T → (v : Val) (n : ℕ) → Length (net_of m) v n →
          (z : Room) (mem : ℕ → ℕ → Pointer) → (row_run (net_of m) T mem n).full ≡ false →
          most_cells T n (joined_powered (net_of m) mem) ≤ z.cells → most_forks T n (joined_powered (net_of m) mem) ≤ z.forks → (k : ℕ) →
          (joined_circuit (net_of m) T z mem k).full ≡ false
      never_full m h T right v n long z mem ready cells forks k =
          let K : ℕ = rows_made T n (joined_powered (net_of m) mem) in
          before T z k K (joined_powered (net_of m) mem)
          (rows_compute m h (built_sound m h) T right v n long z mem ready cells forks (k + K) (omega arith)).0
