-- An edge at which a row rests: nothing changes but the value that comes and what is read of forks.
use Rattle.std.proofs.Common.{◌≡◌, ◌<◌, ℕ, ◌-◌, Bool, true, false, ◌&&◌, ◌||◌, List, [], ◌∷◌}
use Rattle.std.proofs.Common.{length}
use Rattle.std.proofs.Common.{Option, refl, ap, sym, subst, ◌∙◌, nat_eq}
use Prim.Native.String.{String}
use Rattle.verilog_tree.specs.Meaning.{Scope, Store, flag, nonzero, fire}
use Rattle.verilog_tree.specs.WellFormed.{WellFormed}
use Rattle.joined_core.specs.Circuit.{Room}
use Rattle.joined_module.specs.Names.{sig_name, box_name}
use Rattle.joined_module.specs.Rows.{ModuleRow}
use Rattle.joined_module.specs.Module.{ModuleTable, found_rows, Widths, fork_stmt, joined_module}
use Rattle.joined_module.specs.Machine.{RowCircuit, RowFork, looked_place, has_cell, innermost}
use Rattle.joined_found.specs.Found.{Each, next_field}
use Rattle.joined_clock.proofs.Registers.{depth_is, fork_has_is, kept_is, fresh_is, forks_are, answers_are, moves_is, carried_is}
use Rattle.joined_found.proofs.Eaches.{each_both}
use Rattle.joined_clock.proofs.Fetched.{fields_old, sigs_old, boxes_old, cell_old}
use Rattle.joined_edges.specs.Timed.{Timed, timed_rest}
use Rattle.joined_edges.specs.Stands.{InCell, InForks, ForkIs, Going, Standing, Stands}
use Rattle.joined_edges.proofs.Units.{moves_rests, moves_declared}
use Rattle.joined_edges.proofs.Counts.{Counted, counts_off}
use Rattle.joined_edges.proofs.Worth.{Quiet, quiet_off}
use Rattle.joined_edges.proofs.Sources.{Wide}
use Rattle.joined_edges.proofs.Placed.{enough_is, deep_is, fork_wires_are}
use Rattle.joined_edges.proofs.Deeds.{ForkWires, ForksNow, WideForks, quiet}
use Rattle.joined_steps.proofs.Module.{W, fs, b, settles, declares, ok}
use Rattle.joined_steps.proofs.Says.{Says}
use Rattle.joined_steps.proofs.Same.{registers_same}
use Rattle.joined_steps.proofs.Edge.{Q, PP, G, low, top_old, ended_old, full_old, cells_old, done_old, fetches_is}
use Rattle.joined_steps.proofs.Values.{value_edge, held_old, no_start}
use Rattle.joined_steps.proofs.Row.{standing, going, says}

forks_in : (W : Widths) (m k : String → ℕ → ℕ) → k "forks" ≡ m "forks" → k "answers" ≡ m "answers" → (fs : List RowFork) →
    InForks W m fs → InForks W k fs
forks_in W m k a c [] h = tt
forks_in W m k a c (f ∷ fs) h = (
  subst (λ (v : ℕ → ℕ). ForkIs W (v (length fs)) (k "answers" (length fs)) f) (sym a)
      (subst (λ (v : ℕ → ℕ). ForkIs W (m "forks" (length fs)) (v (length fs)) f) (sym c) h.0),
  forks_in W m k a c fs h.1,
)

module _ (T : ModuleTable) (z : Room) (n : ℕ) (right : WellFormed (joined_module T z n) ≡ true) (S : Store) (start : S.vec "rst" ≡ 0) where
  abbrev pub Q' : Store
  Q' = Q T z n right S start

  abbrev pub G' : Store
  G' = G T z n right S start

  abbrev pub P' : Scope
  P' = PP T z n right S start

  abbrev pub X : Store
  X = fire P' Q' (fork_stmt (W T z n)) Q'

  abbrev pub enough : Wide (W T z n)
  enough = enough_is (found_rows T.rows) z T.start n (b T z n)

  abbrev pub deep : WideForks (W T z n)
  deep = deep_is (found_rows T.rows) z T.start n (b T z n)

  abbrev pub wires : ForkWires (W T z n) P' Q'
  wires = fork_wires_are (found_rows T.rows) z T.start n (b T z n) enough (declares T z n right) S Q' (settles T z n right S)

  -- what is told of forks of the part that writes them is told of the edge
  pub forks_now : (forks : List RowFork) (new : Bool) → ForksNow (W T z n) enough deep P' Q' wires X forks new →
      ForksNow (W T z n) enough deep P' Q' wires G' forks new
  forks_now forks new h =
      let l = low T z n right S start in
      let o = ok T z n right in
      let fh = fork_has_is P' (W T z n) (fs T z n) n (b T z n) Q' o l in
      let kp = kept_is P' (W T z n) (fs T z n) n (b T z n) Q' o l in
      record {
        in_memory = forks_in (W T z n) X.mem G'.mem (forks_are P' (W T z n) (fs T z n) n (b T z n) Q' o l)
            (answers_are P' (W T z n) (fs T z n) n (b T z n) Q' o l) forks h.in_memory;
        depth = depth_is P' (W T z n) (fs T z n) n (b T z n) Q' o l ∙ h.depth;
        fresh = fresh_is P' (W T z n) (fs T z n) n (b T z n) Q' o l ∙ h.fresh;
        innermost = λ e p. subst (λ v. ForkIs (W T z n) v (G'.vec "kept") (innermost forks)) (sym fh)
            (subst (λ v. ForkIs (W T z n) (X.vec "fork_has") v (innermost forks)) (sym kp) (h.innermost e p));
      }

  module _ (ps : ℕ → ℕ) (t : Timed) (st : Stands T z n ps t Q') (runs : t.circuit.full ≡ false) (goes : t.circuit.ended ≡ false)
      (off : Q'.vec "acts" ≡ 0) where
    abbrev pub D : RowCircuit
    D = t.circuit

    sd : Standing T.rows (W T z n) (b T z n) n ps t Q'
    sd = standing T z n right S start ps t st runs

    g : Going T.rows (W T z n) t Q'
    g = going T z n right S start ps t st runs goes

    says_now : Says Q' t.row
    says_now = says T z n right S start ps t st runs goes

    forks_quiet : ForksNow (W T z n) enough deep P' Q' wires G' D.forks false
    forks_quiet =
        forks_now D.forks false (quiet (W T z n) enough deep P' Q' wires D g.forks g.depth g.few_forks t.fresh g.fresh
        g.innermost _ off says_now.closes)

    values : Quiet (b T z n) t.late D.value Q' G'
    values =
        quiet_off P' (b T z n) Q' G' (value_edge T z n right S start) off (no_start T z n right S start off) t.late D.value sd.small
        record { works = sd.works; result = sd.value }

    counted : Counted D.moves G' × (G'.vec "carried" ≡ 0)
    counted =
        let l = low T z n right S start in
        let o = ok T z n right in
        counts_off P' Q' G' D.moves (moves_declared T z n (declares T z n right)) (moves_rests T z n (declares T z n right) S Q' (settles
        T z n right S))
        off sd.moves_low sd.moves (moves_is P' (W T z n) (fs T z n) n (b T z n) Q' o l) (carried_is P' (W T z n) (fs T z n) n (b T z n)
        Q' o l)

    -- an edge later, with another row, or without
    abbrev pub later_of : Option ModuleRow → Bool → Bool → Timed
    later_of o s d = record {
      circuit = t.circuit;
      row = o;
      late = t.late - 1;
      seen = s;
      fresh = false;
      changed = nat_eq t.late 1;
      done = d;
    }

    module _ (o : Option ModuleRow) (s d : Bool) (told : d ≡ false) (row : Each (λ f. G'.vec f.title ≡ next_field f o) (fs T z n))
        (cell : s ≡ true → has_cell D.site ≡ true → looked_place D.site D.sigs D.boxes < D.top → InCell (W T z n) (G'.vec "cell_has")
        D.read) where
      quiet_going : Going T.rows (W T z n) (later_of o s d) G'
      quiet_going =
          let l = low T z n right S start in
          let k = ok T z n right in
          let q = forks_quiet in
          let off' : nonzero (Q'.vec "acts") ≡ false = ap nonzero off in
          record {
            row = row;
            sigs = registers_same (W T z n) Q' G' sig_name 0 (W T z n).sigs (sigs_old P' (W T z n) (fs T z n) n (b T z n) Q' k l off')
                D.sigs
                g.few_sigs g.sigs;
            few_sigs = g.few_sigs;
            boxes = registers_same (W T z n) Q' G' box_name 0 (W T z n).boxes (boxes_old P' (W T z n) (fs T z n) n (b T z n) Q' k l off')
                D.boxes
                g.few_boxes g.boxes;
            few_boxes = g.few_boxes;
            cells = λ i m. subst (λ (v : ℕ → ℕ). InCell (W T z n) (v i) (D.cells i)) (sym (cells_old T z n right S start off)) (g.cells i
                m);
            read = cell;
            top = top_old T z n right S start off ∙ g.top;
            few = g.few;
            forks = q.in_memory;
            depth = q.depth;
            few_forks = g.few_forks;
            falling = g.falling;
            fresh = q.fresh;
            innermost = λ e p. q.innermost refl p;
            changed = values.changed;
            nonzero = λ e c. values.nonzero e c;
          }

      pub quiet_stands : Stands T z n ps (later_of o s d) G'
      quiet_stands =
          let nd = st.not_ended goes in
          record {
            full = full_old T z n right S start off ∙ st.full;
            done = done_old T z n right S start (st.ended ∙ ap flag goes) ∙ st.done ∙ ap flag (nd ∙ sym told);
            ended = ended_old T z n right S start off ∙ st.ended;
            not_both = st.not_both;
            not_ended = λ e. told;
            standing = λ e. record {
              moves = counted.0.moves;
              moves_low = counted.0.low;
              carried = counted.0.carried;
              value = values.valued.result;
              small = sd.small;
              works = values.valued.works;
              held = held_old T z n right S start ps sd.held;
              going = λ e. quiet_going;
              late_done = λ e. let x : true ≡ false = sym e ∙ told in absurd cc;
              carried_done = λ e. counted.1;
            };
          }

    -- ---- it rests

    pub rested : Q'.vec "rests" ≡ 1 → Stands T z n ps (timed_rest t) G'
    rested up =
        let l = low T z n right S start in
        let k = ok T z n right in
        let f = fetches_is T z n right S start true up in
        let nd = st.not_ended goes in
        quiet_stands t.row t.seen (t.done || (D.ended && nat_eq t.late 0)) (λ i. nd i || (goes i && nat_eq t.late 0))
        (each_both (λ f. G'.vec f.title ≡ Q'.vec f.title) (λ f. Q'.vec f.title ≡ next_field f t.row) (λ f. G'.vec f.title ≡ next_field f
        t.row)
        (λ f a c. a ∙ c) (fs T z n) (fields_old P' (W T z n) (fs T z n) n (b T z n) Q' k l f) g.row)
        (λ a c m. subst (λ v. InCell (W T z n) v D.read) (sym (cell_old P' (W T z n) (fs T z n) n (b T z n) Q' k l f)) (g.read a c m))

    -- ---- it waits

    pub waited : (o : Option ModuleRow) → Each (λ f. G'.vec f.title ≡ next_field f o) (fs T z n) →
        (has_cell D.site ≡ true → looked_place D.site D.sigs D.boxes < D.top → InCell (W T z n) (G'.vec "cell_has") D.read) →
        Stands T z n ps (later_of o true t.done) G'
    waited o row cell = quiet_stands o true t.done (st.not_ended goes) row (λ a c m. cell c m)
