-- What is counted along a table's rows at some arguments tells what its function means there.
use Rattle.std.proofs.Common.{◌≡◌, ◌⊎◌, ◌<◌, ◌≤◌, ◌*◌, ℕ, zero, suc, Bool, true, false, List, [], ◌∷◌, length}
use Rattle.std.proofs.Common.{refl, sym, ap, ◌∙◌, subst, inl, inr, ⊎_elim, arith}
use Rattle.std.specs.Prelude.{min, if◌then◌else◌}
use Rattle.std.proofs.Math.Path.{fun_ext}
use Rattle.net_rows.proofs.Small.{not_full}
use Rattle.pcf_values.specs.Terms.{TermTree, nat}
use Rattle.pcf_values.specs.Typing.{HasType}
use Rattle.cbn_meaning.specs.Meaning.{Means}
use Rattle.net_build.specs.Nets.{NetTree}
use Rattle.net_build.specs.NetOf.{net_of}
use Rattle.net_build.proofs.Built.{built_sound}
use Rattle.adequacy_laws.specs.Questions.{in_turn, Length}
use Rattle.adequacy_laws.specs.Finished.{Beyond as IsBeyond}
use Rattle.adequacy_laws.proofs.Agreeing.{built_runs}
use Rattle.adequacy_laws.proofs.Counting.{one_count}
use Rattle.open_net_laws.specs.Applied.{applied, numeric}
use Rattle.open_net_laws.specs.Arguments.{AreNumbers}
use Rattle.open_net_laws.specs.Numbers.{places}
use Rattle.open_net_laws.proofs.Parts.{has}
use Rattle.open_net_laws.proofs.Exchanged.{other as exchanged}
use Rattle.joined_rows.specs.Open.{Term, a_star}
use Rattle.joined_rows.specs.Compound.{Pointer, point}
use Rattle.joined_core.specs.Rows.{Site}
use Rattle.joined_core.specs.Listed.{Entry}
use Rattle.joined_core.specs.Numbers.{key_number}
use Rattle.joined_core.specs.Circuit.{Room}
use Rattle.joined_module.specs.Rows.{term_place, seen_shapes}
use Rattle.joined_module.specs.Module.{ModuleTable}
use Rattle.joined_module.specs.Machine.{Tagged, tagged, RowCircuit, row_clocks, row_start}
use Rattle.joined_edges.specs.Timed.{Timed, timed_edges, timed_start}
use Rattle.joined_timed.specs.Laws.{TableGoes, Timely}
use Rattle.joined_timed.proofs.Runs.{timed_along}
use Rattle.joined_numbers.specs.Within.{start_key}
use Rattle.joined_numbers.specs.At.{number_at}
use Rattle.joined_numbers.specs.Laws.{TableRuns, memory_of, RowsTell}
use Rattle.joined_numbers.specs.Runs.{table_of, module_runs}
use Rattle.joined_numbers.proofs.Self.{term_self}
use Rattle.joined_numbers.proofs.Runs.{rows_mean}
use Rattle.joined_means.proofs.Tables.{table_goes, start_same}
use Rattle.joined_means.proofs.Tells.{table}
use Rattle.joined_needs.specs.Edges.{blank, edge_run, edge_cells, edge_forks}
use Rattle.joined_needs.specs.Told.{Spent, EndsSo, NeedsTold}
use Rattle.joined_needs.specs.declared.needs.Ending.{Ending}
use Rattle.joined_needs.specs.declared.needs.Ending.TheVariants.{Answered, NoRow, Beyond}
use Rattle.joined_needs.specs.declared.needs.Needs.{Needs}
use Rattle.joined_needs.proofs.Exact.{needs_same}
use Rattle.circuit_meaning.specs.Counts.{TellsOf}
use Rattle.circuit_meaning.specs.Laws.{most_room}

-- ---- a memory in which nothing was written is one of a table's

-- some shape's tag is 0
record First (xs : List Term) : Type 0 where
  shape : Term
  place : term_place xs shape ≡ 0

first : (xs : List Term) → First xs
first [] = record { shape = a_star; place = refl }
first (x ∷ xs) = record { shape = x; place = ap (λ b. if b then 0 else suc (term_place xs x)) (term_self x) }

pub none : List Entry → ℕ → ℕ → Pointer
none entries n i = point (first (seen_shapes entries)).shape 0

pub none_is : (sites : List (ℕ × Site)) (entries : List Entry) → memory_of sites entries (none entries) ≡ blank
unfolding none first
none_is sites entries = fun_ext (λ n. fun_ext (λ i. go i))
  where
    go : (i : ℕ) → memory_of sites entries (none entries) 0 i ≡ blank 0 i
    go zero = ap (λ t. tagged t 0) (first (seen_shapes entries)).place
    go (suc zero) = ap (λ t. tagged t 0) (first (seen_shapes entries)).place
    go (suc (suc i)) = refl

-- ---- what is counted tells what the term means

module _ (m : TermTree) (us vs : List ℕ) (h : HasType [] m (numeric (length vs))) (e : length us ≡ length vs) (a : AreNumbers us)
    (b : AreNumbers vs) (sites : List (ℕ × Site)) (entries : List Entry)
    (runs : module_runs (net_of (applied m us)) (places m (length vs)) sites entries most_room ≡ true) (budget : ℕ) (n : Needs)
    (told : NeedsTold (number_at vs) (table_of (net_of (applied m us)) sites entries) budget n) where
  abbrev ps : ℕ → ℕ
  ps = number_at vs

  abbrev net : NetTree
  net = net_of (applied m us)

  abbrev other : NetTree
  other = net_of (applied m vs)

  abbrev B : ModuleTable
  B = table_of net sites entries

  -- with just enough room
  abbrev enough : Room
  enough = record { cells = edge_cells ps B n.cycles; forks = edge_forks ps B n.cycles }

  abbrev M : ℕ → ℕ → Tagged
  M = memory_of sites entries (none entries)

  abbrev t : Timed
  t = edge_run ps B n.cycles

  typed : HasType [] (applied m vs) nat
  typed = has m vs h b

  right : TableRuns other sites entries ps
  right = table m us vs h e a b sites entries most_room runs

  same_start : start_key other ≡ start_key net
  same_start = ap start_key (exchanged m us vs e) ∙ start_same net (places m (length vs)) vs

  goes : TableGoes ps enough B M
  goes =
      table_goes net other (built_runs (applied m vs) typed (built_sound (applied m vs) typed)) same_start sites entries ps right enough
      (none entries)

  time : Timely ps enough B M n.cycles t
  time =
      subst (Timely ps enough B M n.cycles)
      (ap (λ M. timed_edges ps enough B.rows n.cycles (timed_start B M)) (none_is sites entries)
      ∙ needs_same ps B enough n.cycles (omega arith) (omega arith))
      (timed_along ps enough B M goes n.cycles)

  abbrev D : ℕ → RowCircuit
  D j = row_clocks ps enough B.rows j (row_start B.start M)

  tell : (j : ℕ) → ((D j).full ≡ true) ⊎ RowsTell (applied m vs) j (D j)
  tell j =
      subst (λ k. let E = row_clocks ps enough B.rows j (row_start (key_number entries k) M) in
      (E.full ≡ true) ⊎ RowsTell (applied m vs) j E) same_start
      (rows_mean (applied m vs) typed (built_sound (applied m vs) typed) sites entries ps right enough (none entries) j)

  tells : (j : ℕ) → (D j).full ≡ false → RowsTell (applied m vs) j (D j)
  tells j f = ⊎_elim (λ e. not_full (sym e ∙ f)) (λ h. h) (tell j)

  module _ (full : t.circuit.full ≡ false) where
    here : RowsTell (applied m vs) time.rows (D time.rows)
    here = tells time.rows (ap (λ (D : RowCircuit). D.full) (sym time.circuit) ∙ full)

    -- it has ended, with its value
    ended : (d : t.circuit.ended ≡ true) → Means (applied m vs) t.circuit.value × Length other t.circuit.value t.circuit.moves
    ended d =
        let e : (D time.rows).ended ≡ true = ap (λ (D : RowCircuit). D.ended) (sym time.circuit) ∙ d in
        subst (λ (D : RowCircuit). Means (applied m vs) D.value × Length other D.value D.moves) (sym time.circuit)
        (here.means e, here.length e)

    -- or not yet
    waits : t.circuit.ended ≡ false → IsBeyond other t.circuit.moves
    waits d =
        subst (λ (D : RowCircuit). IsBeyond other D.moves) (sym time.circuit)
        (here.waits (ap (λ (D : RowCircuit). D.ended) (sym time.circuit) ∙ d))

    -- after so many edges there were as many rows, and as many moves
    long : t.done ≡ false → n.cycles ≡ 133 * suc budget → IsBeyond other budget
    long d c v l h = go t.circuit.ended refl
      where
        go : (e : Bool) → t.circuit.ended ≡ e → budget < l
        go false e =
            let x : (D time.rows).ended ≡ false = ap (λ (D : RowCircuit). D.ended) (sym time.circuit) ∙ e in
            let y = here.waits x v l h in
            let w = here.goes x in
            let q = time.bound d full in
            omega (arith, y, w, q, c)
        go true e =
            let i : ℕ = time.before in
            let r = tells i (time.ready e) in
            let y = r.waits (time.going e) v l h in
            let w = r.goes (time.going e) in
            let q = time.bound d full in
            let k = time.last e in
            omega (arith, y, w, q, c, k)

    beyond : Spent budget n.cycles t → IsBeyond other budget
    beyond (inl s) v l h =
        let x = ended (time.done s.0) in
        let one = (one_count in_turn other t.circuit.value v t.circuit.moves l x.1 h).1 in
        let p = s.1 in
        omega (arith, one, p)
    beyond (inr (inl s)) v l h = let x = waits s.0 v l h in let p = s.1 in omega (arith, x, p)
    beyond (inr (inr s)) v l h = long s.0 s.1 v l h

  pub needs_tell : TellsOf (applied m vs) budget n.moves n.ending
  needs_tell = go n.ending told.ends
    where
      go : (o : Ending) → EndsSo budget n.cycles t o → TellsOf (applied m vs) budget n.moves o
      go (Answered v) s =
          let x = ended s.1.0 (time.done s.0) in
          let less = s.1.1.1 in
          let moves : n.moves ≡ t.circuit.moves = told.moves ∙ least t.circuit.moves budget less in (
            subst (Means (applied m vs)) s.1.1.0 x.0,
            (
              subst (λ w. Length other w n.moves) s.1.1.0 (subst (Length other t.circuit.value) (sym moves) x.1),
              subst (λ k. k ≤ budget) (sym moves) less,
            ),
          )
        where
          least : (k b : ℕ) → k ≤ b → min k b ≡ k
          least k b l = omega arith
      go NoRow s = tt
      go Beyond s = beyond s.0 s.1
