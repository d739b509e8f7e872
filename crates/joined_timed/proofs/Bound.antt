-- How many edges rows with their waits take.
use Rattle.std.proofs.Common.{◌≡◌, ◌⊎◌, ◌<◌, ◌≤◌, ℕ, zero, suc, ◌+◌, ◌-◌, ◌*◌, ◌^◌, Bool, true, false, cond, ◌||◌, List}
use Rattle.std.proofs.Common.{Option, Some, None}
use Rattle.std.proofs.Common.{refl, sym, ap, ◌∙◌, subst, ⊎_elim, arith}
use Rattle.std.specs.Prelude.{nat_lt, nat_eq, ◌&&◌}
use Rattle.std.proofs.lemmas.Bool.{and_parts, or_parts, or_cases}
use Rattle.std.proofs.lemmas.Nat.{mod_below}
use Rattle.net_rows.proofs.Small.{not_full}
use Rattle.pcf_values.specs.declared.val.Val.{Val}
use Rattle.pcf_values.specs.declared.operator.Operator.{Operator}
use Rattle.pcf_values.specs.declared.operator.Operator.TheVariants.{Plus, Minus, Times}
use Rattle.circuit_module.specs.Stands.{value_number}
use Rattle.circuit_module.proofs.Sizes.{few_bits}
use Rattle.verilog_tree.specs.Meaning.{flag}
use Rattle.verilog_tree.proofs.Numbers.{flag_le}
use Rattle.late_unit.specs.Works.{low_of, bits_of, edges_of}
use Rattle.joined_core.specs.Circuit.{Room}
use Rattle.joined_module.specs.Rows.{ModuleRow, Worth, stays, tells, comes_to}
use Rattle.joined_module.specs.Fields.{needs_value, tests_value, answers_in}
use Rattle.joined_module.specs.Machine.{RowCircuit, operand_value, row_clocks}
use Rattle.joined_found.specs.Found.{rows_land, rows_keyed}
use Rattle.joined_edges.specs.Timed.{Timed, rests, timed_rest, timed_wait, late_after, timed_act, timed_none, timed_found}
use Rattle.joined_edges.specs.Timed.{timed_edge}
use Rattle.joined_edges.specs.Timed.{timed_edges}
use Rattle.joined_timed.specs.Laws.{RowsThere, RowsLook}
use Rattle.joined_timed.proofs.Right.{found_waits, Along, rest_along, wait_along, none_along, act_along}

-- a number comes within so many edges
edges_few : (o : Operator) (v : Val) → edges_of o v ≤ 129
edges_few Plus v = omega arith
edges_few Minus v = omega arith
edges_few Times v =
    let l : low_of v < 2 ^ 64 = mod_below (value_number v) (2 ^ 64) (omega arith) in
    let b : bits_of (low_of v) ≤ 64 = few_bits (suc (low_of v)) 64 l in
    omega (arith, b)

late_few : (ps : ℕ → ℕ) (D : RowCircuit) (w : Worth) (n : ℕ) → n ≤ 129 → late_after ps D w n ≤ 129
late_few ps D stays n h = omega (arith, h)
late_few ps D (tells x) n h = omega (arith, h)
late_few ps D (comes_to o x y) n h = edges_few o (operand_value ps D y)

-- the edges for which a row may rest
abbrev pub rest_left : ℕ → (changed fresh : Bool) → ℕ
rest_left zero c f = flag c + flag f
rest_left (suc n) c f = suc (suc n) + flag f

left_few : (n : ℕ) (c f : Bool) → n ≤ 129 → rest_left n c f ≤ 131
left_few zero c f h = let a = flag_le c in let b = flag_le f in omega (arith, a, b)
left_few (suc n) c f h = let b = flag_le f in omega (arith, b, h)

two_more : (n : ℕ) → rest_left (suc (suc n) - 1) (nat_eq (suc (suc n)) 1) false ≡ suc (suc n)
two_more n =
    let e : suc (suc n) - 1 ≡ suc n = omega arith in
    let z : suc (suc n) + 0 ≡ suc (suc n) = omega arith in
    ap (λ m. rest_left m (nat_eq (suc (suc n)) 1) false) e ∙ z

-- each edge leaves one less
left_less : (n : ℕ) (c f a b d : Bool) → ((nat_lt 0 n && a) || (((nat_lt 0 n || c) && b) || (f && d))) ≡ true →
    suc (rest_left (n - 1) (nat_eq n 1) false) ≤ rest_left n c f
left_less zero true f a b d h = omega arith
left_less zero false true a b d h = omega arith
left_less zero false false a b d h = absurd cc
left_less (suc zero) c f a b d h = omega arith
left_less (suc (suc n)) c f a b d h = let x = two_more n in omega (arith, x)

left_same : (n : ℕ) (c f : Bool) → rest_left (n - 1) (nat_eq n 1) false ≤ rest_left n c f
left_same zero c f = omega arith
left_same (suc zero) c f = omega arith
left_same (suc (suc n)) c f = let x = two_more n in omega (arith, x)

-- whether the row waits
abbrev pub row_left : Option ModuleRow → ℕ
row_left None = 0
row_left (Some r) = flag r.waits

row_few : (o : Option ModuleRow) → row_left o ≤ 1
row_few None = omega arith
row_few (Some r) = flag_le r.waits

-- a row that is found doesn't
pub found_left : (o : Option ModuleRow) → ((r : ModuleRow) → o ≡ Some r → r.waits ≡ false) → row_left o ≡ 0
found_left None h = refl
found_left (Some r) h = ap flag (h r refl)

-- the edges until a row is made, or the value is told at the end
abbrev pub edges_left : Timed → ℕ
edges_left t = cond t.circuit.ended (suc t.late) (rest_left t.late t.changed t.fresh + row_left t.row)

-- the last of so many edges
pub edges_last : (ps : ℕ → ℕ) (z : Room) (rows : List ModuleRow) (k : ℕ) (t : Timed) →
    timed_edges ps z rows (suc k) t ≡ timed_edge ps z rows (timed_edges ps z rows k t)
edges_last ps z rows zero t = refl
edges_last ps z rows (suc k) t = edges_last ps z rows k (timed_edge ps z rows t)

module _ (ps : ℕ → ℕ) (z : Room) (rows : List ModuleRow) (keyed : rows_keyed rows ≡ true) (land : rows_land rows ≡ true)
    (D0 : RowCircuit) (there : RowsThere ps z rows D0) (look : RowsLook ps z rows D0) where
  -- the row before the last one
  pub record LastRow (j : ℕ) : Type 0 where
    pub before : ℕ
    pub last : j ≡ suc before
    pub going : (row_clocks ps z rows before D0).ended ≡ false
    pub ready : (row_clocks ps z rows before D0).full ≡ false

  -- after n edges j rows were made
  pub record Goes (n j : ℕ) (t : Timed) : Type 0 where
    pub along : Along ps z rows keyed land D0 there look j t
    pub late : t.late ≤ 129
    pub few : j ≤ n
    pub bound : t.done ≡ false → t.circuit.full ≡ false → n + edges_left t ≤ suc (133 * j)
    pub done : t.done ≡ true → t.circuit.ended ≡ true
    pub last : t.circuit.ended ≡ true → LastRow j

  left_going : (t : Timed) → t.circuit.ended ≡ false → edges_left t ≡ rest_left t.late t.changed t.fresh + row_left t.row
  left_going t e = ap (λ b. cond b (suc t.late) (rest_left t.late t.changed t.fresh + row_left t.row)) e

  left_ended : (t : Timed) → t.circuit.ended ≡ true → edges_left t ≡ suc t.late
  left_ended t e = ap (λ b. cond b (suc t.late) (rest_left t.late t.changed t.fresh + row_left t.row)) e

  module _ (n j : ℕ) (t : Timed) (g : Goes n j t) where
    -- once the run has ended the value comes
    ended_edge : t.circuit.ended ≡ true → Goes (suc n) j (timed_rest t)
    ended_edge e = record {
      along = rest_along ps z rows keyed land D0 there look j t g.along;
      late = let l = g.late in omega (arith, l);
      few = let l = g.few in omega (arith, l);
      bound = λ d f.
          let o = or_parts t.done (t.circuit.ended && nat_eq t.late 0) d in
          let b = g.bound o.0 f in
          let a = left_ended t e in
          let c = left_ended (timed_rest t) e in
          go t.late (ap (λ b. b && nat_eq t.late 0) (sym e) ∙ o.1) a c b;
      done = λ d. e;
      last = λ e. g.last e;
    }
      where
        go : (m : ℕ) → nat_eq m 0 ≡ false → edges_left t ≡ suc m → edges_left (timed_rest t) ≡ suc (m - 1) →
            n + edges_left t ≤ suc (133 * j) → suc n + edges_left (timed_rest t) ≤ suc (133 * j)
        go zero q a c b = absurd cc
        go (suc m) q a c b = omega (arith, a, c, b)

    -- where it is full nothing is asked
    full_edge : t.circuit.ended ≡ false → t.circuit.full ≡ true → Goes (suc n) j (timed_rest t)
    full_edge e f = record {
      along = rest_along ps z rows keyed land D0 there look j t g.along;
      late = let l = g.late in omega (arith, l);
      few = let l = g.few in omega (arith, l);
      bound = λ d r. not_full (sym f ∙ r);
      done = λ d. ⊎_elim g.done (λ q. not_full (sym (and_parts t.circuit.ended (nat_eq t.late 0) q).0 ∙ e))
          (or_cases t.done (t.circuit.ended && nat_eq t.late 0) d);
      last = λ e. g.last e;
    }

    module _ (e : t.circuit.ended ≡ false) (f : t.circuit.full ≡ false) where
      none_edge : t.row ≡ None → Goes (suc n) (suc j) (timed_none t)
      none_edge q = record {
        along = none_along ps z rows keyed land D0 there look j t g.along e f q;
        late = g.late;
        few = let l = g.few in omega (arith, l);
        bound = λ d r. not_full r;
        done = λ d. g.done d;
        last = λ h. not_full (sym h ∙ e);
      }

      rest_edge : (r : ModuleRow) → rests r t ≡ true → Goes (suc n) j (timed_rest t)
      rest_edge r q = record {
        along = rest_along ps z rows keyed land D0 there look j t g.along;
        late = let l = g.late in omega (arith, l);
        few = let l = g.few in omega (arith, l);
        bound = λ d h.
            let o = or_parts t.done (t.circuit.ended && nat_eq t.late 0) d in
            let b = g.bound o.0 h in
            let a = left_going t e in
            let c = left_going (timed_rest t) e in
            let l = left_less t.late t.changed t.fresh (needs_value r) (tests_value r) (answers_in r.fork) q in
            omega (arith, a, b, c, l);
        done = λ d. ⊎_elim g.done (λ q. not_full (sym (and_parts t.circuit.ended (nat_eq t.late 0) q).0 ∙ e))
            (or_cases t.done (t.circuit.ended && nat_eq t.late 0) d);
        last = λ e. g.last e;
      }

      wait_edge : (r : ModuleRow) → t.row ≡ Some r → r.waits ≡ true → Goes (suc n) j (timed_wait rows t)
      wait_edge r q w = record {
        along = wait_along ps z rows keyed land D0 there look j t g.along;
        late = let l = g.late in omega (arith, l);
        few = let l = g.few in omega (arith, l);
        bound = λ d h.
            let b = g.bound d h in
            let a = left_going t e in
            let c = left_going (timed_wait rows t) e in
            let l = left_same t.late t.changed t.fresh in
            let o : row_left t.row ≡ 1 = ap row_left q ∙ ap flag w in
            let p : row_left (timed_wait rows t).row ≡ 0 =
            found_left (timed_wait rows t).row (λ r q. found_waits ps z rows keyed land D0 there look t.circuit.key _ r q) in
            omega (arith, a, b, c, l, o, p);
        done = g.done;
        last = λ e. g.last e;
      }

      act_edge : (r : ModuleRow) → t.row ≡ Some r → r.waits ≡ false → Goes (suc n) (suc j) (timed_act ps z rows r t)
      act_edge r q w = record {
        along = act_along ps z rows keyed land D0 there look j t g.along e f r q w;
        late = late_few ps t.circuit r.worth t.late g.late;
        few = let l = g.few in omega (arith, l);
        bound = λ d h.
            let b = g.bound d f in
            let l = few_left (timed_act ps z rows r t) (late_few ps t.circuit r.worth t.late g.late) in
            omega (arith, b, l);
        done = λ d. not_full (sym (g.done d) ∙ e);
        last = λ h. record {
          before = j;
          last = refl;
          going = ap (λ (D : RowCircuit). D.ended) (sym g.along.circuit) ∙ e;
          ready = ap (λ (D : RowCircuit). D.full) (sym g.along.circuit) ∙ f;
        };
      }
        where
          few_left : (t : Timed) → t.late ≤ 129 → edges_left t ≤ 132
          few_left t l = go t.circuit.ended
            where
              go : (b : Bool) → cond b (suc t.late) (rest_left t.late t.changed t.fresh + row_left t.row) ≤ 132
              go true = omega (arith, l)
              go false =
                  let a = left_few t.late t.changed t.fresh l in
                  let b = row_few t.row in
                  omega (arith, a, b)

      found_edge : (o : Option ModuleRow) → t.row ≡ o → (i : ℕ) × Goes (suc n) i (timed_found ps z rows o t)
      found_edge None q = (suc j, none_edge q)
      found_edge (Some r) q = go (rests r t) refl r.waits refl
        where
          go : (b : Bool) → rests r t ≡ b → (c : Bool) → r.waits ≡ c →
              (i : ℕ) × Goes (suc n) i (cond b (timed_rest t) (cond c (timed_wait rows t) (timed_act ps z rows r t)))
          go true h c w = (j, rest_edge r h)
          go false h true w = (j, wait_edge r q w)
          go false h false w = (suc j, act_edge r q w)

    edge_goes : (i : ℕ) × Goes (suc n) i (timed_edge ps z rows t)
    edge_goes = go t.circuit.ended t.circuit.full refl refl
      where
        go : (e f : Bool) → t.circuit.ended ≡ e → t.circuit.full ≡ f →
            (i : ℕ) × Goes (suc n) i (cond (e || f) (timed_rest t) (timed_found ps z rows t.row t))
        go true f q r = (j, ended_edge q)
        go false true q r = (j, full_edge q r)
        go false false q r = found_edge q r t.row refl

  -- so many edges
  pub edges_go : (n : ℕ) (t : Timed) → Goes 0 0 t → (j : ℕ) × Goes n j (timed_edges ps z rows n t)
  edges_go zero t g = (0, g)
  edges_go (suc n) t g =
      let h = edges_go n t g in
      let i = edge_goes n h.0 (timed_edges ps z rows n t) h.1 in
      (i.0, subst (Goes (suc n) i.0) (sym (edges_last ps z rows n t)) i.1)
