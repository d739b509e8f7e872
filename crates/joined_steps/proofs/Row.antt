-- The row in the registers: its fields, where its pointers come from, and whether it rests.
use Rattle.std.proofs.Common.{◌≡◌, ◌<◌, ◌≤◌, ℕ, suc, ◌^◌, Bool, true, false, not, ◌&&◌, ◌||◌, List, Option, Some}
use Rattle.std.proofs.Common.{None}
use Rattle.std.proofs.Common.{refl, ap, ◌∙◌, arith, nat_lt}
use Rattle.std.proofs.Math.Nat.{pow-le-pow_right}
use Rattle.verilog_tree.specs.Meaning.{Store, flag}
use Rattle.verilog_tree.specs.WellFormed.{WellFormed}
use Rattle.circuit_module.specs.Sizes.{bits_for}
use Rattle.circuit_module.proofs.Sizes.{enough_bits}
use Rattle.joined_core.specs.Circuit.{Room}
use Rattle.joined_module.specs.Rows.{ModuleRow}
use Rattle.joined_module.specs.Fields.{bits_upto, needs_value, tests_value}
use Rattle.joined_module.specs.Fields.{answers_in}
use Rattle.joined_module.specs.Module.{ModuleTable, found_rows, widths, joined_module}
use Rattle.joined_found.specs.Found.{Each, next_field}
use Rattle.joined_found.proofs.Eaches.{each_map}
use Rattle.joined_edges.specs.Timed.{Timed, rests, Among}
use Rattle.joined_edges.specs.Stands.{Going, Standing, Stands}
use Rattle.joined_edges.proofs.Flags.{Flags, flags_of}
use Rattle.joined_edges.proofs.Rows.{of_module}
use Rattle.joined_edges.proofs.Sources.{Wide}
use Rattle.joined_edges.proofs.Pointers.{Held}
use Rattle.joined_edges.proofs.Placed.{slot_wires_are, fields_declared}
use Rattle.joined_steps.proofs.Module.{W, fs, b, settles, declares}
use Rattle.joined_edges.proofs.Flags.{by_flag}
use Rattle.joined_steps.proofs.Says.{by_row, Says, says_of, rests_wire, acts_wire, rest_bit, busy_is}
use Rattle.joined_steps.proofs.Edge.{Q, PP}
use Rattle.joined_steps.proofs.Values.{unit}

-- bits for numbers up to n
upto_low : (n : ℕ) → n < 2 ^ bits_upto n
upto_low n =
    let e = enough_bits (suc n) in
    let up : 2 ^ bits_for (suc n) ≤ 2 ^ bits_upto n = pow-le-pow_right (omega arith) (omega arith) in
    omega arith

upto_some : (n : ℕ) → 1 ≤ bits_upto n
upto_some n = omega arith

pub wide_of : (rows : List ModuleRow) (z : Room) → Wide (widths rows z)
wide_of rows z = record { place = upto_low z.cells; some_place = upto_some z.cells }

module _ (T : ModuleTable) (z : Room) (n : ℕ) (right : WellFormed (joined_module T z n) ≡ true) (S : Store) (start : S.vec "rst" ≡ 0)
    (ps : ℕ → ℕ) (t : Timed) (st : Stands T z n ps t (Q T z n right S start)) where
  abbrev Q' : Store
  Q' = Q T z n right S start

  abbrev pub rows : List ModuleRow
  rows = found_rows T.rows

  module _ (runs : t.circuit.full ≡ false) where
    pub standing : Standing T.rows (W T z n) (b T z n) n ps t Q'
    standing = st.standing runs

    pub busy : Q'.vec "busy" ≡ flag (nat_lt 0 t.late)
    busy = busy_is (PP T z n right S start) (b T z n) t.late t.circuit.value Q' (unit T z n right S start) standing.works

    module _ (goes : t.circuit.ended ≡ false) where
      pub going : Going T.rows (W T z n) t Q'
      going = standing.going goes

      pub says : Says Q' t.row
      says = says_of rows Q' t.row going.row

      -- whether it rests, is made, and begins a number
      abbrev pub resting : Option ModuleRow → Bool
      resting o = by_row (λ r. rests r t) o

      rest_of : (o : Option ModuleRow) → rest_bit false false (nat_lt 0 t.late) (by_row needs_value o) t.changed (by_row tests_value o)
          t.fresh
          (by_row (λ r. answers_in r.fork) o) ≡ resting o
      rest_of None = go (nat_lt 0 t.late) t.changed t.fresh
        where
          go : (x c f : Bool) → ((x && false) || (((x || c) && false) || (f && false))) ≡ false
          go true true true = refl
          go true true false = refl
          go true false true = refl
          go true false false = refl
          go false true true = refl
          go false true false = refl
          go false false true = refl
          go false false false = refl
      rest_of (Some r) = refl

      pub rests_now : Q'.vec "rests" ≡ flag (resting t.row)
      rests_now =
          let s = says in
          let g = going in
          let e = by_flag (Q'.vec "ended") false (st.ended ∙ ap flag goes) in
          let f = by_flag (Q'.vec "full") false (st.full ∙ ap flag runs) in
          let bz = by_flag (Q'.vec "busy") (nat_lt 0 t.late) busy in
          let nd = by_flag (Q'.vec "needs") (by_row needs_value t.row) s.needs in
          let ch = by_flag (Q'.vec "changed") t.changed g.changed in
          let ts = by_flag (Q'.vec "tests") (by_row tests_value t.row) s.tests in
          let fr = by_flag (Q'.vec "fresh") t.fresh g.fresh in
          let to = by_flag (Q'.vec "touches") (by_row (λ r. answers_in r.fork) t.row) s.touches in
          rests_wire T z n right S ∙ (λ i. flag (rest_bit (e i) (f i) (bz i) (nd i) (ch i) (ts i) (fr i) (to i))) ∙ ap flag (rest_of t.row)

      pub acts_now : Q'.vec "acts" ≡ flag (not (resting t.row) && not (by_row (λ r. r.waits) t.row))
      acts_now =
          let s = says in
          let a = by_flag (Q'.vec "rests") (resting t.row) rests_now in
          let c = by_flag (Q'.vec "waits") (by_row (λ r. r.waits) t.row) s.waits in
          acts_wire T z n right S ∙ (λ i. flag (not (a i) && not (c i)))

      -- ---- a row

      module _ (r : ModuleRow) (e : t.row ≡ Some r) (among : Among r rows) where
        pub fields_are : Each (λ f. Q'.vec f.title ≡ f.at r) (fs T z n)
        fields_are =
            each_map (λ f. Q'.vec f.title ≡ next_field f t.row) (λ f. Q'.vec f.title ≡ f.at r) (λ f h. h ∙ ap (next_field f) e) (fs T z
            n) going.row

        pub flags : Flags Q' r
        flags = flags_of rows Q' r fields_are

        pub held : Held rows (W T z n) (PP T z n right S start) Q' r
        held = record {
          of = of_module rows r among;
          fields = fields_are;
          wide = fields_declared rows z T.start n (b T z n) (wide_of rows z) (declares T z n right) S Q' (settles T z n right S);
          wires = slot_wires_are rows z T.start n (b T z n) (wide_of rows z) (declares T z n right) S Q' (settles T z n right S);
        }

        pub rests_row : (c : Bool) → rests r t ≡ c → Q'.vec "rests" ≡ flag c
        rests_row c h = rests_now ∙ ap (λ o. flag (resting o)) e ∙ ap flag h

        pub acts_row : (c d : Bool) → rests r t ≡ c → r.waits ≡ d → Q'.vec "acts" ≡ flag (not c && not d)
        acts_row c d h k =
            acts_now ∙ ap (λ o. flag (not (resting o) && not (by_row (λ r. r.waits) o))) e ∙ (λ i. flag (not (h i) && not (k i)))
