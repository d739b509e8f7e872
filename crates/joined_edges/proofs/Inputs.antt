-- Both operands of the row, where no product goes on.
use Rattle.std.proofs.Common.{◌≡◌, ◌<◌, ℕ, ◌^◌, max, Bool, true, false, List, [], ◌∷◌, Option, Some, None, is_some}
use Rattle.std.proofs.Common.{refl, sym, ap, subst, ◌∙◌}
use Rattle.std.proofs.lemmas.Bool.{and_parts, ltb-true}
use Prim.Native.String.{String}
use Rattle.pcf_values.specs.declared.val.Val.{Val}
use Rattle.verilog_tree.specs.Tree.{Expr, count, sized, name, cat, pick, wire, upto, Item}
use Rattle.verilog_tree.specs.Meaning.{Scope, Store, fit, nonzero, chosen, bits, value, scope}
use Rattle.verilog_tree.proofs.Numbers.{fits}
use Rattle.circuit_module.specs.Stands.{value_number, Small}
use Rattle.circuit_module.proofs.Values.{value_low}
use Rattle.joined_core.specs.Circuit.{Room}
use Rattle.joined_module.specs.Rows.{Operand, the_value, the_kept, a_literal, a_port, Worth, stays, tells, comes_to, ForkDeed, no_fork}
use Rattle.joined_module.specs.Rows.{opens}
use Rattle.joined_module.specs.Rows.{keeps, closes, ModuleRow}
use Rattle.joined_module.specs.Names.{held_name}
use Rattle.joined_module.specs.Fields.{first_input, second_input, input_expr, worth_first, worth_second, first_operand, second_operand}
use Rattle.joined_module.specs.Fields.{kept_operand}
use Rattle.joined_module.specs.Unit.{operand_wires_of}
use Rattle.joined_module.specs.Module.{Widths, widths}
use Rattle.joined_module.specs.Machine.{RowCircuit, RowFork, innermost, operand_value, value_or_zero, operand_there, option_there}
use Rattle.joined_module.specs.Machine.{deed_there, all_there}
use Rattle.joined_module.specs.Machine.{worth_there, is_answered, is_open}
use Rattle.joined_module.specs.Fits.{operand_within}
use Rattle.verilog_tree.specs.Items.{Has}
use Rattle.verilog_tree.specs.Laws.{Settles}
use Rattle.verilog_tree.proofs.Lists.{stands_at}
use Rattle.joined_edges.specs.Stands.{ForkIs}
use Rattle.joined_edges.proofs.Operands.{OperandRight, input_is}
use Rattle.joined_edges.proofs.Rows.{field_first, field_second}
use Rattle.joined_edges.proofs.Pointers.{Held}
use Rattle.joined_edges.proofs.Items.{is, in_operands}
pub use Rattle.joined_edges.specs.Row.{Values, NoProduct}

-- ---- what is read is there

kept_there : (fs : List RowFork) → is_answered fs ≡ true → (u : Val) × ((innermost fs).answered ≡ Some u)
kept_there [] h = absurd cc
kept_there (f ∷ fs) h = go f.answered refl h
  where
    go : (o : Option Val) → f.answered ≡ o → is_some o ≡ true → (u : Val) × (f.answered ≡ Some u)
    go None e h = absurd cc
    go (Some u) e h = (u, e)

pub first_there : (D : RowCircuit) (w : Worth) (x : Operand) → worth_there D w ≡ true → worth_first w ≡ Some x → operand_there D x ≡ true
first_there D stays x h e = absurd cc
first_there D (tells y) x h e = let q : y ≡ x = cc in subst (λ o. operand_there D o ≡ true) q h
first_there D (comes_to o y z) x h e =
    let q : y ≡ x = cc in subst (λ o. operand_there D o ≡ true) q (and_parts (operand_there D y) (operand_there D z) h).0

-- what a deed keeps of an operand is there where the deed finds what it reads
kept_operand_there : (D : RowCircuit) (d : ForkDeed) (x : Operand) → deed_there D d ≡ true → kept_operand d ≡ Some x →
    operand_there D x ≡ true
kept_operand_there D no_fork x h e = absurd cc
kept_operand_there D (opens l b k) x h e = go k (and_parts (all_there D l) (option_there D k) h).1 e
  where
    go : (k : Option Operand) → option_there D k ≡ true → k ≡ Some x → operand_there D x ≡ true
    go None h e = absurd cc
    go (Some y) h e = let q : y ≡ x = cc in subst (λ o. operand_there D o ≡ true) q h
kept_operand_there D (keeps y) x h e =
    let q : y ≡ x = cc in subst (λ o. operand_there D o ≡ true) q (and_parts (is_open D.forks) (operand_there D y) h).1
kept_operand_there D closes x h e = absurd cc

pub second_there : (D : RowCircuit) (w : Worth) (d : ForkDeed) (x : Operand) → worth_there D w ≡ true → deed_there D d ≡ true →
    worth_second w (kept_operand d) ≡ Some x → operand_there D x ≡ true
second_there D stays d x h g e = kept_operand_there D d x g e
second_there D (tells y) d x h g e = kept_operand_there D d x g e
second_there D (comes_to o y z) d x h g e =
    let q : z ≡ x = cc in subst (λ o. operand_there D o ≡ true) q (and_parts (operand_there D y) (operand_there D z) h).1

module _ (n : ℕ) (ps : ℕ → ℕ) (r : ModuleRow) (D : RowCircuit) (R : Store) (values : Values n ps D R) where
  -- what is asked of an operand
  pub record Asked (W : Widths) (x : Operand) : Type 0 where
    pub there : operand_there D x ≡ true
    pub within : operand_within n (Some x) ≡ true
    pub kept : x ≡ the_kept → ForkIs W (R.vec "fork_has") (R.vec "kept") (innermost D.forks)

  pub operand_right : (W : Widths) (x : Operand) → Asked W x → OperandRight n ps r D R x × Small (operand_value ps D x)
  operand_right W the_value h = (
    record { value = λ e. values.result; kept = λ e. absurd cc; port = λ i e. absurd cc },
    values.small,
  )
  operand_right W the_kept h =
      let u = kept_there D.forks h.there in
      let a = (h.kept refl).answered u.0 u.1 in
      let v : operand_value ps D the_kept ≡ u.0 = ap value_or_zero u.1 in (
        record { value = λ e. absurd cc; kept = λ e. a.0 ∙ ap value_number (sym v); port = λ i e. absurd cc },
        subst Small (sym v) a.1,
      )
  operand_right W (a_literal m) h = (
    record { value = λ e. absurd cc; kept = λ e. absurd cc; port = λ i e. absurd cc },
    ltb-true m (2 ^ 64) h.within,
  )
  operand_right W (a_port i) h =
      let l = ltb-true i n h.within in (
        record {
          value = λ e. absurd cc;
          kept = λ e. absurd cc;
          port = λ j e. let q : i ≡ j = cc in subst (λ k. R.vec (held_name k) ≡ ps k) q (values.held i l);
        },
        values.ports i l,
      )

-- ---- the wires

module _ (rows : List ModuleRow) (z : Room) (start n : ℕ) (b : Bool) (S R : Store) (settles : Settles (is rows z start n b) S R) where
  abbrev P : Scope
  P = scope (is rows z start n b)

  abbrev e1 : Expr
  e1 = input_expr rows first_input

  abbrev e2 : Expr
  e2 = input_expr rows second_input

  -- what a wire of 65 bits is, whatever is around it
  abbrev pub IsWire : String → Expr → Type 0
  IsWire x e = (u : ℕ) × (R.vec x ≡ fit 65 (value P R u e))

  wires_are : (c : Bool) → c ≡ b → NoProduct c R → IsWire "first" e1 × IsWire "second" e2
  wires_are false q h =
      let has : (i : Item) → Has i (operand_wires_of false e1 e2) → Has i (is rows z start n b) =
      λ i m. in_operands rows z start n b i (subst (λ c. Has i (operand_wires_of c e1 e2)) q m) in (
        (
          max 65 (bits P e1),
          settles.wires (upto (count 64)) "first" e1 (has (wire (upto (count 64)) "first" e1)
              (stands_at (operand_wires_of false e1 e2) 0 (wire (upto (count 64)) "first" e1) refl)),
        ),
        (
          max 65 (bits P e2),
          settles.wires (upto (count 64)) "second" e2 (has (wire (upto (count 64)) "second" e2)
              (stands_at (operand_wires_of false e1 e2) 1 (wire (upto (count 64)) "second" e2) refl)),
        ),
      )
  wires_are true q h =
      let has : (i : Item) → Has i (operand_wires_of true e1 e2) → Has i (is rows z start n b) =
      λ i m. in_operands rows z start n b i (subst (λ c. Has i (operand_wires_of c e1 e2)) q m) in
      let f : Expr = pick (name "begun") (cat (sized 1 0) (name "total")) e1 in
      let g : Expr = pick (name "begun") (cat (sized 1 0) (name "factor")) e2 in
      let u : ℕ = max 65 (bits P f) in
      let v : ℕ = max 65 (bits P g) in (
        (
          u,
          settles.wires (upto (count 64)) "first" f (has (wire (upto (count 64)) "first" f)
              (stands_at (operand_wires_of true e1 e2) 0 (wire (upto (count 64)) "first" f) refl))
              ∙ ap (λ m. fit 65 (chosen (nonzero m) (value P R u (cat (sized 1 0) (name "total"))) (value P R u e1))) h,
        ),
        (
          v,
          settles.wires (upto (count 64)) "second" g (has (wire (upto (count 64)) "second" g)
              (stands_at (operand_wires_of true e1 e2) 1 (wire (upto (count 64)) "second" g) refl))
              ∙ ap (λ m. fit 65 (chosen (nonzero m) (value P R v (cat (sized 1 0) (name "factor"))) (value P R v e2))) h,
        ),
      )

  module _ (r : ModuleRow) (held : Held rows (widths rows z) P R r) (free : NoProduct b R) (ps : ℕ → ℕ) (D : RowCircuit)
      (values : Values n ps D R) where
    wire_value : (x : String) (e : Expr) → IsWire x e → (v : Val) → ((u : ℕ) → value P R u e ≡ value_number v) → Small v →
        R.vec x ≡ value_number v
    wire_value x e h v g s = h.1 ∙ ap (fit 65) (g h.0) ∙ fits 65 (value_number v) (value_low v s)

    pub first_is : (x : Operand) → first_operand r ≡ Some x → Asked n ps r D R values (widths rows z) x →
        (R.vec "first" ≡ value_number (operand_value ps D x)) × Small (operand_value ps D x)
    first_is x e h =
        let (right, small) = operand_right n ps r D R values (widths rows z) x h in
        let a = field_first (λ f. R.vec f.title ≡ f.at r) rows held.fields in
        let c = field_first (λ f. f.at r < 2 ^ f.bits) rows held.of.fits in (
          wire_value "first" e1 (wires_are b refl free).0 (operand_value ps D x)
              (λ u. input_is P R rows first_input r n ps D x e held.of.first a.0 c.0 a.1 right u) small,
          small,
        )

    pub second_is : (x : Operand) → second_operand r ≡ Some x → Asked n ps r D R values (widths rows z) x →
        (R.vec "second" ≡ value_number (operand_value ps D x)) × Small (operand_value ps D x)
    second_is x e h =
        let (right, small) = operand_right n ps r D R values (widths rows z) x h in
        let a = field_second (λ f. R.vec f.title ≡ f.at r) rows held.fields in
        let c = field_second (λ f. f.at r < 2 ^ f.bits) rows held.of.fits in (
          wire_value "second" e2 (wires_are b refl free).1 (operand_value ps D x)
              (λ u. input_is P R rows second_input r n ps D x e held.of.second a.0 c.0 a.1 right u) small,
          small,
        )
