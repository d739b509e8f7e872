-- What is declared of items that stand in a module, and what their wires are; and so of the unit of numbers and of the count of moves.
use Rattle.std.proofs.Common.{◌≡◌, ℕ, ◌^◌, Bool, true, false, List, [], ◌∷◌, ◌++◌, refl, ap, sym, ◌∙◌}
use Rattle.verilog_tree.specs.Tree.{count, plus, num, sized, name, bit, part, cat, two, upto, one, Expr, Item, note, gap}
use Rattle.verilog_tree.specs.Tree.{size, constant, input, output, reg, memory, wire}
use Rattle.verilog_tree.specs.Tree.{settles, clocked}
use Rattle.verilog_tree.specs.Meaning.{Scope, Store, scope, assigned}
use Rattle.verilog_tree.specs.Items.{Has, here, further}
use Rattle.verilog_tree.specs.Laws.{Rests, Declares, Settles}
use Rattle.verilog_tree.proofs.Lists.{in_front, behind, stands_at}
use Rattle.late_numbers.specs.Unit.{quarter_registers, meet_wires}
use Rattle.late_numbers.specs.ProductUnit.{product_registers, met_wires}
use Rattle.late_unit.specs.Works.{Declared, UnitRests, unit_items, own_items}
use Rattle.joined_core.specs.Circuit.{Room}
use Rattle.joined_module.specs.Rows.{ModuleRow}
use Rattle.joined_module.specs.Fields.{first_input, second_input, input_expr}
use Rattle.joined_module.specs.Unit.{unit_said, unit_flags, unit_registers, product_parts, operand_wires_of, unit_wires, right_wires}
use Rattle.joined_module.specs.Unit.{late_wires}
use Rattle.joined_module.specs.Unit.{busy_wires}
use Rattle.joined_module.specs.Module.{ModuleTable, joined_ports, ports_said}
use Rattle.joined_module.specs.Module.{store_registers, rest_wires}
use Rattle.joined_edges.proofs.Counts.{moves_wires, moves_items}
use Rattle.joined_edges.proofs.Finding.{R, W, b, is, P}
use Rattle.joined_edges.proofs.Items.{in_ports, in_said, in_store, in_unit, in_operands, in_wires, in_rest}

-- ---- items that stand in a tree

-- none of these is a size
abbrev pub sizeless : List Item → Bool
sizeless [] = true
sizeless (size x n ∷ js) = false
sizeless (j ∷ js) = sizeless js

-- the one item of a list
pub one_has : (ks : List Item) (i : Item) → Has i ks → (j : Item) → Has j (i ∷ []) → Has j ks
one_has ks i h j (here []) = h
one_has ks i h j (further i' [] m) = elim m [ ]

-- what is declared of two lists is declared of both together
pub declared_append : (Q : Scope) (xs ys : List Item) → Declared Q xs → Declared Q ys → Declared Q (xs ++ ys)
declared_append Q [] ys a c = c
declared_append Q (note s ∷ xs) ys a c = declared_append Q xs ys a c
declared_append Q (gap ∷ xs) ys a c = declared_append Q xs ys a c
declared_append Q (size x n ∷ xs) ys a c = (a.0, declared_append Q xs ys a.1 c)
declared_append Q (constant w x n ∷ xs) ys a c = (a.0, declared_append Q xs ys a.1 c)
declared_append Q (input w x ∷ xs) ys a c = (a.0, declared_append Q xs ys a.1 c)
declared_append Q (output w x ∷ xs) ys a c = (a.0, declared_append Q xs ys a.1 c)
declared_append Q (reg w x ∷ xs) ys a c = (a.0, declared_append Q xs ys a.1 c)
declared_append Q (memory w x k ∷ xs) ys a c = (a.0, declared_append Q xs ys a.1 c)
declared_append Q (wire w x e ∷ xs) ys a c = (a.0, declared_append Q xs ys a.1 c)
declared_append Q (settles s ∷ xs) ys a c = declared_append Q xs ys a c
declared_append Q (clocked s ∷ xs) ys a c = declared_append Q xs ys a c

module _ (ks : List Item) (d : Declares ks) where
  -- what is declared of these
  pub declared_of : (js : List Item) → sizeless js ≡ true → ((i : Item) → Has i js → Has i ks) → Declared (scope ks) js
  declared_of [] o h = tt
  declared_of (note s ∷ js) o h = declared_of js o (λ i m. h i (further (note s) js m))
  declared_of (gap ∷ js) o h = declared_of js o (λ i m. h i (further gap js m))
  declared_of (size x n ∷ js) o h = absurd cc
  declared_of (constant w x n ∷ js) o h =
      let m = h (constant w x n) (here js) in
      ((d.width (constant w x n) m x refl, d.number w x n m), declared_of js o (λ i m. h i (further (constant w x n) js m)))
  declared_of (input w x ∷ js) o h =
      (d.width (input w x) (h (input w x) (here js)) x refl, declared_of js o (λ i m. h i (further (input w x) js m)))
  declared_of (output w x ∷ js) o h =
      (d.width (output w x) (h (output w x) (here js)) x refl, declared_of js o (λ i m. h i (further (output w x) js m)))
  declared_of (reg w x ∷ js) o h =
      (d.width (reg w x) (h (reg w x) (here js)) x refl, declared_of js o (λ i m. h i (further (reg w x) js m)))
  declared_of (memory w x k ∷ js) o h =
      let m = h (memory w x k) (here js) in
      ((d.width (memory w x k) m x refl, d.words w x k m), declared_of js o (λ i m. h i (further (memory w x k) js m)))
  declared_of (wire w x e ∷ js) o h =
      (d.width (wire w x e) (h (wire w x e) (here js)) x refl, declared_of js o (λ i m. h i (further (wire w x e) js m)))
  declared_of (settles s ∷ js) o h = declared_of js o (λ i m. h i (further (settles s) js m))
  declared_of (clocked s ∷ js) o h = declared_of js o (λ i m. h i (further (clocked s) js m))

  pub declared_one : (i : Item) → sizeless (i ∷ []) ≡ true → Has i ks → Declared (scope ks) (i ∷ [])
  declared_one i o h = declared_of (i ∷ []) o (one_has ks i h)

  module _ (S X : Store) (s : Settles ks S X) where
    -- where all has settled each of these wires is its expression
    pub rests_of : (js : List Item) → ((i : Item) → Has i js → Has i ks) → Rests (scope ks) js X
    rests_of [] h = tt
    rests_of (note t ∷ js) h = rests_of js (λ i m. h i (further (note t) js m))
    rests_of (gap ∷ js) h = rests_of js (λ i m. h i (further gap js m))
    rests_of (size x n ∷ js) h = rests_of js (λ i m. h i (further (size x n) js m))
    rests_of (constant w x n ∷ js) h = rests_of js (λ i m. h i (further (constant w x n) js m))
    rests_of (input w x ∷ js) h = rests_of js (λ i m. h i (further (input w x) js m))
    rests_of (output w x ∷ js) h = rests_of js (λ i m. h i (further (output w x) js m))
    rests_of (reg w x ∷ js) h = rests_of js (λ i m. h i (further (reg w x) js m))
    rests_of (memory w x k ∷ js) h = rests_of js (λ i m. h i (further (memory w x k) js m))
    rests_of (wire w x e ∷ js) h =
        let m = h (wire w x e) (here js) in (
          s.wires w x e m ∙ ap (λ k. assigned (scope ks) X k e) (sym (d.width (wire w x e) m x refl)),
          rests_of js (λ i m. h i (further (wire w x e) js m)),
        )
    rests_of (settles t ∷ js) h =
        (s.blocks t (h (settles t) (here js)), rests_of js (λ i m. h i (further (settles t) js m)))
    rests_of (clocked t ∷ js) h = rests_of js (λ i m. h i (further (clocked t) js m))

-- ---- the module

module _ (T : ModuleTable) (z : Room) (n : ℕ) where
  abbrev Rs : List ModuleRow
  Rs = R T z n

  abbrev first : Expr
  first = input_expr Rs first_input

  abbrev second : Expr
  second = input_expr Rs second_input

  -- ---- the unit of numbers

  module _ (d : Declares (is T z n)) where
    abbrev Q : Scope
    Q = P T z n

    value_items : Declared Q (constant (upto (count 64)) "OVERFLOW" (2 ^ 64) ∷ reg (upto (count 64)) "result" ∷ reg
        (upto (count 64)) "kept" ∷ [])
    value_items =
        declared_append Q (constant (upto (count 64)) "OVERFLOW" (2 ^ 64) ∷ [])
        (reg (upto (count 64)) "result" ∷ reg (upto (count 64)) "kept" ∷ [])
        (declared_one (is T z n) d (constant (upto (count 64)) "OVERFLOW" (2 ^ 64)) refl
        (in_said Rs z T.start n (b T z n) (constant (upto (count 64)) "OVERFLOW" (2 ^ 64))
        (stands_at ports_said 6 (constant (upto (count 64)) "OVERFLOW" (2 ^ 64)) refl)))
        (declared_append Q (reg (upto (count 64)) "result" ∷ []) (reg (upto (count 64)) "kept" ∷ [])
        (declared_one (is T z n) d (output (upto (count 64)) "result") refl
        (in_ports Rs z T.start n (b T z n) (output (upto (count 64)) "result")
        (stands_at joined_ports 3 (output (upto (count 64)) "result") refl)))
        (declared_one (is T z n) d (reg (upto (count 64)) "kept") refl
        (in_store Rs z T.start n (b T z n) (reg (upto (count 64)) "kept")
        (stands_at (store_registers (W T z n)) 12 (reg (upto (count 64)) "kept") refl))))

    registers : (c : Bool) → ((i : Item) → Has i (unit_registers c) → Has i (is T z n)) → Declared Q (quarter_registers ++ unit_flags)
    registers c h =
        declared_append Q quarter_registers unit_flags
        (declared_of (is T z n) d quarter_registers refl
        (λ i m. h i (behind i unit_said (quarter_registers ++ (unit_flags ++ product_parts c))
        (in_front i quarter_registers (unit_flags ++ product_parts c) m))))
        (declared_of (is T z n) d unit_flags refl
        (λ i m. h i (behind i unit_said (quarter_registers ++ (unit_flags ++ product_parts c))
        (behind i quarter_registers (unit_flags ++ product_parts c) (in_front i unit_flags (product_parts c) m)))))

    operands : (c : Bool) → ((i : Item) → Has i (operand_wires_of c first second) → Has i (is T z n)) →
        Declared Q (reg (upto (count 64)) "first" ∷ reg (upto (count 64)) "second" ∷ reg one "less" ∷ [])
    operands false h = declared_of (is T z n) d (operand_wires_of false first second) refl h
    operands true h = declared_of (is T z n) d (operand_wires_of true first second) refl h

    abbrev late_part : List Item
    late_part = meet_wires ++ (right_wires ++ (met_wires ++ late_wires))

    late_items : (c : Bool) → ((i : Item) → Has i (unit_wires c) → Has i (is T z n)) → Declared Q late_part
    late_items c h = declared_of (is T z n) d late_part refl (λ i m. h i (in_front i late_part (busy_wires c) m))

    own_declared : (c : Bool) → ((i : Item) → Has i (unit_registers c) → Has i (is T z n)) →
        ((i : Item) → Has i (unit_wires c) → Has i (is T z n)) → Declared Q (own_items c)
    own_declared false g h = declared_of (is T z n) d (busy_wires false) refl (λ i m. h i (behind i late_part (busy_wires false) m))
    own_declared true g h =
        declared_append Q product_registers (busy_wires true)
        (declared_of (is T z n) d product_registers refl
        (λ i m. g i (behind i (unit_said ++ (quarter_registers ++ unit_flags)) (product_parts true)
        (further gap _ (further (note _) _ (further (note _) _ m))))))
        (declared_of (is T z n) d (busy_wires true) refl (λ i m. h i (behind i late_part (busy_wires true) m)))

    pub unit_declared : Declared Q (unit_items (b T z n))
    unit_declared =
        let c : Bool = b T z n in
        declared_append Q (constant (upto (count 64)) "OVERFLOW" (2 ^ 64) ∷ reg (upto (count 64)) "result" ∷ reg
        (upto (count 64)) "kept" ∷ [])
        (quarter_registers ++ (unit_flags ++ (reg (upto (count 64)) "first" ∷ reg (upto (count 64)) "second" ∷ reg one "less" ∷
        (late_part ++ own_items c)))) value_items
        (declared_append Q (quarter_registers ++ unit_flags)
        (reg (upto (count 64)) "first" ∷ reg (upto (count 64)) "second" ∷ reg one "less" ∷ (late_part ++ own_items c))
        (registers c (in_unit Rs z T.start n (b T z n)))
        (declared_append Q (reg (upto (count 64)) "first" ∷ reg (upto (count 64)) "second" ∷ reg one "less" ∷ []) (late_part ++ own_items c)
        (operands c (in_operands Rs z T.start n (b T z n)))
        (declared_append Q late_part (own_items c) (late_items c (in_wires Rs z T.start n (b T z n)))
        (own_declared c (in_unit Rs z T.start n (b T z n))
        (in_wires Rs z T.start n (b T z n))))))

    pub unit_rests : (S X : Store) → Settles (is T z n) S X → UnitRests Q (b T z n) X
    unit_rests S X s = record {
      declared = unit_declared;
      rests = rests_of (is T z n) d S X s (unit_wires (b T z n)) (in_wires Rs z T.start n (b T z n));
      first = first;
      second = second;
      operands = rests_of (is T z n) d S X s (operand_wires_of (b T z n) first second) (in_operands Rs z T.start n (b T z n));
    }

    -- ---- the count of moves

    abbrev low_wire : Item
    low_wire = wire (upto (count 8)) "moves_low" (two plus (cat (sized 1 0) (part "moves" (count 7) (count 0))) (name "counts"))

    abbrev middle_wire : Item
    middle_wire = wire (upto (count 24)) "moves_middle"
        (two plus (cat (sized 1 0) (part "moves" (count 31) (count 8))) (cat (sized 24 0) (bit "moves_low" (num 8))))

    abbrev high_wire : Item
    high_wire = wire (upto (count 31)) "moves_high" (two plus (part "moves" (count 63) (count 32)) (cat (sized 31 0) (name "carried")))

    in_moves : (i : Item) → Has i moves_wires → Has i (is T z n)
    in_moves i m = in_rest Rs z T.start n (b T z n) i (go i m)
      where
        go : (i : Item) → Has i moves_wires → Has i (rest_wires (W T z n))
        go i (here js) = stands_at (rest_wires (W T z n)) 16 low_wire refl
        go i (further j js (here ks)) = stands_at (rest_wires (W T z n)) 17 middle_wire refl
        go i (further j js (further k ks (here ls))) = stands_at (rest_wires (W T z n)) 18 high_wire refl
        go i (further j js (further k ks (further l ls m))) = elim m [ ]

    pub moves_rests : (S X : Store) → Settles (is T z n) S X → Rests Q moves_wires X
    moves_rests S X s = rests_of (is T z n) d S X s moves_wires in_moves

    pub moves_declared : Declared Q moves_items
    moves_declared =
        declared_append Q (output (upto (count 63)) "moves" ∷ []) (reg one "carried" ∷ moves_wires)
        (declared_one (is T z n) d (output (upto (count 63)) "moves") refl
        (in_ports Rs z T.start n (b T z n) (output (upto (count 63)) "moves")
        (stands_at joined_ports 5 (output (upto (count 63)) "moves") refl)))
        (declared_append Q (reg one "carried" ∷ []) moves_wires
        (declared_one (is T z n) d (reg one "carried") refl
        (in_store Rs z T.start n (b T z n) (reg one "carried") (stands_at (store_registers (W T z n)) 20 (reg one "carried") refl)))
        (declared_of (is T z n) d moves_wires refl in_moves))
