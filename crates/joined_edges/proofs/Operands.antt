-- The operands of the row in the registers.
use Rattle.std.proofs.Common.{◌≡◌, ◌<◌, ℕ, suc, ◌+◌, ◌-◌, ◌*◌, ◌^◌, Bool, true, false, cond, List, [], ◌∷◌, length, Option, Some, None}
use Rattle.std.proofs.Common.{refl, sym, ap, subst, ◌∙◌, arith, nat_lt}
use Rattle.std.proofs.lemmas.Bool.{eqb-true, eq-eqb, ltb-true}
use Rattle.std.proofs.lemmas.Nat.{pow_pos}
use Prim.Native.String.{String}
use Rattle.verilog_tree.specs.Tree.{Expr, sized, name, cat}
use Rattle.verilog_tree.specs.Meaning.{Scope, Store, fit, value}
use Rattle.verilog_tree.proofs.Numbers.{fits}
use Rattle.circuit_module.specs.Stands.{value_number}
use Rattle.joined_module.specs.Rows.{Operand, the_value, the_kept, a_literal, a_port, ModuleRow}
use Rattle.joined_module.specs.Names.{by_name, number_name, held_name}
use Rattle.joined_module.specs.Fields.{kind_of_operand, same_operand, operand_place, with_operand, Input, operands_at, operand_number}
use Rattle.joined_module.specs.Fields.{operand_field}
use Rattle.joined_module.specs.Fields.{number_or, first_number, literal_field, operand_expr, operands_exprs, input_expr}
use Rattle.joined_module.specs.Machine.{RowCircuit, operand_value}
use Rattle.joined_found.specs.Found.{Each}
use Rattle.joined_found.proofs.Eaches.{each_map}
use Rattle.joined_edges.proofs.Slots.{expr_at, picked_is}

-- ---- an operand among others

-- operands that the module takes for the same are the same
operand_is : (y x : Operand) → same_operand y x ≡ true → y ≡ x
operand_is the_value the_value h = refl
operand_is the_kept the_kept h = refl
operand_is (a_literal m) (a_literal n) h = ap a_literal (eqb-true m n h)
operand_is (a_port m) (a_port n) h = ap a_port (eqb-true m n h)
operand_is the_value the_kept h = absurd cc
operand_is the_value (a_literal n) h = absurd cc
operand_is the_value (a_port n) h = absurd cc
operand_is the_kept the_value h = absurd cc
operand_is the_kept (a_literal n) h = absurd cc
operand_is the_kept (a_port n) h = absurd cc
operand_is (a_literal m) the_value h = absurd cc
operand_is (a_literal m) the_kept h = absurd cc
operand_is (a_literal m) (a_port n) h = absurd cc
operand_is (a_port m) the_value h = absurd cc
operand_is (a_port m) the_kept h = absurd cc
operand_is (a_port m) (a_literal n) h = absurd cc

operand_self : (x : Operand) → same_operand x x ≡ true
operand_self the_value = refl
operand_self the_kept = refl
operand_self (a_literal n) = eq-eqb n n refl
operand_self (a_port n) = eq-eqb n n refl

abbrev pub StandsBy : List Operand → Operand → Type 0
StandsBy xs x = operand_place xs x < length xs

operand_at : (b : ℕ) (e : Expr) (xs : List Operand) (x : Operand) → StandsBy xs x →
    expr_at (operands_exprs b e xs) (operand_place xs x) ≡ operand_expr b e x
operand_at b e [] x h = absurd (omega arith)
operand_at b e (y ∷ xs) x h = go (operand_at b e xs x) (same_operand y x) refl h
  where
    go : (StandsBy xs x → expr_at (operands_exprs b e xs) (operand_place xs x) ≡ operand_expr b e x) → (c : Bool) → same_operand y x ≡ c →
        cond c 0 (suc (operand_place xs x)) < suc (length xs) →
        expr_at (operand_expr b e y ∷ operands_exprs b e xs) (cond c 0 (suc (operand_place xs x))) ≡ operand_expr b e x
    go ih true q l = ap (operand_expr b e) (operand_is y x q)
    go ih false q l = ih (omega arith)

operands_long : (b : ℕ) (e : Expr) (xs : List Operand) → length (operands_exprs b e xs) ≡ length xs
operands_long b e [] = refl
operands_long b e (x ∷ xs) = ap suc (operands_long b e xs)

more_operands : (o : Option Operand) (xs : List Operand) (x : Operand) → StandsBy xs x → StandsBy (with_operand o xs) x
more_operands None xs x h = h
more_operands (Some y) xs x h = go (nat_lt (operand_place xs (kind_of_operand y)) (length xs))
  where
    put : (c : Bool) → cond c 0 (suc (operand_place xs x)) < suc (length xs)
    put true = omega arith
    put false = omega arith

    go : (c : Bool) → StandsBy (cond c xs (kind_of_operand y ∷ xs)) x
    go true = h
    go false = put (same_operand (kind_of_operand y) x)

own_operand : (y : Operand) (xs : List Operand) → StandsBy (with_operand (Some y) xs) (kind_of_operand y)
own_operand y xs = go (nat_lt (operand_place xs (kind_of_operand y)) (length xs)) refl
  where
    go : (c : Bool) → nat_lt (operand_place xs (kind_of_operand y)) (length xs) ≡ c →
        StandsBy (cond c xs (kind_of_operand y ∷ xs)) (kind_of_operand y)
    go true q = ltb-true (operand_place xs (kind_of_operand y)) (length xs) q
    go false q =
        let e : operand_place (kind_of_operand y ∷ xs) (kind_of_operand y) ≡ 0 =
        ap (λ c. cond c 0 (suc (operand_place xs (kind_of_operand y)))) (operand_self (kind_of_operand y)) in
        omega arith

abbrev pub IsOperand : Input → List ModuleRow → ModuleRow → Type 0
IsOperand s rows r = (x : Operand) → s.source r ≡ Some x → StandsBy (operands_at s rows) (kind_of_operand x)

pub operands_have : (s : Input) (rows : List ModuleRow) → Each (IsOperand s rows) rows
operands_have s [] = tt
operands_have s (r ∷ rs) = (
  λ x e. subst (λ o. StandsBy (with_operand o (operands_at s rs)) (kind_of_operand x)) (sym e) (own_operand x (operands_at s rs)),
  each_map (IsOperand s rs) (IsOperand s (r ∷ rs)) (λ q h x e. more_operands (s.source r) (operands_at s rs) (kind_of_operand x) (h x e)) rs
      (operands_have s rs),
)

-- ---- what it comes to

-- what an operand is read from
pub record OperandRight (n : ℕ) (ps : ℕ → ℕ) (r : ModuleRow) (D : RowCircuit) (R : Store) (x : Operand) : Type 0 where
  pub value : x ≡ the_value → R.vec "result" ≡ value_number D.value
  pub kept : x ≡ the_kept → R.vec "kept" ≡ value_number (operand_value ps D the_kept)
  pub port : (i : ℕ) → x ≡ a_port i → R.vec (held_name i) ≡ ps i

module _ (P : Scope) (R : Store) (rows : List ModuleRow) (s : Input) (r : ModuleRow) (n : ℕ) (ps : ℕ → ℕ) (D : RowCircuit) where
  nothing_above : (b m w : ℕ) (x : String) → R.vec x ≡ m → value P R w (cat (sized b 0) (name x)) ≡ m
  nothing_above b m w x e =
      let z : fit b 0 ≡ 0 = fits b 0 (pow_pos b) in
      ap (λ v. v * 2 ^ P.width x + R.vec x) z ∙ (let h = e in omega arith)

  -- the expression of an operand whose number, if it has one, is in the register
  number_is : (x : Operand) → OperandRight n ps r D R x → ((m : ℕ) → x ≡ a_literal m → R.vec (number_name s.title) ≡ m) → (b w : ℕ) →
      value P R w (operand_expr b (name (number_name s.title)) (kind_of_operand x)) ≡ value_number (operand_value ps D x)
  number_is the_value h l b w = h.value refl
  number_is the_kept h l b w = h.kept refl
  number_is (a_literal m) h l b w = nothing_above (65 - b) m w (number_name s.title) (l m refl)
  number_is (a_port i) h l b w = nothing_above 1 (ps i) w (held_name i) (h.port i refl)

  pub input_is : (x : Operand) → s.source r ≡ Some x → IsOperand s rows r →
      R.vec (by_name s.title) ≡ (operand_field rows s).at r → (operand_field rows s).at r < 2 ^ (operand_field rows s).bits →
      R.vec (number_name s.title) ≡ (literal_field rows s).at r → OperandRight n ps r D R x → (w : ℕ) →
      value P R w (input_expr rows s) ≡ value_number (operand_value ps D x)
  input_is x e k h l g right w =
      let xs : List Operand = operands_at s rows in
      let place : (operand_field rows s).at r ≡ operand_place xs (kind_of_operand x) = ap (operand_number xs) e in
      let b : ℕ = (literal_field rows s).bits in
      let es : List Expr = operands_exprs b (name (number_name s.title)) xs in
      let m : length es ≡ length xs = operands_long b (name (number_name s.title)) xs in
      let st = k x e in
      let here : R.vec (by_name s.title) ≡ operand_place xs (kind_of_operand x) = h ∙ place in
      picked_is P R (by_name s.title) (operand_field rows s).bits w 0 (operand_place xs (kind_of_operand x)) es (omega arith) (omega arith)
      (omega arith)
      ∙ ap (λ (y : Expr). value P R w y) (operand_at b (name (number_name s.title)) xs (kind_of_operand x) st)
      ∙ number_is x right (λ m q. g ∙ literal m q) b w
    where
      literal : (m : ℕ) → x ≡ a_literal m → (literal_field rows s).at r ≡ m
      literal m q = ap (number_or (first_number s rows)) (e ∙ ap Some q)
