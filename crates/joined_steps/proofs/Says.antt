-- What the row in the registers says of itself, and whether it rests, is made, and begins a number.
use Rattle.std.proofs.Common.{◌≡◌, ℕ, zero, suc, Bool, true, false, not, ◌&&◌, ◌||◌, List, Option, Some, None, refl, ap}
use Rattle.std.proofs.Common.{sym, ◌∙◌, arith}
use Rattle.std.proofs.Common.{nat_lt}
use Rattle.std.proofs.lemmas.Bool.{lt-ltb}
use Rattle.pcf_values.specs.declared.val.Val.{Val}
use Rattle.verilog_tree.specs.Meaning.{Scope, Store, flag, fit, nonzero, settled}
use Rattle.verilog_tree.specs.Tree.{one}
use Rattle.verilog_tree.specs.WellFormed.{WellFormed}
use Rattle.verilog_tree.proofs.Lists.{stands_at}
use Rattle.circuit_module.proofs.Values.{fit_flag}
use Rattle.late_unit.specs.Works.{UnitRests, Works}
use Rattle.late_unit.proofs.Steps.{late_free, late_busy, late_tells}
use Rattle.joined_core.specs.Circuit.{Room}
use Rattle.joined_module.specs.Rows.{ModuleRow}
use Rattle.joined_module.specs.Fields.{needs_value, tests_value, sees_later, takes_operand, makes_number, subtracts_in, multiplies_in}
use Rattle.joined_module.specs.Fields.{opens_fork, is_kept, kept_operand, closes_fork, answers_in, row_fields}
use Rattle.joined_module.specs.Module.{found_rows, ModuleTable, rest_wires, joined_module}
use Rattle.joined_found.specs.Found.{Each, next_field}
use Rattle.joined_edges.proofs.Items.{in_rest}
use Rattle.joined_edges.proofs.Flags.{by_flag}
use Rattle.joined_steps.proofs.Module.{is, P, W, b, settles}

-- ---- flags

pub or_none : (b : Bool) → (b || false) ≡ b
or_none true = refl
or_none false = refl

-- what a row says, where there is one
abbrev pub by_row : (ModuleRow → Bool) → Option ModuleRow → Bool
by_row f None = false
by_row f (Some r) = f r

abbrev pub no_row : Option ModuleRow → Bool
no_row None = true
no_row (Some r) = false

pub record Says (R : Store) (o : Option ModuleRow) : Type 0 where
  pub none : R.vec "none" ≡ flag (no_row o)
  pub waits : R.vec "waits" ≡ flag (by_row (λ r. r.waits) o)
  pub later : R.vec "later" ≡ flag (by_row sees_later o)
  pub tests : R.vec "tests" ≡ flag (by_row tests_value o)
  pub needs : R.vec "needs" ≡ flag (by_row needs_value o)
  pub ends : R.vec "ends" ≡ flag (by_row (λ r. r.ends) o)
  pub makes : R.vec "makes" ≡ flag (by_row (λ r. r.makes) o)
  pub opens : R.vec "opens" ≡ flag (by_row (λ r. opens_fork r.fork) o)
  pub keeps : R.vec "keeps" ≡ flag (by_row (λ r. is_kept (kept_operand r.fork)) o)
  pub closes : R.vec "closes" ≡ flag (by_row (λ r. closes_fork r.fork) o)
  pub touches : R.vec "touches" ≡ flag (by_row (λ r. answers_in r.fork) o)
  pub takes : R.vec "takes" ≡ flag (by_row (λ r. takes_operand r.worth) o)
  pub computes : R.vec "computes" ≡ flag (by_row (λ r. makes_number r.worth) o)
  pub subtracts : R.vec "subtracts" ≡ flag (by_row (λ r. subtracts_in r.worth) o)
  pub multiplies : R.vec "multiplies" ≡ flag (by_row (λ r. multiplies_in r.worth) o)

-- the registers of a row's fields, or of none, say so
pub says_of : (rows : List ModuleRow) (R : Store) (o : Option ModuleRow) → Each (λ f. R.vec f.title ≡ next_field f o) (row_fields rows) →
    Says R o
says_of rows R None h = record {
  none = h.0;
  waits = h.1.1.1.0;
  later = h.1.1.1.1.0;
  tests = h.1.1.1.1.1.0;
  needs = h.1.1.1.1.1.1.0;
  ends = h.1.1.1.1.1.1.1.0;
  makes = h.1.1.1.1.1.1.1.1.0;
  opens = h.1.1.1.1.1.1.1.1.1.0;
  keeps = h.1.1.1.1.1.1.1.1.1.1.1.0;
  closes = h.1.1.1.1.1.1.1.1.1.1.1.1.0;
  touches = h.1.1.1.1.1.1.1.1.1.1.1.1.1.0;
  takes = h.1.1.1.1.1.1.1.1.1.1.1.1.1.1.0;
  computes = h.1.1.1.1.1.1.1.1.1.1.1.1.1.1.1.0;
  subtracts = h.1.1.1.1.1.1.1.1.1.1.1.1.1.1.1.1.0;
  multiplies = h.1.1.1.1.1.1.1.1.1.1.1.1.1.1.1.1.1.0;
}
says_of rows R (Some r) h = record {
  none = h.0;
  waits = h.1.1.1.0;
  later = h.1.1.1.1.0;
  tests = h.1.1.1.1.1.0;
  needs = h.1.1.1.1.1.1.0;
  ends = h.1.1.1.1.1.1.1.0;
  makes = h.1.1.1.1.1.1.1.1.0;
  opens = h.1.1.1.1.1.1.1.1.1.0;
  keeps = h.1.1.1.1.1.1.1.1.1.1.1.0;
  closes = h.1.1.1.1.1.1.1.1.1.1.1.1.0;
  touches = h.1.1.1.1.1.1.1.1.1.1.1.1.1.0;
  takes = h.1.1.1.1.1.1.1.1.1.1.1.1.1.1.0;
  computes = h.1.1.1.1.1.1.1.1.1.1.1.1.1.1.1.0;
  subtracts = h.1.1.1.1.1.1.1.1.1.1.1.1.1.1.1.1.0;
  multiplies = h.1.1.1.1.1.1.1.1.1.1.1.1.1.1.1.1.1.0;
}

-- ---- resting, and acting

-- the wire as its parts are
abbrev rest_number : (e f bz nd ch ts fr to : Bool) → ℕ
rest_number e f bz nd ch ts fr to =
    fit 1 (flag (e || nonzero (flag (f || nonzero (flag (nonzero (flag (bz && nd)) ||
    nonzero (flag (nonzero (flag (nonzero (flag (bz || ch)) && ts)) || nonzero (flag (fr && to))))))))))

abbrev pub rest_bit : (e f bz nd ch ts fr to : Bool) → Bool
rest_bit e f bz nd ch ts fr to = e || (f || ((bz && nd) || (((bz || ch) && ts) || (fr && to))))

-- the wire is up just where one of its parts is
rest_is : (e f bz nd ch ts fr to : Bool) → rest_number e f bz nd ch ts fr to ≡ flag (rest_bit e f bz nd ch ts fr to)
rest_is e f bz nd ch ts fr to =
    fit_flag _ ∙ (λ i. flag (e || go i))
  where
    last : nonzero (flag (nonzero (flag (nonzero (flag (bz || ch)) && ts)) || nonzero (flag (fr && to)))) ≡ (((bz || ch) && ts) || (fr &&
        to))
    last =
        let a = by_flag (flag (bz || ch)) (bz || ch) refl in
        let b = by_flag (flag (nonzero (flag (bz || ch)) && ts)) ((bz || ch) && ts) (λ i. flag (a i && ts)) in
        let c = by_flag (flag (fr && to)) (fr && to) refl in
        by_flag (flag (nonzero (flag (nonzero (flag (bz || ch)) && ts)) || nonzero (flag (fr && to)))) (((bz || ch) && ts) || (fr && to))
        (λ i. flag (b i || c i))

    middle : nonzero (flag (nonzero (flag (bz && nd)) ||
        nonzero (flag (nonzero (flag (nonzero (flag (bz || ch)) && ts)) || nonzero (flag (fr && to)))))) ≡
        ((bz && nd) || (((bz || ch) && ts) || (fr && to)))
    middle =
        let a = by_flag (flag (bz && nd)) (bz && nd) refl in
        by_flag (flag (nonzero (flag (bz && nd)) ||
        nonzero (flag (nonzero (flag (nonzero (flag (bz || ch)) && ts)) || nonzero (flag (fr && to))))))
        ((bz && nd) || (((bz || ch) && ts) || (fr && to)))
        (λ i. flag (a i || last i))

    go : nonzero (flag (f || nonzero (flag (nonzero (flag (bz && nd)) ||
        nonzero (flag (nonzero (flag (nonzero (flag (bz || ch)) && ts)) || nonzero (flag (fr && to)))))))) ≡
        (f || ((bz && nd) || (((bz || ch) && ts) || (fr && to))))
    go =
        by_flag (flag (f || nonzero (flag (nonzero (flag (bz && nd)) ||
        nonzero (flag (nonzero (flag (nonzero (flag (bz || ch)) && ts)) || nonzero (flag (fr && to))))))))
        (f || ((bz && nd) || (((bz || ch) && ts) || (fr && to))))
        (λ i. flag (f || middle i))

module _ (T : ModuleTable) (z : Room) (n : ℕ) (right : WellFormed (joined_module T z n) ≡ true) (S : Store) where
  abbrev pub R : Store
  R = settled (P T z n) (is T z n) S

  pub rests_wire : R.vec "rests" ≡ flag (rest_bit (nonzero (R.vec "ended")) (nonzero (R.vec "full")) (nonzero (R.vec "busy"))
      (nonzero (R.vec "needs")) (nonzero (R.vec "changed")) (nonzero (R.vec "tests")) (nonzero (R.vec "fresh")) (nonzero (R.vec "touches")))
  rests_wire =
      (settles T z n right S).wires one "rests" _
      (in_rest (found_rows T.rows) z T.start n (b T z n) _ (stands_at (rest_wires (W T z n)) 2 _ refl))
      ∙ rest_is (nonzero (R.vec "ended")) (nonzero (R.vec "full")) (nonzero (R.vec "busy"))
      (nonzero (R.vec "needs")) (nonzero (R.vec "changed")) (nonzero (R.vec "tests")) (nonzero (R.vec "fresh")) (nonzero (R.vec "touches"))

  not_zero : (m : ℕ) → flag (Rattle.std.specs.Prelude.nat_eq m 0) ≡ flag (not (nonzero m))
  not_zero m = go (Rattle.std.specs.Prelude.nat_eq m 0)
    where
      go : (c : Bool) → flag c ≡ flag (not (not c))
      go true = refl
      go false = refl

  pub acts_wire : R.vec "acts" ≡ flag (not (nonzero (R.vec "rests")) && not (nonzero (R.vec "waits")))
  acts_wire =
      (settles T z n right S).wires one "acts" _
      (in_rest (found_rows T.rows) z T.start n (b T z n) _ (stands_at (rest_wires (W T z n)) 3 _ refl))
      ∙ fit_flag _
      ∙ (let a = by_flag _ (not (nonzero (R.vec "rests"))) (not_zero (R.vec "rests")) in
      let b = by_flag _ (not (nonzero (R.vec "waits"))) (not_zero (R.vec "waits")) in λ i. flag (a i && b i))

  pub starts_wire : R.vec "starts" ≡ flag (nonzero (R.vec "acts") && nonzero (R.vec "computes"))
  starts_wire =
      (settles T z n right S).wires one "starts" _
      (in_rest (found_rows T.rows) z T.start n (b T z n) _ (stands_at (rest_wires (W T z n)) 4 _ refl))
      ∙ fit_flag (nonzero (R.vec "acts") && nonzero (R.vec "computes"))

-- a number isn't there yet
pub busy_is : (P : Scope) (b : Bool) (n : ℕ) (v : Val) (R : Store) → UnitRests P b R → Works b n v R → R.vec "busy" ≡ flag (nat_lt 0 n)
busy_is P b zero v R u w = (late_free P b v R u w).0
busy_is P b (suc zero) v R u w = (late_tells P b v R u w).0
busy_is P b (suc (suc n)) v R u w =
    (late_busy P b n v R u w).0 ∙ ap flag (sym (lt-ltb 0 (suc (suc n)) (omega arith)))
