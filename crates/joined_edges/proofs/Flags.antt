-- The fields of the row in the registers that are the same for all tables, by their names.
use Rattle.std.proofs.Common.{◌≡◌, ℕ, Bool, true, false, List, ap}
use Rattle.verilog_tree.specs.Meaning.{Store, flag, nonzero}
use Rattle.joined_module.specs.Rows.{ModuleRow}
use Rattle.joined_module.specs.Fields.{needs_value, tests_value, sees_later, takes_operand, makes_number, subtracts_in, multiplies_in}
use Rattle.joined_module.specs.Fields.{opens_fork, opens_above, is_kept, kept_operand, closes_fork, answers_in, row_fields}
use Rattle.joined_found.specs.Found.{Each}

-- a register that holds a flag tells it
pub by_flag : (n : ℕ) (b : Bool) → n ≡ flag b → nonzero n ≡ b
by_flag n true e = ap nonzero e
by_flag n false e = ap nonzero e

pub record Flags (R : Store) (r : ModuleRow) : Type 0 where
  pub none_is : R.vec "none" ≡ 0
  pub to_is : R.vec "to" ≡ r.to
  pub counts_is : R.vec "counts" ≡ r.moves
  pub waits_is : R.vec "waits" ≡ flag r.waits
  pub later_is : R.vec "later" ≡ flag (sees_later r)
  pub tests_is : R.vec "tests" ≡ flag (tests_value r)
  pub needs_is : R.vec "needs" ≡ flag (needs_value r)
  pub ends_is : R.vec "ends" ≡ flag r.ends
  pub makes_is : R.vec "makes" ≡ flag r.makes
  pub opens_is : R.vec "opens" ≡ flag (opens_fork r.fork)
  pub above_is : R.vec "above" ≡ flag (opens_above r.fork)
  pub keeps_is : R.vec "keeps" ≡ flag (is_kept (kept_operand r.fork))
  pub closes_is : R.vec "closes" ≡ flag (closes_fork r.fork)
  pub touches_is : R.vec "touches" ≡ flag (answers_in r.fork)
  pub takes_is : R.vec "takes" ≡ flag (takes_operand r.worth)
  pub computes_is : R.vec "computes" ≡ flag (makes_number r.worth)
  pub subtracts_is : R.vec "subtracts" ≡ flag (subtracts_in r.worth)
  pub multiplies_is : R.vec "multiplies" ≡ flag (multiplies_in r.worth)

-- the registers of the row's fields, in the order of the fields, tell all flags
pub flags_of : (rows : List ModuleRow) (R : Store) (r : ModuleRow) → Each (λ f. R.vec f.title ≡ f.at r) (row_fields rows) → Flags R r
flags_of rows R r h = record {
  none_is = h.0;
  to_is = h.1.0;
  counts_is = h.1.1.0;
  waits_is = h.1.1.1.0;
  later_is = h.1.1.1.1.0;
  tests_is = h.1.1.1.1.1.0;
  needs_is = h.1.1.1.1.1.1.0;
  ends_is = h.1.1.1.1.1.1.1.0;
  makes_is = h.1.1.1.1.1.1.1.1.0;
  opens_is = h.1.1.1.1.1.1.1.1.1.0;
  above_is = h.1.1.1.1.1.1.1.1.1.1.0;
  keeps_is = h.1.1.1.1.1.1.1.1.1.1.1.0;
  closes_is = h.1.1.1.1.1.1.1.1.1.1.1.1.0;
  touches_is = h.1.1.1.1.1.1.1.1.1.1.1.1.1.0;
  takes_is = h.1.1.1.1.1.1.1.1.1.1.1.1.1.1.0;
  computes_is = h.1.1.1.1.1.1.1.1.1.1.1.1.1.1.1.0;
  subtracts_is = h.1.1.1.1.1.1.1.1.1.1.1.1.1.1.1.1.0;
  multiplies_is = h.1.1.1.1.1.1.1.1.1.1.1.1.1.1.1.1.1.0;
}
