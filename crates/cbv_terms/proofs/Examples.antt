-- The examples, by computing.
use Rattle.std.proofs.Common.{◌≡◌, ℕ, zero, suc, None, refl, arith}
use Rattle.pcf_values.specs.declared.val.Val.{Val}
use Rattle.pcf_values.specs.Terms.{nat, arrow, TermTree, num, var, lam, fix, app}
use Rattle.cbv_terms.specs.ByValue.{eval_by_value, MeansByValue}
use Rattle.cbv_terms.specs.Examples.{unused_loop, fix_of_number, part_of_pair, fix_of_pair, pair_before_fix, ExampleValues, ExampleFaults}
use Rattle.cbv_terms.proofs.Scanning.{told_found}

abbrev loops : TermTree
loops = app (fix (arrow nat nat) (lam nat (app (var 1) (var 0)))) (num 0)

never : (d : ℕ) → eval_by_value d loops ≡ None
never zero = refl
never (suc zero) = refl
never (suc (suc d)) = never (suc d)

unused : (v : Val) → MeansByValue unused_loop v → ⊥
unused v (zero, h) = cc
unused v (suc zero, h) = cc
unused v (suc (suc d), h) = let e = never (suc d) in let z = rw e at h in cc

-- what each example comes to by name and by value, computed at a depth that is enough
pub example_values : ExampleValues
example_values = record {
  number_translated = refl;
  number = (1, refl);
  unused_by_name = (2, refl);
  unused_by_value = unused;
  summed_by_name = (24, refl);
  summed_by_value = (40, refl);
  summed_translated = (100, refl);
  difference_by_value = (10, refl);
  difference_translated = (40, refl);
  past_by_value = (10, refl);
  past_translated = (30, refl);
}

pub example_faults : ExampleFaults
example_faults = record {
  fix_refused = told_found fix_of_number (omega arith);
  pair_refused = told_found part_of_pair (omega arith);
  at_one_place = told_found fix_of_pair (omega arith);
  at_least_place = told_found pair_before_fix (omega arith);
}
