-- Meanings, translations and faults of some programs, which the prover computes. Each is a case in which another order of evaluation,
-- another translation, or another order of faults would differ.
use Rattle.std.specs.Prelude.{◌≡◌, [], ◌∷◌}
use Rattle.pcf_values.specs.declared.val.Val.{Val}
use Rattle.pcf_values.specs.declared.val.Val.TheVariants.{Number, Overflow}
use Rattle.pcf_values.specs.declared.operator.Operator.TheVariants.{Plus, Minus}
use Rattle.pcf_values.specs.declared.side.Side.TheVariants.{Left}
use Rattle.pcf_values.specs.Terms.{nat, arrow, product, TermTree, num, var, succ_of, pred_of, binary, ifz, lam, fix, app}
use Rattle.pcf_values.specs.Named.{the_part, the_fix, NamedTree, number_at, name_at, word_at, binary_at, pair_at, bind_at}
use Rattle.cbn_meaning.specs.Meaning.{Means}
use Rattle.cbv_terms.specs.declared.fault.ByValueFault.TheVariants.{ByValueFix, ByValuePair}
use Rattle.cbv_terms.specs.ByValue.{MeansByValue}
use Rattle.cbv_terms.specs.Translation.{translated}
use Rattle.cbv_terms.specs.Faults.{IsFirstFault}

-- `(fun x:nat. 7) ((fix f:nat->nat. fun n:nat. f n) 0)`
abbrev pub unused_loop : TermTree
unused_loop = app (lam nat (num 7)) (app (fix (arrow nat nat) (lam nat (app (var 1) (var 0)))) (num 0))

-- `(fix f:nat->nat. fun n:nat. ifz n then 0 else n + f (pred n)) 3`
abbrev pub sum_to_three : TermTree
sum_to_three = app (fix (arrow nat nat) (lam nat (ifz (var 0) (num 0) (binary Plus (var 0) (app (var 1) (pred_of (var 0))))))) (num 3)

-- `(fun x:nat. fun y:nat. x - y) 5 3`
abbrev pub difference : TermTree
difference = app (app (lam nat (lam nat (binary Minus (var 1) (var 0)))) (num 5)) (num 3)

-- `(fun x:nat. x) (succ 18446744073709551615)`
abbrev pub past_limit : TermTree
past_limit = app (lam nat (var 0)) (succ_of (num 18446744073709551615))

pub record ExampleValues : Type 0 where
  -- `4`: its translation, as it is written with indexes
  pub number_translated : translated (num 4) ≡ app (lam (arrow nat nat) (app (var 0) (num 4))) (lam nat (var 0))
  pub number : MeansByValue (num 4) (Number 4)
  -- an argument that is never asked for is evaluated by value alone
  pub unused_by_name : Means unused_loop (Number 7)
  pub unused_by_value : (v : Val) → MeansByValue unused_loop v → ⊥
  -- where all that is evaluated comes to an end, both meanings are one, and the translation means it too
  pub summed_by_name : Means sum_to_three (Number 6)
  pub summed_by_value : MeansByValue sum_to_three (Number 6)
  pub summed_translated : Means (translated sum_to_three) (Number 6)
  -- no variable is taken for another
  pub difference_by_value : MeansByValue difference (Number 2)
  pub difference_translated : Means (translated difference) (Number 2)
  -- a result that overflowed is handed on
  pub past_by_value : MeansByValue past_limit Overflow
  pub past_translated : Means (translated past_limit) Overflow

-- `fix y:nat. y`
abbrev pub fix_of_number : NamedTree
fix_of_number = bind_at 0 the_fix (121 ∷ []) nat (name_at 11 (121 ∷ []))

-- `fst (1, 2)`
abbrev pub part_of_pair : NamedTree
part_of_pair = word_at 0 (the_part Left) (pair_at 4 (number_at 5 1) (number_at 8 2))

-- `(fix y:nat*nat. y)`, at whose `fix` stand both faults
abbrev pub fix_of_pair : NamedTree
fix_of_pair = bind_at 1 the_fix (121 ∷ []) (product nat nat) (name_at 16 (121 ∷ []))

-- `fst (1, 2) + (fix y:nat. y)`
abbrev pub pair_before_fix : NamedTree
pair_before_fix = binary_at 0 Plus part_of_pair (bind_at 14 the_fix (121 ∷ []) nat (name_at 25 (121 ∷ [])))

pub record ExampleFaults : Type 0 where
  pub fix_refused : IsFirstFault fix_of_number (ByValueFix 0)
  pub pair_refused : IsFirstFault part_of_pair (ByValuePair 0)
  -- at one place the `fix` comes first
  pub at_one_place : IsFirstFault fix_of_pair (ByValueFix 1)
  -- and else the least place
  pub at_least_place : IsFirstFault pair_before_fix (ByValuePair 0)
