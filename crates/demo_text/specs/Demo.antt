-- The generated program of a number, as a term.
-- The program gives a function that doubles its argument the name `d`, and adds up as many `d 1` as a sum of the number's depth has
-- leaves. Thus a short definition makes valid programs of any size.
use Rattle.std.specs.Prelude.{ℕ, zero, suc}
use Rattle.pcf_values.specs.declared.operator.Operator.{Operator}
use Rattle.pcf_values.specs.declared.operator.Operator.TheVariants.{Plus}
use Rattle.pcf_values.specs.Terms.{TermTree, nat, arrow, num, var, binary, lam, app}

-- the operator of its sums
abbrev pub demo_operator : Operator
demo_operator = Plus

-- the sum of this depth, where `d` is the nearest variable
abbrev pub sum_term : ℕ → TermTree
sum_term zero = app (var 0) (num 1)
sum_term (suc depth) = binary demo_operator (sum_term depth) (sum_term depth)

-- the program
abbrev pub demo_term : ℕ → TermTree
demo_term n = app (lam (arrow nat nat) (sum_term n)) (lam nat (binary demo_operator (var 0) (var 0)))
