-- The phrase that the text of the generated program is written by, with the places of its tokens.
use Rattle.std.specs.Prelude.{ℕ, zero, suc, ◌+◌, List, codes}
use Rattle.std.proofs.Common.{refl}
use Rattle.pcf_values.specs.Named.{the_fun}
use Rattle.pcf_reader.specs.Grammar.{only_ptype, arrow_type, PType, only_tatom, nat_type, Expr, binding, only_sum, Sum, only_product}
use Rattle.pcf_reader.specs.Grammar.{summed, only_app, only_atom, applied, Atom, numeral, variable, parens, Program, Written, atom_part}
use Rattle.pcf_reader.specs.Grammar.{atom_text}
use Rattle.pcf_reader.specs.Grammar.{expr_text}
use Rattle.demo_text.specs.Demo.{demo_operator}

-- the length of the text of a sum
abbrev pub sum_width : ℕ → ℕ
sum_width zero = 3
sum_width (suc depth) = sum_width depth + sum_width depth + 7

-- an atom as a sum, and the type of numbers
abbrev atom_phrase : Atom → Sum
atom_phrase a = only_product (only_app (only_atom a))

-- the type of numbers
abbrev nat_phrase : ℕ → PType
nat_phrase at = only_tatom (nat_type at)

-- the place where the second part of a sum begins, whose text begins at a place
abbrev pub right_of : ℕ → ℕ → ℕ
right_of depth at = ((((at + 1) + sum_width depth) + 1) + 3) + 1

-- the phrase of a sum whose text begins at a place
abbrev pub sum_phrase : ℕ → ℕ → Expr
sum_phrase zero at = only_sum (only_product (only_app (applied (only_atom (variable at (codes "d"))) (numeral (at + 2) 1))))
sum_phrase (suc depth) at =
    let close = (at + 1) + sum_width depth in
    let right = right_of depth at in
    only_sum (summed (atom_phrase (parens at (sum_phrase depth (at + 1)) close)) ((close + 1) + 1) demo_operator refl
    (only_app (only_atom (parens ((close + 1) + 3) (sum_phrase depth right) (right + sum_width depth)))))

-- the place behind the sum of the program
abbrev pub sum_end : ℕ → ℕ
sum_end n = 17 + sum_width n

-- `fun d:nat->nat.` and the sum
abbrev pub user_phrase : ℕ → Expr
user_phrase n = binding 1 the_fun 5 (codes "d") 6 (arrow_type (nat_phrase 7) 10 (only_ptype (nat_phrase 12))) 15 (sum_phrase n 17)

-- the places of the two operands in `fun x:nat. x + x`, where it begins at a place
abbrev pub left_at : ℕ → ℕ
left_at at = (((((at + 4) + 1) + 1) + 3) + 1) + 1

-- the place of its right operand
abbrev pub right_at : ℕ → ℕ
right_at at = (left_at at + 1) + 3

-- `fun x:nat. x + x`
abbrev pub doubler_phrase : ℕ → Expr
doubler_phrase at =
    binding at the_fun (at + 4) (codes "x") ((at + 4) + 1) (only_ptype (nat_phrase (((at + 4) + 1) + 1))) ((((at + 4) + 1) + 1) + 3)
    (only_sum (summed (atom_phrase (variable (left_at at) (codes "x"))) ((left_at at + 1) + 1) demo_operator refl
    (only_app (only_atom (variable (right_at at) (codes "x"))))))

-- where the doubling function's parenthesis opens, and where it closes
abbrev pub open_at : ℕ → ℕ
open_at n = (sum_end n + 1) + 1

-- where it closes
abbrev pub close_at : ℕ → ℕ
close_at n = right_at (open_at n + 1) + 1

-- the two functions in their parentheses
abbrev pub user_atom : ℕ → Atom
user_atom n = parens 0 (user_phrase n) (sum_end n)

-- the doubling function in its parentheses
abbrev pub doubler_atom : ℕ → Atom
doubler_atom n = parens (open_at n) (doubler_phrase (open_at n + 1)) (close_at n)

-- the whole program
abbrev pub demo_phrase : ℕ → Expr
demo_phrase n = only_sum (only_product (only_app (applied (only_atom (user_atom n)) (doubler_atom n))))

-- where the text ends
abbrev pub demo_end : ℕ → ℕ
demo_end n = (close_at n + 1) + 1

-- the program with its end
abbrev pub demo_program : ℕ → Program
demo_program n = record { expr = demo_phrase n; end = demo_end n }

-- the tokens of the sum, and those behind it up to the end
abbrev pub sum_tokens : ℕ → List Written
sum_tokens n = expr_text 2 (sum_phrase n 17)

-- the tokens behind the sum, up to the end
abbrev pub tail_tokens : ℕ → List Written
tail_tokens n = atom_text 0 (atom_part (user_atom n)).height 1 (doubler_atom n)
