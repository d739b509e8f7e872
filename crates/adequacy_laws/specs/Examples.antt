-- Values, lengths and spans of the nets of some programs, which the prover computes. Each is a case in which another count of moves or of
-- rounds, another order of operands, or another order of evaluation would differ.
use Rattle.std.specs.Prelude.{ℕ}
use Rattle.pcf_values.specs.declared.val.Val.{Val}
use Rattle.pcf_values.specs.declared.val.Val.TheVariants.{Number, Overflow}
use Rattle.pcf_values.specs.declared.operator.Operator.TheVariants.{Plus, Minus, Times}
use Rattle.pcf_values.specs.Terms.{nat, arrow, product, TermTree, num, var, succ_of, pred_of, binary, ifz, lam, fix, app, pair, proj}
use Rattle.pcf_values.specs.declared.side.Side.TheVariants.{Left, Right}
use Rattle.net_build.specs.NetOf.{net_of}
use Rattle.adequacy_laws.specs.Questions.{Length, Span}

-- `fix y:nat. y`
abbrev pub loops : TermTree
loops = fix nat (var 0)

-- `fun x:nat. x + x`
abbrev pub double : TermTree
double = lam nat (binary Plus (var 0) (var 0))

-- `fun p:nat*nat. fst p - snd p`
abbrev pub difference_of_parts : TermTree
difference_of_parts = lam (product nat nat) (binary Minus (proj Left (var 0)) (proj Right (var 0)))

-- `fix f:nat->nat. fun n:nat. ifz n then 0 else n + f (pred n)`
abbrev pub sum_to : TermTree
sum_to = fix (arrow nat nat) (lam nat (ifz (var 0) (num 0) (binary Plus (var 0) (app (var 1) (pred_of (var 0))))))

-- `fun d:nat->nat. d 1 + d 2`
abbrev pub at_one_and_two : TermTree
at_one_and_two = lam (arrow nat nat) (binary Plus (app (var 0) (num 1)) (app (var 0) (num 2)))

-- `fun f:(nat->nat)->nat. f (fun x:nat. succ x)` and `fun g:nat->nat. g 5`
abbrev pub at_succ : TermTree
at_succ = lam (arrow (arrow nat nat) nat) (app (var 0) (lam nat (succ_of (var 0))))

abbrev pub at_five : TermTree
at_five = lam (arrow nat nat) (app (var 0) (num 5))

-- the program's net has this value, this length and this span
abbrev pub Comes : TermTree → Val → ℕ → ℕ → Type 0
Comes m v n s = Length (net_of m) v n × Span (net_of m) v s

abbrev pub sum_of : TermTree → TermTree → TermTree
sum_of a b = binary Plus a b

pub record ExampleLengths : Type 0 where
  -- `1 + 2`, `5 - 7`, and a product past the greatest number: the fork, both numbers, both joins, and the root
  pub sum : Comes (sum_of (num 1) (num 2)) (Number 3) 6 4
  pub difference : Comes (binary Minus (num 5) (num 7)) (Number 0) 6 4
  pub past_limit : Comes (binary Times (num 18446744073709551615) (num 2)) Overflow 6 4
  -- `1 + succ 2` and `succ 1 + 2`: the span is that of the longer operand, on either side
  pub right_longer : Comes (sum_of (num 1) (succ_of (num 2))) (Number 4) 8 6
  pub left_longer : Comes (sum_of (succ_of (num 1)) (num 2)) (Number 4) 8 6
  -- `(1 + 2) + (3 + 4)`: two rounds more, and not twice as many
  pub halves : Comes (sum_of (sum_of (num 1) (num 2)) (sum_of (num 3) (num 4))) (Number 10) 14 6
  -- a test's branch waits for its condition
  pub tested : Comes (ifz (sum_of (num 0) (num 0)) (num 5) (num 6)) (Number 5) 10 8
  -- an argument and a part of a pair that aren't asked for may loop
  pub argument_unasked : Comes (app (lam nat (num 7)) loops) (Number 7) 6 6
  pub part_unasked : Comes (proj Left (pair (num 1) loops)) (Number 1) 6 6
  -- overflow is no zero
  pub overflow_is_no_zero : Comes (ifz (succ_of (num 18446744073709551615)) (num 1) (num 2)) (Number 2) 8 8
  -- a variable that is used twice is asked for twice
  pub doubled : Comes (app double (num 3)) (Number 6) 30 18
  pub parts : Comes (app difference_of_parts (pair (num 9) (num 4))) (Number 5) 38 22
  -- recursion, a function that is called twice, and a function of functions
  pub summed : Comes (app sum_to (num 3)) (Number 6) 330 222
  pub called_twice : Comes (app at_one_and_two double) (Number 6) 126 44
  pub higher : Comes (app at_succ at_five) (Number 6) 64 64
