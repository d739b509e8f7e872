-- Texts with their trees, which the prover computes. Each is a case in which another spelling or another grouping would differ.
-- The other laws of texts and trees hold as well with two keywords or two signs exchanged, in definition, printer and code together. These
-- don't: they say of each keyword, each sign and each rule of grouping which bytes stand for it.
use Rattle.std.specs.Prelude.{ℕ, ◌+◌, codes}
use Rattle.pcf_values.specs.declared.operator.Operator.{Operator}
use Rattle.pcf_values.specs.declared.operator.Operator.TheVariants.{Plus, Minus, Times}
use Rattle.pcf_values.specs.declared.side.Side.TheVariants.{Left, Right}
use Rattle.pcf_values.specs.Terms.{TyTree, nat, arrow, product}
use Rattle.pcf_values.specs.Named.{Binder, the_succ, the_pred, the_part, the_fun, the_fix, NamedTree, number_at, name_at, word_at}
use Rattle.pcf_values.specs.Named.{binary_at, pair_at, ifz_at, bind_at, apply_at}
use Rattle.pcf_reader.specs.Correct.{Text}

-- the pair `(1, 2)` at a place
abbrev pub one_and_two : ℕ → NamedTree
one_and_two at = pair_at at (number_at (1 + at) 1) (number_at (4 + at) 2)

-- the function or fixed point of `x` of this type, with `x` at a place as its body
abbrev pub bound : Binder → TyTree → ℕ → NamedTree
bound b t at = bind_at 0 b (codes "x") t (name_at at (codes "x"))

-- two operations in a row, the first two numbers grouped: 1, 2 and 3 stand at the places 0, 4 and 8
abbrev pub left_first : Operator → Operator → NamedTree
left_first o p = binary_at 0 p (binary_at 0 o (number_at 0 1) (number_at 4 2)) (number_at 8 3)

-- the same, the last two grouped
abbrev pub right_first : Operator → Operator → NamedTree
right_first o p = binary_at 0 o (number_at 0 1) (binary_at 4 p (number_at 4 2) (number_at 8 3))

-- the keywords; and a word is read to its end
pub record ExampleWords : Type 0 where
  pub successor : Text (codes "succ 1") (word_at 0 the_succ (number_at 5 1))
  pub predecessor : Text (codes "pred 1") (word_at 0 the_pred (number_at 5 1))
  pub left_part : Text (codes "fst (1, 2)") (word_at 0 (the_part Left) (one_and_two 4))
  pub right_part : Text (codes "snd (1, 2)") (word_at 0 (the_part Right) (one_and_two 4))
  pub tested : Text (codes "ifz 1 then 2 else 3") (ifz_at 0 (number_at 4 1) (number_at 11 2) (number_at 18 3))
  pub function : Text (codes "fun x:nat. x") (bound the_fun nat 11)
  pub fixed : Text (codes "fix x:nat. x") (bound the_fix nat 11)
  pub longer_name : Text (codes "succs") (name_at 0 (codes "succs"))

-- sums are grouped to the left, and so are products; a product binds more than a sum, on either side; parentheses bind more than both
pub record ExampleOperators : Type 0 where
  pub plus : Text (codes "1 + 2 + 3") (left_first Plus Plus)
  pub minus : Text (codes "1 - 2 - 3") (left_first Minus Minus)
  pub times : Text (codes "1 * 2 * 3") (left_first Times Times)
  pub minus_plus : Text (codes "1 - 2 + 3") (left_first Minus Plus)
  pub plus_minus : Text (codes "1 + 2 - 3") (left_first Plus Minus)
  pub plus_times : Text (codes "1 + 2 * 3") (right_first Plus Times)
  pub times_minus : Text (codes "1 * 2 - 3") (left_first Times Minus)
  pub in_parentheses : Text (codes "1-(2-3)") (binary_at 0 Minus (number_at 0 1) (binary_at 3 Minus (number_at 3 2) (number_at 5 3)))

-- application is grouped to the left and binds more than a product, and a word before an atom binds more than it; what stands behind a
-- dot or behind `else` goes on as long as it can
pub record ExampleApplications : Type 0 where
  pub applied : Text (codes "f x y")
      (apply_at 0 (apply_at 0 (name_at 0 (codes "f")) (name_at 2 (codes "x"))) (name_at 4 (codes "y")))
  pub in_product : Text (codes "f x * g y") (binary_at 0 Times (apply_at 0 (name_at 0 (codes "f")) (name_at 2 (codes "x")))
      (apply_at 6 (name_at 6 (codes "g")) (name_at 8 (codes "y"))))
  pub word_first : Text (codes "fst p x") (apply_at 0 (word_at 0 (the_part Left) (name_at 4 (codes "p"))) (name_at 6 (codes "x")))
  pub word_in_word : Text (codes "succ pred 1") (word_at 0 the_succ (word_at 5 the_pred (number_at 10 1)))
  pub body : Text (codes "fun x:nat. x + 1")
      (bind_at 0 the_fun (codes "x") nat (binary_at 11 Plus (name_at 11 (codes "x")) (number_at 15 1)))
  pub last_branch : Text (codes "ifz 1 then 2 else 3 + 4")
      (ifz_at 0 (number_at 4 1) (number_at 11 2) (binary_at 18 Plus (number_at 18 3) (number_at 22 4)))

-- types of functions and of pairs are grouped to the right, and a pair's binds more
pub record ExampleTypes : Type 0 where
  pub arrows : Text (codes "fun x:nat -> nat -> nat. x") (bound the_fun (arrow nat (arrow nat nat)) 25)
  pub products : Text (codes "fun x:nat * nat * nat. x") (bound the_fun (product nat (product nat nat)) 23)
  pub product_arrow : Text (codes "fun x:nat * nat -> nat. x") (bound the_fun (arrow (product nat nat) nat) 24)
  pub arrow_product : Text (codes "fun x:nat -> nat * nat. x") (bound the_fun (arrow nat (product nat nat)) 24)
  pub in_parentheses : Text (codes "fix x:(nat->nat)->nat. x") (bound the_fix (arrow (arrow nat nat) nat) 23)

-- a comment ends with its line or with the text, numbers are decimal, and a blank is none of a token
pub record ExampleLines : Type 0 where
  pub comment : Text (codes "# 1 +\n2 # + 3") (number_at 6 2)
  pub decimal : Text (codes "\t1024\r\n") (number_at 1 1024)
  pub no_blank : Text (codes "f1 2") (apply_at 0 (name_at 0 (codes "f1")) (number_at 3 2))
