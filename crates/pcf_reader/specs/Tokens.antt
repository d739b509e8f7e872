-- The tokens of a text, each with its place.
-- The words before an atom are one form, and so are the binders, as in the trees. The end of the text is a token, so that it can be
-- expected and unexpected like any other; so is a place where no token begins, which no phrase has.
use Rattle.std.specs.Prelude.{ℕ, Bool, true, false, List}
use Rattle.pcf_values.specs.declared.operator.Operator.{Operator}
use Rattle.pcf_values.specs.declared.operator.Operator.TheVariants.{Plus, Minus, Times}
use Rattle.pcf_values.specs.Named.{Word, Binder}

pub data Token : Type 0 where
  Open : Token
  Close : Token
  Colon : Token
  Dot : Token
  Comma : Token
  -- the sign of an operator; that of the product stands between types, too
  Sign : Operator → Token
  Arrow : Token
  Ifz : Token
  Then : Token
  Else : Token
  Nat : Token
  Bind : Binder → Token
  Before : Word → Token
  Number : ℕ → Token
  Name : List ℕ → Token
  -- the end of the text
  End : Token
  -- no token begins here
  Junk : Token

-- an operator whose sign stands in sums; the others stand in products
abbrev pub is_sum : Operator → Bool
is_sum Plus = true
is_sum Minus = true
is_sum Times = false

-- the sign between the types of a pair's parts
abbrev pub star : Token
star = Sign Times

pub record Placed : Type 0 where
  pub at : ℕ
  pub token : Token
