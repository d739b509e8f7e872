-- What is found of a command's arguments: for the name of an argument, what stands there, if anything does.
use Rattle.std.specs.Prelude.{ℕ, Bool, List, Option, None, Some}
use Rattle.clap.specs.Words.{Text}

-- the text, the number and the numbers of an argument, whether a flag is set, and whether the words give the argument
pub record Findings : Type 0 where
  pub text : Text → Option Text
  pub number : Text → Option ℕ
  pub numbers : Text → Option (List ℕ)
  pub is_set : Text → Bool
  pub is_given : Text → Bool

-- one answer, and then what it leads to
infixl 10 ◌>>=◌
abbrev pub ◌>>=◌ : {A B : Type 0} → Option A → (A → Option B) → Option B
None >>= f = None
(Some x) >>= f = f x
