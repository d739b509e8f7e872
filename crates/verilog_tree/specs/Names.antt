-- The text whose characters have these numbers: a name of the code is a list of bytes, and a name of a tree is a text.
use Rattle.std.specs.Prelude.{ℕ, List, [], ◌∷◌}
use Prim.Native.Nat.{Ordering, compare}
use Prim.Native.Char.{Char, char, nul, IsLt, IsScalar}
use Prim.Native.String.{String, [] as empty, ◌∷◌ as ◌before◌}

-- a number is that of a character, by its place beside 55296, 57343 and 1114112
abbrev both : Ordering → Ordering → Type 0
both Ordering.lt o = IsLt o
both Ordering.eq o = ⊥
both Ordering.gt o = ⊥

-- the same
abbrev pub scalar : Ordering → Ordering → Ordering → Type 0
scalar Ordering.lt o p = Unit
scalar Ordering.eq o p = both o p
scalar Ordering.gt o p = both o p

-- whether it is below
abbrev lt_dec : (o : Ordering) → Dec (IsLt o)
lt_dec Ordering.lt = yes tt
lt_dec Ordering.eq = no (λ x. x)
lt_dec Ordering.gt = no (λ x. x)

-- whether it is above the one and below the other
abbrev both_dec : (o p : Ordering) → Dec (both o p)
both_dec Ordering.lt p = lt_dec p
both_dec Ordering.eq p = no (λ x. x)
both_dec Ordering.gt p = no (λ x. x)

-- whether it is a character's
abbrev pub scalar_dec : (o p q : Ordering) → Dec (scalar o p q)
scalar_dec Ordering.lt p q = yes tt
scalar_dec Ordering.eq p q = both_dec p q
scalar_dec Ordering.gt p q = both_dec p q

-- that character, where there is one
abbrev pub character_by : (n : ℕ) → Dec (IsScalar n) → Char
character_by n (yes p) = char n p
character_by n (no f) = nul

-- the character of a number
abbrev pub character : ℕ → Char
character n = character_by n (scalar_dec (compare n 55296) (compare 57343 n) (compare n 1114112))

-- the text of these characters
abbrev pub text_of : List ℕ → String
text_of [] = empty
text_of (n ∷ ns) = character n before text_of ns
