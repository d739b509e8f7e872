-- Bytes are the codes of the text that they stand for.
use Rattle.std.proofs.Common.{◌≡◌, ◌≤◌, ◌<◌, ◌++◌, ◌∙◌, drop, length, ℕ, zero, suc, List, ◌∷◌, codes, refl, ap, subst, sym}
use Prim.Native.Nat.compare
use Prim.Native.Nat.{Ordering, compare}
use native.Mathlib.Bridge.{unsuc, no_suc-le-zero}
use Prim.Native.Char.{code, IsLt, IsScalar}
use Rattle.std.proofs.lemmas.List.{drop_all, append-nil}
use Rattle.verilog_tree.specs.Names.{scalar, scalar_dec, character_by, character, text_of}

-- what is below the first bound is a character's number
scalar_of : (o p q : Ordering) → IsLt o → scalar o p q
scalar_of Ordering.lt p q h = tt
scalar_of Ordering.eq p q h = absurd h
scalar_of Ordering.gt p q h = absurd h

-- a character has the number that it was made of
code_by : (n : ℕ) → IsScalar n → (d : Dec (IsScalar n)) → code (character_by n d) ≡ n
code_by n p (yes q) = refl
code_by n p (no f) = absurd (f p)

-- a number below another is less by comparison
lt_compare : (m n : ℕ) → m < n → IsLt (compare m n)
lt_compare m zero h = absurd (no_suc-le-zero h)
lt_compare zero (suc n) h = subst IsLt (sym (compare.zero-suc n)) tt
lt_compare (suc m) (suc n) h = subst IsLt (sym (compare.suc-suc m n)) (lt_compare m n (unsuc h))

-- so has that of a byte
pub code_is : (n : ℕ) → n < 55296 → code (character n) ≡ n
code_is n h = code_by n (scalar_of (compare n 55296) (compare 57343 n) (compare n 1114112) (lt_compare n 55296 h))
    (scalar_dec (compare n 55296) (compare 57343 n) (compare n 1114112))

-- one byte more
pub codes_more : (n : ℕ) (ns : List ℕ) → n < 55296 → codes (text_of (n ∷ ns)) ≡ n ∷ codes (text_of ns)
codes_more n ns h = ap (λ m. m ∷ codes (text_of ns)) (code_is n h)

-- behind the last byte nothing is left
pub nothing_left : (t ns : List ℕ) (i : ℕ) → length ns ≤ i → t ++ codes (text_of (drop i ns)) ≡ t
nothing_left t ns i h = ap (λ bs. t ++ codes (text_of bs)) (drop_all i ns h) ∙ append-nil t
