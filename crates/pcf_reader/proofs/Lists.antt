-- Lists and their parts, above all of written tokens: what holds of each token, and how many nodes they count.
use Rattle.std.proofs.Common.{◌≡◌, ◌+◌, List, [], ◌∷◌, ◌++◌, map, refl, ap, arith}
use Rattle.pcf_reader.specs.Grammar.{Written, placed}
use Rattle.pcf_reader.specs.Text.{count_of, IsNarrow, Each}

-- a token that is no number too wide
abbrev pub WritesNarrow : Written → Type 0
WritesNarrow w = IsNarrow w.token

-- what holds of each token of two lists holds of each of both
pub each_append : (P : Written → Type 0) (u v : List Written) → Each P u → Each P v → Each P (u ++ v)
each_append P [] v h k = k
each_append P (w ∷ u) v h k = (h.0, each_append P u v h.1 k)

-- and the other way, of the first list
pub each_left : (P : Written → Type 0) (u v : List Written) → Each P (u ++ v) → Each P u
each_left P [] v h = tt
each_left P (w ∷ u) v h = (h.0, each_left P u v h.1)

-- of the second
pub each_right : (P : Written → Type 0) (u v : List Written) → Each P (u ++ v) → Each P v
each_right P [] v h = h
each_right P (w ∷ u) v h = each_right P u v h.1

-- and of a token between them
pub each_at : (P : Written → Type 0) (u : List Written) (x : Written) (v : List Written) → Each P (u ++ x ∷ v) → P x
each_at P u x v h = (each_right P u (x ∷ v) h).0

-- two lists count what each counts
pub count-append : (u v : List Written) → count_of (u ++ v) ≡ count_of u + count_of v
count-append [] v = omega arith
count-append (w ∷ u) v = omega (arith, count-append u v)

-- the tokens of two lists with their places
pub map-append : (u v : List Written) → map placed (u ++ v) ≡ map placed u ++ map placed v
map-append [] v = refl
map-append (w ∷ u) v = ap (λ z. placed w ∷ z) (map-append u v)

-- lists that are one begin alike and go on alike, and the empty list begins with nothing
pub head_is : {A : Type 0} (a b : A) (u v : List A) → a ∷ u ≡ b ∷ v → a ≡ b
head_is a b u v e = cc

pub tail_is : {A : Type 0} (a b : A) (u v : List A) → a ∷ u ≡ b ∷ v → u ≡ v
tail_is a b u v e = cc

pub none_left : {A : Type 0} (a : A) (u : List A) → [] ≡ a ∷ u → ⊥
none_left a u e = cc
