-- What the words of a signature end in, and reads and writes at the end of words.
use Rattle.std.proofs.Common.{◌≡◌, ℕ, ◌+◌, List, [], ◌∷◌, ◌++◌, length, get_or, set, take, drop, refl, sym, ◌∙◌}
use Rattle.std.proofs.Common.{ap, arith, length-append}
use Rattle.std.proofs.lemmas.List.{append_assoc, get_or_at, set_at, take_at, drop_at}
use Rattle.token_stacks.specs.Signatures.{Sig, star, left_of, right_of, pair_of, again}
use Rattle.token_stacks.specs.Words.{body}

-- a body without its last word, and that word
abbrev pub stem : Sig → List ℕ
stem star = []
stem (left_of s) = body s
stem (right_of s) = body s
stem (pair_of s u) = body s ++ (body u ++ length (body u) ∷ [])
stem (again s u) = body s ++ (body u ++ length (body u) ∷ [])

abbrev pub tag : Sig → ℕ
tag star = 0
tag (left_of s) = 1
tag (right_of s) = 2
tag (pair_of s u) = 3
tag (again s u) = 4

pub body_ends : (s : Sig) → body s ≡ stem s ++ tag s ∷ []
body_ends star = refl
body_ends (left_of s) = refl
body_ends (right_of s) = refl
body_ends (pair_of s u) =
    ap (λ (z : List ℕ). body s ++ z) (sym (append_assoc (body u) (length (body u) ∷ []) (3 ∷ [])))
    ∙ sym (append_assoc (body s) (body u ++ length (body u) ∷ []) (3 ∷ []))
body_ends (again s u) =
    ap (λ (z : List ℕ). body s ++ z) (sym (append_assoc (body u) (length (body u) ∷ []) (4 ∷ [])))
    ∙ sym (append_assoc (body s) (body u ++ length (body u) ∷ []) (4 ∷ []))

pub body_long : (s : Sig) → length (body s) ≡ length (stem s) + 1
body_long s = ap length (body_ends s) ∙ length-append (stem s) (tag s ∷ [])

-- only `*` has a body of one word: each other body has the words of a part in it
pub star_short : (s : Sig) → length (body s) ≡ 1 → s ≡ star
star_short star h = refl
star_short (left_of s) h = absurd (omega (arith, length-append (body s) (1 ∷ []), body_long s))
star_short (right_of s) h = absurd (omega (arith, length-append (body s) (2 ∷ []), body_long s))
star_short (pair_of s u) h =
    absurd (omega (
      arith,
      length-append (body s) (body u ++ length (body u) ∷ 3 ∷ []),
      body_long s,
      length-append (body u) (length (body u) ∷ 3 ∷ []),
      body_long u,
    ))
star_short (again s u) h =
    absurd (omega (
      arith,
      length-append (body s) (body u ++ length (body u) ∷ 4 ∷ []),
      body_long s,
      length-append (body u) (length (body u) ∷ 4 ∷ []),
      body_long u,
    ))

pub length_pair : (s u : Sig) → length (body (pair_of s u)) ≡ length (body s) + length (body u) + 2
length_pair s u = omega
    (arith, length-append (body s) (body u ++ length (body u) ∷ 3 ∷ []), length-append (body u) (length (body u) ∷ 3 ∷ []))

pub length_again : (s u : Sig) → length (body (again s u)) ≡ length (body s) + length (body u) + 2
length_again s u = omega
    (arith, length-append (body s) (body u ++ length (body u) ∷ 4 ∷ []), length-append (body u) (length (body u) ∷ 4 ∷ []))

-- a word that is read after f
pub word_at : (f : List ℕ) (x : ℕ) (g ws : List ℕ) (i a : ℕ) → ws ≡ f ++ x ∷ g → i ≡ length f → a ≡ get_or ws i a →
    a ≡ x
word_at f x g ws i a e h r = r ∙ ap (λ (z : List ℕ). get_or z i a) e ∙ get_or_at f x g a i (sym h)

-- one word moves from the second list to the first
pub one_on : (f : List ℕ) (x : ℕ) (g : List ℕ) → f ++ x ∷ g ≡ (f ++ x ∷ []) ++ g
one_on f x g = sym (append_assoc f (x ∷ []) g)

pub length_on : (f : List ℕ) (x : ℕ) → length (f ++ x ∷ []) ≡ length f + 1
length_on f x = length-append f (x ∷ [])

pub set_after : (f : List ℕ) (x : ℕ) (g ws : List ℕ) (i y : ℕ) → ws ≡ f ++ x ∷ g → i ≡ length f → set ws i y ≡ f ++
    y ∷ g
set_after f x g ws i y e h = ap (λ (z : List ℕ). set z i y) e ∙ set_at f x g y i (sym h)

pub take_after : (f g ws : List ℕ) (n : ℕ) → ws ≡ f ++ g → n ≡ length f → take n ws ≡ f
take_after f g ws n e h = ap (λ (z : List ℕ). take n z) e ∙ take_at f g n (sym h)

pub drop_after : (f g ws : List ℕ) (n : ℕ) → ws ≡ f ++ g → n ≡ length f → drop n ws ≡ g
drop_after f g ws n e h = ap (λ (z : List ℕ). drop n z) e ∙ drop_at f g n (sym h)

-- a piece from the middle
pub piece_at : (f b g ws : List ℕ) (i n : ℕ) → ws ≡ f ++ (b ++ g) → i ≡ length f → n ≡ length b → take n (drop i ws) ≡ b
piece_at f b g ws i n e h k = ap (λ (z : List ℕ). take n z) (drop_after f (b ++ g) ws i e h) ∙ take_at b g n (sym k)

pub length_both : (f g ws : List ℕ) → ws ≡ f ++ g → length ws ≡ length f + length g
length_both f g ws e = ap length e ∙ length-append f g

-- a body is not empty
pub record Starts (ws : List ℕ) : Type 0 where
  pub first : ℕ
  pub others : List ℕ
  pub is : ws ≡ first ∷ others

starts_on : (ws g : List ℕ) → Starts ws → Starts (ws ++ g)
starts_on ws g s = record { first = s.first; others = s.others ++ g; is = ap (λ (z : List ℕ). z ++ g) s.is }

pub body_starts : (s : Sig) → Starts (body s)
body_starts star = record { first = 0; others = []; is = refl }
body_starts (left_of s) = starts_on (body s) (1 ∷ []) (body_starts s)
body_starts (right_of s) = starts_on (body s) (2 ∷ []) (body_starts s)
body_starts (pair_of s u) = starts_on (body s) (body u ++ length (body u) ∷ 3 ∷ []) (body_starts s)
body_starts (again s u) = starts_on (body s) (body u ++ length (body u) ∷ 4 ∷ []) (body_starts s)
