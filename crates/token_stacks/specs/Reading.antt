-- The stack that words stand for.
--
-- The words are read from the top, where each one tells what stands below it: a length, which is skipped, or signatures, which are
-- read before the next symbol. Words that stand for no stack are read as some stack or other; the types that keep words keep
-- beside them that the stack's own words are these. The two laws at the end of each reading say that it gives back the stack whose words
-- are read, so that no two stacks have the same words.
use Rattle.std.specs.Prelude.{ℕ, zero, suc, Bool, true, false, ◌≡◌, ◌==◌, List, [], ◌∷◌, ◌++◌, length, cond, reverse, take, drop}
use Rattle.std.specs.Prelude.{refl}
use Rattle.std.proofs.Common.{◌∙◌, ap, sym}
use Rattle.std.proofs.lemmas.List.{reverse-append, append_assoc, append-nil}
use Rattle.token_stacks.specs.Signatures.{Sig, star, left_of, right_of, pair_of, again, Sym, R, L, S, Work, Boxes}
use Rattle.token_stacks.specs.Loads.{Load, load}
use Rattle.token_stacks.specs.Words.{body, entry, box_words}
use Rattle.token_stacks.specs.WorkWords.{work_words}

abbrev on_one : (Sig → Sig) → List Sym → List Sym
on_one f (S s ∷ m) = S (f s) ∷ m
on_one f m = m

abbrev on_two : (Sig → Sig → Sig) → List Sym → List Sym
on_two f (S u ∷ S s ∷ m) = S (f s u) ∷ m
on_two f m = m

-- the last word of a body, before the signatures that stand below it
abbrev put : ℕ → List Sym → List Sym
put w m =
    cond (w == 0) (S star ∷ m) (cond (w == 1) (on_one left_of m) (cond (w == 2) (on_one right_of m)
    (cond (w == 3) (on_two pair_of m) (on_two again m))))

-- whether a length stands below the word
abbrev skips : ℕ → Bool
skips w = cond (w == 3) true (w == 4)

-- how many signatures stand below the word, and p others
abbrev needs : ℕ → ℕ → ℕ
needs w p = cond (w == 0) p (cond (skips w) (suc (suc p)) (suc p))

-- the words from the top, with a length to be skipped first, and with how many signatures to be read before the next symbol; an entry of
-- a box stack begins with a length
read : Bool → List ℕ → Bool → ℕ → List Sym
read boxes [] skip p = []
read boxes (w ∷ ws) true p = read boxes ws false p
read boxes (w ∷ ws) false (suc p) = put w (read boxes ws (skips w) (needs w p))
read true (w ∷ ws) false zero = read true ws false 1
read false (w ∷ ws) false zero =
    cond (w == 5) (R ∷ read false ws false 0) (cond (w == 6) (L ∷ read false ws false 0) (read false ws true 1))

abbrev signatures : List Sym → List Sig
signatures [] = []
signatures (S s ∷ m) = s ∷ signatures m
signatures (R ∷ m) = signatures m
signatures (L ∷ m) = signatures m

pub work_of : List ℕ → Work
unfolding read
work_of ws = read false (reverse ws) false 0

pub boxes_of : List ℕ → Boxes
unfolding read
boxes_of ws = signatures (read true (reverse ws) false 0)

-- both stacks of words with a border: the box stack's come first
abbrev pub load_of : List ℕ → ℕ → Load
load_of ws border = load (work_of (drop border ws)) (boxes_of (take border ws))

reverse_three : (a b : List ℕ) (x y : ℕ) (rest : List ℕ)
    → reverse (a ++ (b ++ x ∷ y ∷ [])) ++ rest ≡ y ∷ x ∷ (reverse b ++ (reverse a ++ rest))
reverse_three a b x y rest =
    ap (λ (z : List ℕ). z ++ rest)
    (reverse-append a (b ++ x ∷ y ∷ []) ∙ ap (λ (z : List ℕ). z ++ reverse a) (reverse-append b (x ∷ y ∷ [])))
    ∙ append_assoc (y ∷ x ∷ reverse b) (reverse a) rest

reverse_one : (a : List ℕ) (x : ℕ) (rest : List ℕ) → reverse (a ++ x ∷ []) ++ rest ≡ x ∷ (reverse a ++ rest)
reverse_one a x rest = ap (λ (z : List ℕ). z ++ rest) (reverse-append a (x ∷ []))

-- the words of a body, read from its end, are its signature
read_body : (k : Bool) (s : Sig) (rest : List ℕ) (p : ℕ) → read k (reverse (body s) ++ rest) false (suc p) ≡ S s ∷
    read k rest false p
unfolding read
read_body k star rest p = refl
read_body k (left_of s) rest p =
    ap (λ (z : List ℕ). read k z false (suc p)) (reverse_one (body s) 1 rest) ∙ ap (on_one left_of) (read_body k s rest p)
read_body k (right_of s) rest p =
    ap (λ (z : List ℕ). read k z false (suc p)) (reverse_one (body s) 2 rest) ∙ ap (on_one right_of) (read_body k s rest p)
read_body k (pair_of s u) rest p =
    ap (λ (z : List ℕ). read k z false (suc p)) (reverse_three (body s) (body u) (length (body u)) 3 rest)
    ∙ ap (on_two pair_of) (read_body k u (reverse (body s) ++ rest) (suc p) ∙ ap (λ (z : List Sym). S u ∷ z) (read_body k s rest p))
read_body k (again s u) rest p =
    ap (λ (z : List ℕ). read k z false (suc p)) (reverse_three (body s) (body u) (length (body u)) 4 rest)
    ∙ ap (on_two again) (read_body k u (reverse (body s) ++ rest) (suc p) ∙ ap (λ (z : List Sym). S u ∷ z) (read_body k s rest p))

-- the words of a work stack are read as that work stack
pub work_of-words : (m : Work) → work_of (work_words m) ≡ m
unfolding work_of read
work_of-words [] = refl
work_of-words (R ∷ m) =
    ap (λ (z : List ℕ). read false z false 0) (reverse-append (work_words m) (5 ∷ [])) ∙
    ap (λ (z : List Sym). R ∷ z) (work_of-words m)
work_of-words (L ∷ m) =
    ap (λ (z : List ℕ). read false z false 0) (reverse-append (work_words m) (6 ∷ [])) ∙
    ap (λ (z : List Sym). L ∷ z) (work_of-words m)
work_of-words (S s ∷ m) =
    ap (λ (z : List ℕ). read false z false 0)
    (sym (append-nil (reverse (work_words (S s ∷ m)))) ∙ reverse_three (work_words m) (body s) (length (body s)) 7 [])
    ∙ read_body false s (reverse (work_words m) ++ []) 0
    ∙ ap (λ (z : List ℕ). S s ∷ read false z false 0) (append-nil (reverse (work_words m)))
    ∙ ap (λ (z : List Sym). S s ∷ z) (work_of-words m)

read_boxes : (t : List Sig) → signatures (read true (reverse (box_words t)) false 0) ≡ t
unfolding read
read_boxes [] = refl
read_boxes (s ∷ t) =
    ap (λ (z : List ℕ). signatures (read true z false 0))
    (reverse-append (box_words t) (entry s)
    ∙ ap (λ (z : List ℕ). z ++ reverse (box_words t)) (reverse-append (body s) (length (body s) ∷ [])))
    ∙ ap signatures (read_body true s (reverse (box_words t)) 0)
    ∙ ap (λ (z : List Sig). s ∷ z) (read_boxes t)

pub boxes_of-words : (t : Boxes) → boxes_of (box_words t) ≡ t
unfolding boxes_of
boxes_of-words t = read_boxes t
