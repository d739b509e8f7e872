-- Both stacks in one list of words, and what stands on top of each. Private contracts and proofs alone speak of these; the public
-- calls have the table of rows.
--
-- The box stack's words come first, and end at a border; the work stack's words are behind it. On both stacks a signature has the
-- same words but for a closing mark. So a signature with nothing below it on the work stack goes from one stack to the other by a move
-- of the border.
use Rattle.std.specs.Prelude.{ℕ, ◌≡◌, ◌==◌, ◌≤◌, List, [], ◌∷◌, ◌++◌, Option, Some, None, cond, length, take, drop}
use Rattle.token_stacks.specs.Signatures.{Sig, left_of, right_of, pair_of, again, R, L, S, Work, Boxes}
use Rattle.token_stacks.specs.Loads.{Load, load}
use Rattle.token_stacks.specs.Words.{body, box_words}
use Rattle.token_stacks.specs.WorkWords.{work_words}
use Rattle.token_stacks.specs.Reading.{work_of, boxes_of}

-- the words are the body of a signature
pub record IsBody (words : List ℕ) : Type 0 where
  pub sig : Sig
  pub is : words ≡ body sig

-- the words up to the border are those of a box stack
pub record AreBoxes (ws : List ℕ) (border : ℕ) : Type 0 where
  pub within : border ≤ length ws
  pub boxes : box_words (boxes_of (take border ws)) ≡ take border ws

-- and the words behind it are those of a work stack
pub record IsHeld (ws : List ℕ) (border : ℕ) : Type 0 where
  pub front : AreBoxes ws border
  pub work : work_words (work_of (drop border ws)) ≡ drop border ws

-- these are the stacks of the words
pub record Lies (ws : List ℕ) (border : ℕ) (m : Work) (t : Boxes) : Type 0 where
  pub words : ws ≡ box_words t ++ work_words m
  pub ends : border ≡ length (box_words t)

-- a signature whose body has so many words is on top of the work stack
pub record HasTop (ws : List ℕ) (border size : ℕ) : Type 0 where
  pub sig : Sig
  pub rest : Work
  pub boxes : Boxes
  pub sized : size ≡ length (body sig)
  pub lies : Lies ws border (S sig ∷ rest) boxes

-- a signature whose body has so many words is on top of the box stack
pub record HasBox (ws : List ℕ) (border size : ℕ) : Type 0 where
  pub sig : Sig
  pub rest : Boxes
  pub work : Work
  pub sized : size ≡ length (body sig)
  pub lies : Lies ws border work (sig ∷ rest)

-- a pair whose parts' bodies have so many words is on top of the work stack
pub record HasPair (ws : List ℕ) (border first second : ℕ) : Type 0 where
  pub one : Sig
  pub two : Sig
  pub rest : Work
  pub boxes : Boxes
  pub first_sized : first ≡ length (body one)
  pub second_sized : second ≡ length (body two)
  pub lies : Lies ws border (S (pair_of one two) ∷ rest) boxes

-- a `y` whose parts' bodies have so many words is on top of the box stack
pub record HasAgain (ws : List ℕ) (border first second : ℕ) : Type 0 where
  pub one : Sig
  pub two : Sig
  pub rest : Boxes
  pub work : Work
  pub first_sized : first ≡ length (body one)
  pub second_sized : second ≡ length (body two)
  pub lies : Lies ws border work (again one two ∷ rest)

-- the signature on top of a stack, if there is one
abbrev pub top_sig : Work → Option Sig
top_sig (S s ∷ m) = Some s
top_sig _ = None

abbrev pub box_sig : Boxes → Option Sig
box_sig (s ∷ t) = Some s
box_sig [] = None

-- the parts of the pair on top, and of the `y`
abbrev pub top_pair : Work → Option (Sig × Sig)
top_pair (S (pair_of s u) ∷ m) = Some (s, u)
top_pair _ = None

abbrev pub box_again : Boxes → Option (Sig × Sig)
box_again (again u s ∷ t) = Some (u, s)
box_again _ = None

-- the row without the symbol of this word, 5 for `R` and 6 for `L`
abbrev pub symbol_popped : ℕ → Work → Boxes → Option Load
symbol_popped n (R ∷ m) t = cond (n == 5) (Some (load m t)) None
symbol_popped n (L ∷ m) t = cond (n == 6) (Some (load m t)) None
symbol_popped n _ t = None

-- the signature with this mark, 1 for `l` and 2 for `r`
abbrev pub marked : ℕ → Sig → Sig
marked n s = cond (n == 1) (left_of s) (right_of s)

-- the rows of wrapping and unwrapping, by the mark
abbrev pub wrapped : ℕ → Work → Boxes → Option Load
wrapped n (S s ∷ m) t = Some (load (S (marked n s) ∷ m) t)
wrapped n _ t = None

abbrev pub unwrapped : ℕ → Work → Boxes → Option Load
unwrapped n (S (left_of s) ∷ m) t = cond (n == 1) (Some (load (S s ∷ m) t)) None
unwrapped n (S (right_of s) ∷ m) t = cond (n == 2) (Some (load (S s ∷ m) t)) None
unwrapped n _ t = None
