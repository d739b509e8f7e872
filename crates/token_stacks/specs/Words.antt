-- Stacks as words: the numbers that stand for a stack, one after another, from its bottom to its top.
--
-- The body of a signature ends in a word that tells its form: 0 for `*`, 1 for `l`, 2 for `r`, 3 for a pair and 4 for `y`. Two
-- parts stand one after the other with the length of the second behind them, so that both are found from the end, and a part that moves
-- is one block of words. On a box stack a signature is its body and the length of its body. `WorkWords` has the words of a work stack.
--
-- What is on top stands last, so a change at the top never touches the words of what lies below it.
use Rattle.std.specs.Prelude.{ℕ, List, [], ◌∷◌, ◌++◌, length}
use Rattle.token_stacks.specs.Signatures.{Sig, star, left_of, right_of, pair_of, again, Boxes}

-- the words of a signature
abbrev pub body : Sig → List ℕ
body star = 0 ∷ []
body (left_of s) = body s ++ 1 ∷ []
body (right_of s) = body s ++ 2 ∷ []
body (pair_of s u) = body s ++ (body u ++ length (body u) ∷ 3 ∷ [])
body (again s u) = body s ++ (body u ++ length (body u) ∷ 4 ∷ [])

-- the words of a signature on a box stack
abbrev pub entry : Sig → List ℕ
entry s = body s ++ length (body s) ∷ []

-- the words of a box stack, from its bottom
abbrev pub box_words : Boxes → List ℕ
box_words [] = []
box_words (s ∷ t) = box_words t ++ entry s
