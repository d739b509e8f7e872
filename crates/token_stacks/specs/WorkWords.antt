-- A work stack as words: the numbers that stand for it, one after another, from its bottom to its top. `R` is 5, `L` is 6, and a signature
-- is its body, the length of its body, and 7.
use Rattle.std.specs.Prelude.{ℕ, List, [], ◌∷◌, ◌++◌, length}
use Rattle.token_stacks.specs.Signatures.{Sym, R, L, S, Work}
use Rattle.token_stacks.specs.Words.{body}

-- the words of a symbol on a work stack
abbrev pub symbol : Sym → List ℕ
symbol R = 5 ∷ []
symbol L = 6 ∷ []
symbol (S s) = body s ++ length (body s) ∷ 7 ∷ []

-- the words of a work stack, from its bottom
abbrev pub work_words : Work → List ℕ
work_words [] = []
work_words (x ∷ m) = work_words m ++ symbol x
