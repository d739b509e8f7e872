-- Stacks as text, top first. A stack is one word: its parts stand with `.` between them, and the empty stack is `-`.
--
-- Signatures grow with a run, and a line about a token should be short. So a signature is written only so deep, with `~` for each part
-- that lies deeper, and a stack only so far, with `+N` for the N parts below. What is left out lies at the bottom, where no move
-- looks. A box stack that is the key of something is written whole.
use Rattle.std.specs.Prelude.{ℕ, zero, suc, List, [], ◌∷◌, ◌++◌, length, map, codes, decimal}
use Rattle.token_stacks.specs.Signatures.{Sig, star, left_of, right_of, pair_of, again, Sym, R, L, S, Work, Boxes}

-- how deep a signature is written, and how many parts of a stack
abbrev pub most_deep : ℕ
most_deep = 12

abbrev pub most_parts : ℕ
most_parts = 8

-- a signature, so deep
abbrev pub sig_text : ℕ → Sig → List ℕ
sig_text d star = codes "*"
sig_text zero (left_of s) = codes "~"
sig_text zero (right_of s) = codes "~"
sig_text zero (pair_of s u) = codes "~"
sig_text zero (again u s) = codes "~"
sig_text (suc d) (left_of s) = codes "l" ++ sig_text d s
sig_text (suc d) (right_of s) = codes "r" ++ sig_text d s
sig_text (suc d) (pair_of s u) = codes "<" ++ (sig_text d s ++ (codes "," ++ (sig_text d u ++ codes ">")))
sig_text (suc d) (again u s) = codes "y(" ++ (sig_text d u ++ (codes "," ++ (sig_text d s ++ codes ")")))

-- a signature, whole
abbrev pub whole_sig_text : Sig → List ℕ
whole_sig_text star = codes "*"
whole_sig_text (left_of s) = codes "l" ++ whole_sig_text s
whole_sig_text (right_of s) = codes "r" ++ whole_sig_text s
whole_sig_text (pair_of s u) = codes "<" ++ (whole_sig_text s ++ (codes "," ++ (whole_sig_text u ++ codes ">")))
whole_sig_text (again u s) = codes "y(" ++ (whole_sig_text u ++ (codes "," ++ (whole_sig_text s ++ codes ")")))

-- a symbol, its signature so deep
abbrev pub sym_text : ℕ → Sym → List ℕ
sym_text d R = codes "R"
sym_text d L = codes "L"
sym_text d (S s) = sig_text d s

-- parts, each behind a `.`
abbrev pub dots : List (List ℕ) → List ℕ
dots [] = []
dots (x ∷ xs) = codes "." ++ (x ++ dots xs)

-- parts with `.` between them
abbrev pub dotted : List (List ℕ) → List ℕ
dotted [] = codes "-"
dotted (x ∷ xs) = x ++ dots xs

-- so many parts, and how many more there are
abbrev pub first_parts : ℕ → List (List ℕ) → List (List ℕ)
first_parts n [] = []
first_parts zero (x ∷ xs) = (codes "+" ++ decimal (length (x ∷ xs))) ∷ []
first_parts (suc n) (x ∷ xs) = x ∷ first_parts n xs

-- a work stack
abbrev pub work_text : Work → List ℕ
work_text m = dotted (first_parts most_parts (map (sym_text most_deep) m))

-- a box stack
abbrev pub boxes_text : Boxes → List ℕ
boxes_text t = dotted (first_parts most_parts (map (sig_text most_deep) t))

-- a box stack that is a key, whole
abbrev pub key_text : Boxes → List ℕ
key_text t = dotted (map whole_sig_text t)
