-- The text of the generated program of a number.
-- What the program is stands in `Demo`. Both parts of each sum stand in parentheses.
use Rattle.std.specs.Prelude.{ℕ, zero, suc, List, ◌++◌, codes}

-- two such texts in parentheses, with a plus between them
abbrev pub doubled : List ℕ → List ℕ
doubled text = codes "(" ++ (text ++ (codes ") + (" ++ (text ++ codes ")")))

-- the text of the sum of this depth
abbrev pub sum_text : ℕ → List ℕ
sum_text zero = codes "d 1"
sum_text (suc depth) = doubled (sum_text depth)

-- the text of the program around a sum
abbrev pub program_of : List ℕ → List ℕ
program_of sum = codes "(fun d:nat->nat. " ++ (sum ++ codes ") (fun x:nat. x + x)\n")

-- the text of the program
abbrev pub demo_text : ℕ → List ℕ
demo_text n = program_of (sum_text n)
