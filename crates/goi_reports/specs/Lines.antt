-- The two lines that every report of a run has: what it came to, and how many moves it made. Every line ends with a line feed.
use Rattle.std.specs.Prelude.{ℕ, List, ◌++◌, Option, None, Some, codes, decimal}
use Rattle.pcf_values.specs.declared.val.Val.{Val}
use Rattle.pcf_values.specs.declared.val.Val.TheVariants.{Number, Overflow}

-- a word and a number, to the end of the line
abbrev pub numbered_line : List ℕ → ℕ → List ℕ
numbered_line word n = word ++ (decimal n ++ codes "\n")

-- the value of a run, or that it came to none
abbrev pub value_line : Option Val → List ℕ
value_line (Some (Number n)) = numbered_line (codes "value ") n
value_line (Some Overflow) = codes "value overflow\n"
value_line None = codes "no value\n"

-- the number of moves
abbrev pub moves_line : ℕ → List ℕ
moves_line n = numbered_line (codes "moves ") n

-- the two lines
abbrev pub result_lines : Option Val → ℕ → List ℕ
result_lines answer moves = value_line answer ++ moves_line moves
