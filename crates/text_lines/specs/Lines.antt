-- The lines of a text, and the line that ends one.
-- A line feed belongs to the line that it ends, so that the lines of a text, joined, are the text. Bytes behind the last line feed are a
-- line too; a format that wants a line feed at the end of each line refuses it by what it says of that line.
use Rattle.std.specs.Prelude.{◌≡◌, ℕ, ◌<◌, List, [], ◌∷◌, ◌++◌, length, codes, nat_eq, if◌then◌else◌}

-- the first line with one more byte in front
abbrev pub in_front : ℕ → List (List ℕ) → List (List ℕ)
in_front b [] = (b ∷ []) ∷ []
in_front b (l ∷ ls) = (b ∷ l) ∷ ls

-- the lines of a text, each with its line feed; bytes behind the last line feed are a last line, which has none
abbrev pub lines : List ℕ → List (List ℕ)
lines [] = []
lines (b ∷ bs) = if nat_eq b 10 then (b ∷ []) ∷ lines bs else in_front b (lines bs)

-- lines joined
abbrev pub joined : List (List ℕ) → List ℕ
joined [] = []
joined (l ∷ ls) = l ++ joined ls

-- the last line of a text that says where it ends
abbrev pub end_line : List ℕ
end_line = codes "end\n"

-- the line is `end`, and lines follow it
pub record IsEarly (l : List ℕ) (ls : List (List ℕ)) : Type 0 where
  pub end : l ≡ end_line
  pub behind : 0 < length ls
