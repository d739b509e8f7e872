-- The limits of net files as numbers, each inclusive, under the names that definitions and contracts use.
use Rattle.std.specs.Prelude.{ℕ}

-- the most bytes of a net file
abbrev pub most_text_bytes : ℕ
most_text_bytes = 16777216

-- the most height of a type that a net file names
abbrev pub most_type_height : ℕ
most_type_height = 4000
