-- What the generated programs are: each of a number within the limit is a program, of the type of numbers, and of a known size.
use Rattle.std.specs.Prelude.{◌≡◌, ◌≤◌, ◌+◌, ◌*◌, ◌^◌, ℕ, [], Ok}
use Rattle.pcf_values.specs.Most.{most_demo}
use Rattle.pcf_values.specs.Named.{NamedTree}
use Rattle.pcf_values.specs.Terms.{nat, size}
use Rattle.pcf_reader.specs.Correct.{Text}
use Rattle.pcf_types.specs.Checking.{type_of}
use Rattle.demo_text.specs.Demo.{demo_term}
use Rattle.demo_text.specs.Text.{demo_text}

-- the text of each number up to the limit stands for a tree, which is typed as the program and is a number
abbrev pub DemoIsTyped : Type 0
DemoIsTyped = (n : ℕ) → n ≤ most_demo → (tree : NamedTree) × Text (demo_text n) tree × (type_of [] tree ≡ Ok (demo_term n, nat))

-- the number of its nodes, types not counted
abbrev pub DemoSize : Type 0
DemoSize = (n : ℕ) → size (demo_term n) ≡ 4 * 2 ^ n + 5
