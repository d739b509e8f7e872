-- What tables say of the names that a module declares.
use Rattle.std.specs.Prelude.{◌≡◌, ℕ, List}
use Prim.Native.String.{String}
use Rattle.verilog_tree.specs.Meaning.{Scope}
use Rattle.verilog_run.specs.Entries.{Entry, rows, under}
use Rattle.verilog_run.specs.declared.scene.Scene.{Scene}

-- the number of each name
abbrev pub told : List (List Entry) → String → ℕ
told ls x = under ls x 0

-- the number of each name is that of a function
abbrev pub Tells : List (List Entry) → (String → ℕ) → Type 0
Tells ls f = (x : String) → told ls x ≡ f x

-- the scope
abbrev pub scope_of : Scene → Scope
scope_of s = record { width = told (rows s.widths); words = told (rows s.words); param = told (rows s.params) }
