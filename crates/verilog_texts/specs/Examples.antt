-- Trees that print alike. The prover computes them.
use Rattle.std.specs.Prelude.{◌≡◌, ◌≢◌, ◌+◌, ◌^◌, ℕ, true, false, List, [], ◌∷◌}
use Rattle.verilog_tree.specs.Tree.{count, sized, const, name, bit, word, cat, right, shift}
use Rattle.verilog_tree.specs.Tree.{whole, skip, put, seq, Stmt, one, wide, Item, input}
use Rattle.verilog_tree.specs.Tree.{reg, clocked}
use Rattle.verilog_tree.specs.Meaning.{Store, edge}
use Rattle.verilog_tree.specs.Print.{expr_text, module_text}
use Rattle.verilog_tree.specs.WellFormed.{WellFormed}

-- a register that a block of the clock sets
abbrev pub module_of : Stmt → List Item
module_of s = input one "clk" ∷ reg (wide (count 250)) "a" ∷ clocked s ∷ []

-- two modules print alike
abbrev pub PrintAlike : List Item → List Item → Type 0
PrintAlike is js = (WellFormed is ≡ true) × (WellFormed js ≡ true) × (module_text "m" is ≡ module_text "m" js)

-- a number of 64 digits, and one of 65 with the same last 64
abbrev pub short_number : ℕ
short_number = 10 ^ 63

abbrev pub long_number : ℕ
long_number = 10 ^ 64 + 10 ^ 63

-- a register is set to a number
abbrev pub sets : ℕ → Stmt
sets n = put (whole "a") (sized 250 n)

-- it is set to {1'd1, w'd0} >> k
abbrev pub shifted : ℕ → ℕ → Stmt
shifted k w = put (whole "a") (shift right (cat (sized 1 1) (sized w 0)) (sized 250 k))

pub record ExampleSameTexts : Type 0 where
  -- a parameter and a vector, and a bit and a word of a memory
  pub names : expr_text true (const "x") ≡ expr_text true (name "x")
  pub indexes : expr_text true (bit "x" (name "i")) ≡ expr_text true (word "x" (name "i"))
  -- statements one after the other, and nothing between them: other trees, the same edges
  pub order : PrintAlike (module_of (seq (seq (sets 1) (sets 2)) (sets 3))) (module_of (seq (sets 1) (seq skip (seq (sets 2) (sets 3)))))
  pub same_edges : (S : Store) →
      edge (module_of (seq (seq (sets 1) (sets 2)) (sets 3))) S ≡ edge (module_of (seq (sets 1) (seq skip (seq (sets 2) (sets 3))))) S
  -- a number of more than 64 digits prints as another one and means itself, and no module has it
  pub long : module_text "m" (module_of (sets short_number)) ≡ module_text "m" (module_of (sets long_number))
  pub other_edges : (S : Store) →
      (edge (module_of (sets short_number)) S).vec "a" ≢ (edge (module_of (sets long_number)) S).vec "a"
  pub refused : WellFormed (module_of (sets long_number)) ≡ false
  -- and so of the width that a number is written with
  pub wide :
      module_text "m" (module_of (shifted short_number short_number)) ≡ module_text "m" (module_of (shifted short_number long_number))
  pub refused_wide : WellFormed (module_of (shifted 1 long_number)) ≡ false
