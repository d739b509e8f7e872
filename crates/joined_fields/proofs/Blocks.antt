-- Statements one after the other.
use Rattle.std.proofs.Common.{◌≡◌, ◌∙◌, ◌<◌, ◌+◌, ◌-◌, ℕ, suc, List, [], ◌∷◌, refl, ap, sym, arith}
use Rattle.std.specs.Prelude.{Option, Some}
use Prim.Native.String.{String}
use Rattle.verilog_tree.specs.Tree.{Stmt, seq, name}
use Rattle.circuit_module.specs.Fixed.{set, block}
use Rattle.joined_module.specs.Module.{list_sets}
use Rattle.joined_fields.specs.Parts.{with_next, chain_of, chained}

-- a chain is the block of its statements
pub chain_block : (ss : List Stmt) → chained (chain_of ss) ≡ block ss
chain_block [] = refl
chain_block (s ∷ []) = refl
chain_block (s ∷ t ∷ ss) = ap (λ r. seq s r) (chain_block (t ∷ ss))

-- so many of a list, with the first one in front of the others
pub list_more : (x y : ℕ → String) (i n : ℕ) → 0 < n →
    chain_of (list_sets x y i n) ≡ Some (with_next (set (x i) (name (y i))) (chain_of (list_sets x y (i + 1) (n - 1))))
list_more x y i n h =
    let more : n ≡ suc (n - 1) = omega arith in
    let up : suc i ≡ i + 1 = omega arith in
    ap (λ m. chain_of (list_sets x y i m)) more
    ∙ ap (λ j. Some (with_next (set (x i) (name (y i))) (chain_of (list_sets x y j (n - 1))))) up

-- the same of what was made
pub list_made : (x y : ℕ → String) (i n : ℕ) (s : Stmt) (rest r : Option Stmt) → 0 < n → s ≡ set (x i) (name (y i)) →
    rest ≡ chain_of (list_sets x y (i + 1) (n - 1)) → r ≡ Some (with_next s rest) → r ≡ chain_of (list_sets x y i n)
list_made x y i n s rest r h d e f =
    f ∙ ap (λ t. Some (with_next t rest)) d ∙ ap (λ o. Some (with_next (set (x i) (name (y i))) o)) e ∙ sym (list_more x y i n h)
