-- What changed is told by what vectors hold, and not by memories.
use Rattle.std.proofs.Common.{◌≡◌, ◌∙◌, ℕ, ◌+◌, ◌*◌, List, [], ◌∷◌, ◌++◌, codes, decimal, nat_eq, refl, ap, Result, Ok, Err, OnOk}
use Prim.Native.String.{String}
use lib.Text.{eqt}
use Rattle.verilog_tree.specs.Meaning.{Store, chosen}
use Rattle.verilog_waves.specs.Dump.{change_lines, change_text, clock_at, edge_text, value_line}
use Rattle.verilog_waves.specs.Shown.{Shown}

-- the lines of changes
same_changes : (vs : List Shown) (n : ℕ) (R Q T : Store) → ((x : String) → R.vec x ≡ Q.vec x) →
    change_lines vs (clock_at n R) T ≡ change_lines vs (clock_at n Q) T
same_changes [] n R Q T h = refl
same_changes (v ∷ vs) n R Q T h =
    ap (λ m. chosen (nat_eq (chosen (eqt "clk" v.name) n m) (T.vec v.name)) [] (value_line v T) ++ change_lines vs (clock_at n R) T)
    (h v.name)
    ∙ ap (λ t. chosen (nat_eq (chosen (eqt "clk" v.name) n (Q.vec v.name)) (T.vec v.name)) [] (value_line v T) ++ t)
    (same_changes vs n R Q T h)

-- an edge whose stores are those told, and what was found one whose vectors are
pub edge_told : {T E : Type 0} (r : Result T E) (vs : List Shown) (k : ℕ) (R Q B C S Z : Store) (t u : List ℕ) →
    OnOk r (u ≡ t ++ edge_text vs k R B S) → ((x : String) → R.vec x ≡ Q.vec x) → B ≡ C → S ≡ Z → OnOk r (u ≡ t ++ edge_text vs k Q C Z)
edge_told (Ok x) vs k R Q B C S Z t u e h f g =
    e
    ∙ ap (λ l. t ++ ((codes "#" ++ (decimal (10 * k + 5) ++ (codes "\n" ++ l)))
    ++ change_text vs (10 * k + 10) (clock_at 1 B) (clock_at 0 S))) (same_changes vs 0 R Q (clock_at 1 B) h)
    ∙ ap (λ V. t ++ edge_text vs k Q V S) f ∙ ap (λ V. t ++ edge_text vs k Q C V) g
edge_told (Err x) vs k R Q B C S Z t u e h f g = tt
