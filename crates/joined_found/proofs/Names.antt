-- The names of what is found are those of a kind of their own.
use Rattle.std.proofs.Common.{◌≡◌, ℕ, Bool, true, false, not, ◌&&◌, List, [], ◌∷◌, codes, refl, ap, ◌∙◌, nat_eq, arith}
use Rattle.std.proofs.lemmas.Bool.{and_from}
use Prim.Native.String.{String}
use lib.Text.{eqt}
use Rattle.verilog_tree.specs.Names.{text_of}
use Rattle.verilog_tree.proofs.Names.{codes_more}
use Rattle.verilog_tree.proofs.Own.{foreign}
use Rattle.joined_module.specs.Names.{found}
use Rattle.joined_module.specs.Fields.{Field}
use Rattle.joined_found.specs.Found.{no_found}

-- the first letters
abbrev pub begins_found : List ℕ → Bool
begins_found (a ∷ b ∷ c ∷ ns) = nat_eq a 102 && (nat_eq b 111 && nat_eq c 117)
begins_found ns = false

abbrev pub is_found : String → Bool
is_found x = begins_found (codes x)

found_codes : (y : String) → codes (found y) ≡ 102 ∷ 111 ∷ 117 ∷ codes (text_of (110 ∷ 100 ∷ 95 ∷ codes y))
found_codes y =
    codes_more 102 (111 ∷ 117 ∷ 110 ∷ 100 ∷ 95 ∷ codes y) (omega arith)
    ∙ ap (λ l. 102 ∷ l) (codes_more 111 (117 ∷ 110 ∷ 100 ∷ 95 ∷ codes y) (omega arith))
    ∙ ap (λ l. 102 ∷ 111 ∷ l) (codes_more 117 (110 ∷ 100 ∷ 95 ∷ codes y) (omega arith))

pub found_is : (y : String) → is_found (found y) ≡ true
found_is y = ap begins_found (found_codes y)

-- another name is none of them
pub not_found : (x : String) → is_found x ≡ false → (fs : List Field) → no_found fs x ≡ true
not_found x h [] = refl
not_found x h (f ∷ fs) =
    and_from (not (eqt (found f.title) x)) (no_found fs x) (ap not (foreign is_found (found f.title) x (found_is f.title) h))
    (not_found x h fs)
