-- Each word of one list is in another.
use Rattle.std.proofs.Common.{◌≡◌, ℕ, Bool, true, false, ◌&&◌, ◌||◌, List, [], ◌∷◌, codes, refl, subst}
use Rattle.std.proofs.lemmas.Bool.{and_parts}
use Rattle.std.proofs.lemmas.Float.{T_from_true}
use Prim.Native.String.{String}
use lib.Text.{eqt, eqt→eq}
use Rattle.verilog_tree.specs.WellFormed.{member, keywords}
use Rattle.verilog_names.specs.Name.{is_one_of, reserved}

-- each of these words is one of those
abbrev all_in : List String → List (List ℕ) → Bool
all_in [] ws = true
all_in (k ∷ ks) ws = is_one_of (codes k) ws && all_in ks ws

-- then a word that is among these is one of those
found : (x : String) (ks : List String) (ws : List (List ℕ)) → all_in ks ws ≡ true → member x ks ≡ true → is_one_of (codes x) ws ≡ true
found x [] ws h m = absurd (let n : ⊥ = cc in n)
found x (k ∷ ks) ws h m =
    let p = and_parts (is_one_of (codes k) ws) (all_in ks ws) h in
    first (eqt k x) refl m (found x ks ws p.1) p.0
  where
    first : (b : Bool) → eqt k x ≡ b → (b || member x ks) ≡ true → (member x ks ≡ true → is_one_of (codes x) ws ≡ true) →
        is_one_of (codes k) ws ≡ true → is_one_of (codes x) ws ≡ true
    first true e m other here = subst (λ y. is_one_of (codes y) ws ≡ true) (eqt→eq k x (T_from_true (eqt k x) e)) here
    first false e m other here = other m

-- the keywords are reserved
pub keywords_reserved : (x : String) → member x keywords ≡ true → is_one_of (codes x) reserved ≡ true
unfolding reserved
keywords_reserved x m = found x keywords reserved refl m
