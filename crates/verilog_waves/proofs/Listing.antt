-- One more of the names that are shown.
use Rattle.std.proofs.Common.{◌≡◌, ◌∙◌, ◌<◌, ◌+◌, ℕ, suc, List, ◌∷◌, ◌++◌, map, drop, length, get_or, sym, ap, add-one}
use Prim.Native.String.{String}
use Rattle.verilog_tree.specs.Tree.{Item}
use Rattle.verilog_run.proofs.Noting.{drop_more}
use Rattle.verilog_waves.specs.Shown.{Shown, shown_in}

pub shown_more : {A : Type 0} (f : A → Item) (xs : List A) (i : ℕ) (x : A) (old new : List Shown) (p : String → ℕ) (n m : ℕ)
    (all : List Shown) → i < length xs → x ≡ get_or xs i x →
    ((is : List Item) → new ++ shown_in p m is ≡ old ++ shown_in p n (f x ∷ is)) →
    old ++ shown_in p n (map f (drop i xs)) ≡ all → new ++ shown_in p m (map f (drop (i + 1) xs)) ≡ all
shown_more f xs i x old new p n m all l e one h =
    ap (λ j. new ++ shown_in p m (map f (drop j xs))) (add-one i) ∙ one (map f (drop (suc i) xs))
    ∙ ap (λ ys. old ++ shown_in p n (map f ys)) (sym (drop_more xs i x l e)) ∙ h
