-- Two names of the code are the same bytes exactly when they are the same text.
use Rattle.std.proofs.Common.{◌≡◌, ◌<◌, ℕ, suc, Bool, true, false, List, [], ◌∷◌, get_or, codes, refl, ap, subst, sym, ◌∙◌, arith}
use Rattle.std.proofs.lemmas.Slice.Eq.{bytes_eq-Decides}
use Rattle.std.specs.Str.{bytes_eq}
use lib.Dec.{T}
use lib.Text.{eqt, eqt→eq, eqt_refl}
use Rattle.verilog_tree.specs.Names.{text_of}
use Rattle.verilog_tree.proofs.Names.{codes_more}

-- the text of bytes has them
pub codes_text : (bs : List ℕ) → ((i : ℕ) → get_or bs i 0 < 256) → codes (text_of bs) ≡ bs
codes_text [] h = refl
codes_text (b ∷ bs) h =
    let small : b < 256 = h 0 in
    codes_more b bs (omega arith) ∙ ap (λ l. b ∷ l) (codes_text bs (λ i. h (suc i)))

-- a truth is `true`, and back
pub true_of : (b : Bool) → T b → b ≡ true
true_of true t = refl
true_of false t = absurd t

pub holds_of : (b : Bool) → b ≡ true → T b
holds_of true e = tt
holds_of false e = let n : ⊥ = cc in absurd n

-- two names are one
pub names_same : (xs ys : List ℕ) → ((i : ℕ) → get_or xs i 0 < 256) → ((i : ℕ) → get_or ys i 0 < 256) →
    bytes_eq xs ys ≡ eqt (text_of xs) (text_of ys)
names_same xs ys hx hy = go (bytes_eq xs ys) refl (eqt (text_of xs) (text_of ys)) refl
  where
    there : bytes_eq xs ys ≡ true → eqt (text_of xs) (text_of ys) ≡ true
    there e =
        true_of _ (subst (λ zs. T (eqt (text_of xs) (text_of zs))) ((bytes_eq-Decides xs ys).0 e) (eqt_refl (text_of xs)))

    back : eqt (text_of xs) (text_of ys) ≡ true → bytes_eq xs ys ≡ true
    back e =
        (bytes_eq-Decides xs ys).1
        (sym (codes_text xs hx) ∙ ap codes (eqt→eq (text_of xs) (text_of ys) (holds_of _ e)) ∙ codes_text ys hy)

    go : (p : Bool) → bytes_eq xs ys ≡ p → (q : Bool) → eqt (text_of xs) (text_of ys) ≡ q → p ≡ q
    go true e q f = sym (there e) ∙ f
    go false e true f = sym e ∙ back f
    go false e false f = refl
