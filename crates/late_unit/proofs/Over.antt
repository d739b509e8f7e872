-- A scope that has what is declared is the same scope with these declarations in front; and there each name's width is computed.
use Rattle.std.proofs.Common.{◌≡◌, ℕ, Bool, true, false, List, [], ◌∷◌, refl, ap, sym, ◌∙◌}
use Rattle.std.proofs.Math.Path.{fun_ext}
use Prim.Native.String.{String}
use lib.Text.{eqt}
use Rattle.verilog_tree.specs.Tree.{Item, size, constant, input, output, reg, memory, wire}
use Rattle.verilog_tree.specs.Meaning.{Scope, chosen, amount, width_of}
use Rattle.verilog_tree.proofs.Own.{one_name}
use Rattle.late_unit.specs.Works.{Declared}

abbrev pub width_over : (String → ℕ) → List Item → (String → ℕ) → String → ℕ
width_over p [] f x = f x
width_over p (size y n ∷ is) f x = chosen (eqt y x) 32 (width_over p is f x)
width_over p (constant w y n ∷ is) f x = chosen (eqt y x) (width_of p w) (width_over p is f x)
width_over p (input w y ∷ is) f x = chosen (eqt y x) (width_of p w) (width_over p is f x)
width_over p (output w y ∷ is) f x = chosen (eqt y x) (width_of p w) (width_over p is f x)
width_over p (reg w y ∷ is) f x = chosen (eqt y x) (width_of p w) (width_over p is f x)
width_over p (memory w y k ∷ is) f x = chosen (eqt y x) (width_of p w) (width_over p is f x)
width_over p (wire w y e ∷ is) f x = chosen (eqt y x) (width_of p w) (width_over p is f x)
width_over p (i ∷ is) f x = width_over p is f x

abbrev pub words_over : (String → ℕ) → List Item → (String → ℕ) → String → ℕ
words_over p [] f x = f x
words_over p (memory w y k ∷ is) f x = chosen (eqt y x) (amount p k) (words_over p is f x)
words_over p (i ∷ is) f x = words_over p is f x

abbrev pub param_over : List Item → (String → ℕ) → String → ℕ
param_over [] f x = f x
param_over (size y n ∷ is) f x = chosen (eqt y x) n (param_over is f x)
param_over (constant w y n ∷ is) f x = chosen (eqt y x) n (param_over is f x)
param_over (i ∷ is) f x = param_over is f x

abbrev pub over : List Item → Scope → Scope
over is P = record {
  width = width_over P.param is P.width;
  words = words_over P.param is P.words;
  param = param_over is P.param;
}

-- a number in front that the function has
in_front : (f : String → ℕ) (y x : String) (n m : ℕ) → f y ≡ n → m ≡ f x → chosen (eqt y x) n m ≡ f x
in_front f y x n m e h = go (eqt y x) refl
  where
    go : (b : Bool) → eqt y x ≡ b → chosen b n m ≡ f x
    go true g = sym e ∙ ap f (one_name y x g)
    go false g = h

width_is : (P : Scope) (is : List Item) → Declared P is → (x : String) → width_over P.param is P.width x ≡ P.width x
width_is P [] d x = refl
width_is P (size y n ∷ is) d x = in_front P.width y x 32 _ d.0.0 (width_is P is d.1 x)
width_is P (constant w y n ∷ is) d x = in_front P.width y x _ _ d.0.0 (width_is P is d.1 x)
width_is P (input w y ∷ is) d x = in_front P.width y x _ _ d.0 (width_is P is d.1 x)
width_is P (output w y ∷ is) d x = in_front P.width y x _ _ d.0 (width_is P is d.1 x)
width_is P (reg w y ∷ is) d x = in_front P.width y x _ _ d.0 (width_is P is d.1 x)
width_is P (memory w y k ∷ is) d x = in_front P.width y x _ _ d.0.0 (width_is P is d.1 x)
width_is P (wire w y e ∷ is) d x = in_front P.width y x _ _ d.0 (width_is P is d.1 x)
width_is P (i ∷ is) d x = width_is P is d x

words_is : (P : Scope) (is : List Item) → Declared P is → (x : String) → words_over P.param is P.words x ≡ P.words x
words_is P [] d x = refl
words_is P (size y n ∷ is) d x = words_is P is d.1 x
words_is P (constant w y n ∷ is) d x = words_is P is d.1 x
words_is P (input w y ∷ is) d x = words_is P is d.1 x
words_is P (output w y ∷ is) d x = words_is P is d.1 x
words_is P (reg w y ∷ is) d x = words_is P is d.1 x
words_is P (memory w y k ∷ is) d x = in_front P.words y x _ _ d.0.1 (words_is P is d.1 x)
words_is P (wire w y e ∷ is) d x = words_is P is d.1 x
words_is P (i ∷ is) d x = words_is P is d x

param_is : (P : Scope) (is : List Item) → Declared P is → (x : String) → param_over is P.param x ≡ P.param x
param_is P [] d x = refl
param_is P (size y n ∷ is) d x = in_front P.param y x n _ d.0.1 (param_is P is d.1 x)
param_is P (constant w y n ∷ is) d x = in_front P.param y x n _ d.0.1 (param_is P is d.1 x)
param_is P (input w y ∷ is) d x = param_is P is d.1 x
param_is P (output w y ∷ is) d x = param_is P is d.1 x
param_is P (reg w y ∷ is) d x = param_is P is d.1 x
param_is P (memory w y k ∷ is) d x = param_is P is d.1 x
param_is P (wire w y e ∷ is) d x = param_is P is d.1 x
param_is P (i ∷ is) d x = param_is P is d x

pub over_is : (P : Scope) (is : List Item) → Declared P is → over is P ≡ P
over_is P is d =
    let w : width_over P.param is P.width ≡ P.width = fun_ext (width_is P is d) in
    let k : words_over P.param is P.words ≡ P.words = fun_ext (words_is P is d) in
    let p : param_over is P.param ≡ P.param = fun_ext (param_is P is d) in
    λ i. record { width = w i; words = k i; param = p i }
