-- The call-by-value meaning of a term, by substitution and with a bound on the depth, beside the call-by-name meaning of `cbn_meaning`.
-- It differs in two rows. An argument is evaluated before it is put for the variable, and a term that stands for its result is put in
-- its place, so that nothing but terms is ever substituted. And a `fix` of a `fun` is at once that `fun`, with the `fix` put for its own
-- variable: nothing is evaluated there. Any other `fix`, and pairs, have no meaning by value.
use Rattle.std.specs.Prelude.{◌≡◌, ℕ, zero, suc, Option, Some, None}
use Rattle.pcf_values.specs.declared.val.Val.{Val}
use Rattle.pcf_values.specs.declared.val.Val.TheVariants.{Number, Overflow}
use Rattle.pcf_values.specs.Values.{val_succ, val_pred, val_op, at_zero}
use Rattle.pcf_values.specs.Terms.{TermTree, num, var, succ_of, pred_of, binary, ifz, lam, fix, app, pair, proj}
use Rattle.cbn_meaning.specs.Substitution.{subst_at}
use Rattle.cbn_meaning.specs.Meaning.{Res, value, closure, paired, on_value, on_closure}

-- a term that stands for a value: there is no literal past the greatest number, so that its successor stands for `overflow`
abbrev pub quote_val : Val → TermTree
quote_val (Number n) = num n
quote_val Overflow = succ_of (num 18446744073709551615)

-- a term that stands for a result: a `fun` stands for itself
abbrev pub quote : Res → TermTree
quote (value v) = quote_val v
quote (closure a m) = lam a m
quote (paired m n) = pair m n

-- go on with the result, and with none where there is none
abbrev pub on_result : Option Res → (Res → Option Res) → Option Res
on_result None f = None
on_result (Some w) f = f w

-- what the term comes to by value within this depth, or none
abbrev pub eval_by_value : ℕ → TermTree → Option Res
eval_by_value zero m = None
eval_by_value (suc d) (num n) = Some (value (Number n))
eval_by_value (suc d) (var i) = None
eval_by_value (suc d) (succ_of a) = on_value (eval_by_value d a) (λ v. Some (value (val_succ v)))
eval_by_value (suc d) (pred_of a) = on_value (eval_by_value d a) (λ v. Some (value (val_pred v)))
eval_by_value (suc d) (binary o a b) = on_value (eval_by_value d a) (λ v. on_value (eval_by_value d b) (λ w. Some (value (val_op o v w))))
eval_by_value (suc d) (ifz c p q) = on_value (eval_by_value d c) (λ v. eval_by_value d (at_zero v p q))
eval_by_value (suc d) (lam a m) = Some (closure a m)
eval_by_value (suc d) (fix a (lam b m)) = Some (closure b (subst_at m 1 (fix a (lam b m))))
eval_by_value (suc d) (fix a _) = None
eval_by_value (suc d) (app f x) =
    on_closure (eval_by_value d f) (λ m. on_result (eval_by_value d x) (λ w. eval_by_value d (subst_at m zero (quote w))))
eval_by_value (suc d) (pair m n) = None
eval_by_value (suc d) (proj s a) = None

-- the term has this value, by value
abbrev pub MeansByValue : TermTree → Val → Type 0
MeansByValue m v = (d : ℕ) × (eval_by_value d m ≡ Some (value v))
