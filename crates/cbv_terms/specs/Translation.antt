-- The translation of call by value into call by name, by continuations (Plotkin, "Call-by-name, call-by-value and the lambda-calculus",
-- 1975; the rules for numbers, operators, `ifz` and `fix` are its usual extension).
-- The translation of a term takes a continuation k, which says what is to be done with the term's result, and hands it the result once
-- the term has one. So it has the type (C' -> nat) -> nat, where C' is the type of what stands for a result of the term's type C.
-- Terms have indexes in place of names. A map says at which index each variable of the term stands in the translated one: a new binder
-- only makes the map's numbers larger, nothing that is translated has to be moved, and no name can be captured.
-- Forms that have no translation have the number 0 in its place, which is never looked at.
use Rattle.std.specs.Prelude.{ℕ, zero, suc, Bool, true, false, ◌||◌, List, [], ◌∷◌}
use Rattle.pcf_values.specs.Terms.{TyTree, nat, arrow, product, TermTree, num, var, succ_of, pred_of, binary, ifz, lam, fix, app, pair}
use Rattle.pcf_values.specs.Terms.{proj}

-- whether a part of the type is a product
abbrev pub has_product : TyTree → Bool
has_product nat = false
has_product (arrow a b) = has_product a || has_product b
has_product (product a b) = true

-- the type of variable i, where the context lists the types of the variables; there is none past the context, and nat stands there
abbrev pub type_at : List TyTree → ℕ → TyTree
type_at [] i = nat
type_at (a ∷ g) zero = a
type_at (a ∷ g) (suc i) = type_at g i

-- what a function of the type takes and gives; of a type that is no function's, nat
abbrev pub argument_type : TyTree → TyTree
argument_type (arrow a b) = a
argument_type _ = nat

abbrev pub result_type : TyTree → TyTree
result_type (arrow a b) = b
result_type _ = nat

-- the type of a term that has a translation and a type in the context
abbrev pub type_in : List TyTree → TermTree → TyTree
type_in g (num n) = nat
type_in g (var i) = type_at g i
type_in g (succ_of a) = nat
type_in g (pred_of a) = nat
type_in g (binary o a b) = nat
type_in g (ifz c p q) = nat
type_in g (lam a m) = arrow a (type_in (a ∷ g) m)
type_in g (fix a m) = a
type_in g (app f x) = result_type (type_in g f)
type_in g (pair m n) = nat
type_in g (proj s a) = nat

-- C', the type of what stands for a result of type C: nat' is nat, and (A -> B)' is A' -> (B' -> nat) -> nat
abbrev pub value_type : TyTree → TyTree
value_type nat = nat
value_type (arrow a b) = arrow (value_type a) (arrow (arrow (value_type b) nat) nat)
value_type (product a b) = product (value_type a) (value_type b)

-- C' -> nat, the type of a continuation that takes a result of type C
abbrev pub continuation_type : TyTree → TyTree
continuation_type a = arrow (value_type a) nat

-- the map inside one more binder of the translated term alone
abbrev pub beside : (ℕ → ℕ) → ℕ → ℕ
beside e i = suc (e i)

-- the map inside one more binder of both terms, whose variable is the nearest one in each
abbrev pub under : (ℕ → ℕ) → ℕ → ℕ
under e zero = zero
under e (suc i) = suc (e i)

-- the translation of a term in a context, by a map
-- With names it reads as follows, where k, m, n, g and x are new in each line:
--   a number or variable M     fun k. k M
--   fun x:A. M                 fun k. k (fun x:A'. cps(M))
--   fix f:A. fun x:B. M        fun k. k (fix f:A'. fun x:B'. cps(M))
--   succ a, pred a             fun k. cps(a) (fun m:nat. k (succ m)), and with pred
--   a + b, a - b, a * b        fun k. cps(a) (fun m:nat. cps(b) (fun n:nat. k (m + n))), and with - and *
--   ifz c then p else q        fun k. cps(c) (fun m:nat. ifz m then cps(p) k else cps(q) k)
--   f a, f of type A -> B      fun k. cps(f) (fun g:(A -> B)'. cps(a) (fun x:A'. g x k))
abbrev pub cps : List TyTree → (ℕ → ℕ) → TermTree → TermTree
cps g e (num n) = lam (continuation_type nat) (app (var 0) (num n))
cps g e (var i) = lam (continuation_type (type_at g i)) (app (var 0) (var (suc (e i))))
cps g e (lam a m) = lam (continuation_type (type_in g (lam a m))) (app (var 0) (lam (value_type a) (cps (a ∷ g) (under (beside e)) m)))
cps g e (fix a (lam b m)) =
    lam (continuation_type a) (app (var 0) (fix (value_type a) (lam (value_type b) (cps (b ∷ a ∷ g) (under (under (beside e))) m))))
cps g e (fix a _) = num 0
cps g e (succ_of a) = lam (continuation_type nat) (app (cps g (beside e) a) (lam nat (app (var 1) (succ_of (var 0)))))
cps g e (pred_of a) = lam (continuation_type nat) (app (cps g (beside e) a) (lam nat (app (var 1) (pred_of (var 0)))))
cps g e (binary o a b) =
    lam (continuation_type nat)
    (app (cps g (beside e) a) (lam nat (app (cps g (beside (beside e)) b) (lam nat (app (var 2) (binary o (var 1) (var 0)))))))
cps g e (ifz c p q) =
    lam (continuation_type nat)
    (app (cps g (beside e) c)
    (lam nat (ifz (var 0) (app (cps g (beside (beside e)) p) (var 1)) (app (cps g (beside (beside e)) q) (var 1)))))
cps g e (app f x) =
    lam (continuation_type (result_type (type_in g f)))
    (app (cps g (beside e) f)
    (lam (value_type (type_in g f))
    (app (cps g (beside (beside e)) x) (lam (value_type (argument_type (type_in g f))) (app (app (var 1) (var 0)) (var 2))))))
cps g e (pair m n) = num 0
cps g e (proj s a) = num 0

-- the program that stands for a program of type nat: its translation, which is handed the continuation that gives back its number
abbrev pub translated : TermTree → TermTree
translated m = app (cps [] (λ i. i) m) (lam nat (var 0))
