-- Codes of values, types and terms: an injection of each into the trees of numbers that the logic stores, by which a struct's
-- `impl Model` can have them as its value. Each code has a reader that gives the tree back, so that no code needs a search.
use Rattle.std.specs.Prelude.{◌≡◌, ℕ, zero, suc, ◌==◌, cond, Option, Some, None}
use Rattle.std.proofs.Common.{refl, sym, ap, ◌∙◌}
use Rattle.std.specs.Coded.{Coded, code_by, coded_ℕ, coded_option, coded×}
use base.Stored.{Gv, gnil, gnum, gcons}
use Rattle.pcf_values.specs.declared.val.Val.{Val}
use Rattle.pcf_values.specs.declared.val.Val.TheVariants.{Number, Overflow}
use Rattle.pcf_values.specs.declared.operator.Operator.{Operator}
use Rattle.pcf_values.specs.declared.operator.Operator.TheVariants.{Plus, Minus, Times}
use Rattle.pcf_values.specs.Terms.{TyTree, nat, arrow, product, TermTree, num, var, succ_of, pred_of, binary}
use Rattle.pcf_values.specs.declared.side.Side.{Side}
use Rattle.pcf_values.specs.declared.side.Side.TheVariants.{Left, Right}
use Rattle.pcf_values.specs.Terms.{ifz, lam, fix, app, pair, proj}

abbrev pub val_parts : Val → Option ℕ
val_parts (Number n) = Some n
val_parts Overflow = None

abbrev pub parts_val : Option ℕ → Val
parts_val (Some n) = Number n
parts_val None = Overflow

pub val_back : (v : Val) → parts_val (val_parts v) ≡ v
val_back (Number n) = refl
val_back Overflow = refl

abbrev pub val_code : Coded Val
val_code = code_by (Option ℕ) (coded_option coded_ℕ) val_parts parts_val val_back

-- a type as a tree of numbers, and back
abbrev pub ty_cells : TyTree → Gv
ty_cells nat = gnil
ty_cells (arrow a b) = gcons (gnum zero) (gcons (ty_cells a) (ty_cells b))
ty_cells (product a b) = gcons (gnum (suc zero)) (gcons (ty_cells a) (ty_cells b))

abbrev pub cells_ty : Gv → TyTree
cells_ty gnil = nat
cells_ty (gnum n) = nat
cells_ty (gcons gnil b) = nat
cells_ty (gcons (gcons a b) c) = nat
cells_ty (gcons (gnum n) gnil) = nat
cells_ty (gcons (gnum n) (gnum m)) = nat
cells_ty (gcons (gnum zero) (gcons a b)) = arrow (cells_ty a) (cells_ty b)
cells_ty (gcons (gnum (suc n)) (gcons a b)) = product (cells_ty a) (cells_ty b)

pub ty_back : (t : TyTree) → cells_ty (ty_cells t) ≡ t
ty_back nat = refl
ty_back (arrow a b) = λ k. arrow (ty_back a k) (ty_back b k)
ty_back (product a b) = λ k. product (ty_back a k) (ty_back b k)

abbrev pub ty_code : Coded TyTree
ty_code = record { code = ty_cells; inj = λ s t h. sym (ty_back s) ∙ ap cells_ty h ∙ ty_back t }

-- an operator and a side as a number, and back
abbrev pub op_number : Operator → ℕ
op_number Plus = 0
op_number Minus = 1
op_number Times = 2

abbrev pub number_op : ℕ → Operator
number_op zero = Plus
number_op (suc zero) = Minus
number_op (suc (suc n)) = Times

pub op_back : (o : Operator) → number_op (op_number o) ≡ o
op_back Plus = refl
op_back Minus = refl
op_back Times = refl

abbrev pub side_number : Side → ℕ
side_number Left = 0
side_number Right = 1

abbrev pub number_side : ℕ → Side
number_side zero = Left
number_side (suc n) = Right

pub side_back : (s : Side) → number_side (side_number s) ≡ s
side_back Left = refl
side_back Right = refl

-- a node: which form it is, what it holds beside terms, and up to three terms
abbrev pub cell : ℕ → Gv → Gv → Gv → Gv → Gv
cell form held a b c = gcons (gnum form) (gcons held (gcons a (gcons b c)))

abbrev pub term_cells : TermTree → Gv
term_cells (num n) = cell 0 (gnum n) gnil gnil gnil
term_cells (var i) = cell 1 (gnum i) gnil gnil gnil
term_cells (succ_of a) = cell 2 gnil (term_cells a) gnil gnil
term_cells (pred_of a) = cell 3 gnil (term_cells a) gnil gnil
term_cells (binary o a b) = cell 4 (gnum (op_number o)) (term_cells a) (term_cells b) gnil
term_cells (ifz c p q) = cell 5 gnil (term_cells c) (term_cells p) (term_cells q)
term_cells (lam t m) = cell 6 (ty_cells t) (term_cells m) gnil gnil
term_cells (fix t m) = cell 7 (ty_cells t) (term_cells m) gnil gnil
term_cells (app f x) = cell 8 gnil (term_cells f) (term_cells x) gnil
term_cells (pair a b) = cell 9 gnil (term_cells a) (term_cells b) gnil
term_cells (proj s a) = cell 10 (gnum (side_number s)) (term_cells a) gnil gnil

abbrev pub number_in : Gv → ℕ
number_in gnil = zero
number_in (gnum n) = n
number_in (gcons a b) = zero

-- the node of a form, with what it holds and its terms
abbrev pub term_at : ℕ → Gv → TermTree → TermTree → TermTree → TermTree
term_at form held a b c =
    cond (form == 0) (num (number_in held)) (cond (form == 1) (var (number_in held))
    (cond (form == 2) (succ_of a) (cond (form == 3) (pred_of a)
    (cond (form == 4) (binary (number_op (number_in held)) a b) (cond (form == 5) (ifz a b c) (cond (form == 6) (lam (cells_ty held) a)
    (cond (form == 7) (fix (cells_ty held) a) (cond (form == 8) (app a b)
    (cond (form == 9) (pair a b) (proj (number_side (number_in held)) a))))))))))

abbrev pub cells_term : Gv → TermTree
cells_term gnil = num zero
cells_term (gnum n) = num zero
cells_term (gcons gnil x) = num zero
cells_term (gcons (gcons a b) x) = num zero
cells_term (gcons (gnum form) gnil) = num zero
cells_term (gcons (gnum form) (gnum n)) = num zero
cells_term (gcons (gnum form) (gcons held gnil)) = num zero
cells_term (gcons (gnum form) (gcons held (gnum n))) = num zero
cells_term (gcons (gnum form) (gcons held (gcons a gnil))) = num zero
cells_term (gcons (gnum form) (gcons held (gcons a (gnum n)))) = num zero
cells_term (gcons (gnum form) (gcons held (gcons a (gcons b c)))) = term_at form held (cells_term a) (cells_term b) (cells_term c)

pub term_back : (t : TermTree) → cells_term (term_cells t) ≡ t
term_back (num n) = refl
term_back (var i) = refl
term_back (succ_of a) = ap succ_of (term_back a)
term_back (pred_of a) = ap pred_of (term_back a)
term_back (binary o a b) = λ k. binary (op_back o k) (term_back a k) (term_back b k)
term_back (ifz c p q) = λ k. ifz (term_back c k) (term_back p k) (term_back q k)
term_back (lam t m) = λ k. lam (ty_back t k) (term_back m k)
term_back (fix t m) = λ k. fix (ty_back t k) (term_back m k)
term_back (app f x) = λ k. app (term_back f k) (term_back x k)
term_back (pair a b) = λ k. pair (term_back a k) (term_back b k)
term_back (proj s a) = λ k. proj (side_back s k) (term_back a k)

abbrev pub term_code : Coded TermTree
term_code = record { code = term_cells; inj = λ s t h. sym (term_back s) ∙ ap cells_term h ∙ term_back t }

abbrev pub typed_code : Coded (TermTree × TyTree)
typed_code = coded× term_code ty_code
