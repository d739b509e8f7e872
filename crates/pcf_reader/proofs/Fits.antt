-- What is printed is no deeper and no higher than what was read.
use Rattle.std.proofs.Common.{◌≡◌, ℕ, suc, ◌<◌, ◌≤◌, Bool, true, false, List, [], ◌∷◌, ◌++◌, nat_le}
use Rattle.std.proofs.Common.{if◌then◌else◌, refl, sym, subst, arith}
use Rattle.std.proofs.lemmas.Bool.{leb-true, le-leb}
use Rattle.pcf_values.specs.Most.{most_open}
use Rattle.pcf_values.specs.declared.operator.Operator.{Operator}
use Rattle.pcf_values.specs.Terms.{TyTree, nat, arrow, product}
use Rattle.pcf_values.specs.Named.{NamedTree, number_at, name_at, word_at, binary_at, pair_at, ifz_at, bind_at, apply_at}
use Rattle.pcf_reader.specs.Tokens.{Close, Dot, Comma, Sign, Arrow, Then, Else, star}
use Rattle.pcf_reader.specs.Grammar.{Type_, only_ptype, arrow_type, PType, only_tatom, times_type, TAtom, nat_type, paren_type, Expr}
use Rattle.pcf_reader.specs.Grammar.{binding, choice, only_sum, Sum, only_product, summed, Product, only_app, multiplied, App, only_atom}
use Rattle.pcf_reader.specs.Grammar.{applied, Atom, numeral, variable, parens, pairing, prefixed, type_ty, ptype_ty, tatom_ty, Part}
use Rattle.pcf_reader.specs.Grammar.{binary, expr_part, sum_part, product_part, app_part_of, atom_part, Written, plain, marked, type_text}
use Rattle.pcf_reader.specs.Grammar.{ptype_text}
use Rattle.pcf_reader.specs.Grammar.{tatom_text, expr_text, sum_text, product_text, app_text, atom_text}
use Rattle.pcf_reader.specs.Printed.{ty_level, op_level, right_level, level}
use Rattle.pcf_reader.specs.Text.{IsShallow, Each}
use Rattle.pcf_reader.proofs.Lists.{each_left, each_right}
use Rattle.pcf_reader.proofs.Shown.{pick, fit_height, fit_shallow, ty_shallow, own_height, own_shallow}
use Rattle.pcf_reader.proofs.Bounds.{first_left}
use Rattle.pcf_reader.proofs.Levels.{sum_level, sum_right, product_level, product_right}

-- what is shallow below more open phrases is shallow below fewer
fewer_by : (b : Bool) (S : ℕ → Type 0) (o : ℕ) → ((p : ℕ) → S (suc p) → S p) →
    pick b (S (suc o)) ((suc o < most_open) × S (suc (suc o))) → pick b (S o) ((o < most_open) × S (suc o))
fewer_by true S o mono h = mono o h
fewer_by false S o mono h = (omega (arith, h.0), mono (suc o) h.1)

-- what fits with one phrase more open fits
ty_fewer : (t : TyTree) (o : ℕ) → ty_shallow t (suc o) → ty_shallow t o
ty_fewer nat o h = tt
ty_fewer (arrow a b) o h = (
  fewer_by (nat_le (ty_level a) 1) (λ p. ty_shallow a p) o (λ p. ty_fewer a p) h.0,
  omega (arith, h.1),
  ty_fewer b (suc o) h.2,
)
ty_fewer (product a b) o h = (
  fewer_by (nat_le (ty_level a) 0) (λ p. ty_shallow a p) o (λ p. ty_fewer a p) h.0,
  omega (arith, h.1),
  fewer_by (nat_le (ty_level b) 1) (λ p. ty_shallow b p) (suc o) (λ p. ty_fewer b p) h.2,
)

-- a term that fits with one phrase more open fits
own_fewer : (t : NamedTree) (o : ℕ) → own_shallow t (suc o) → own_shallow t o
own_fewer (number_at i n) o h = tt
own_fewer (name_at i x) o h = tt
own_fewer (word_at i w a) o h =
    (omega (arith, h.0), fewer_by (nat_le (level a) 0) (λ p. own_shallow a p) (suc o) (λ p. own_fewer a p) h.1)
own_fewer (binary_at i op a b) o h = (
  fewer_by (nat_le (level a) (op_level op)) (λ p. own_shallow a p) o (λ p. own_fewer a p) h.0,
  h.1,
  fewer_by (nat_le (level b) (right_level op)) (λ p. own_shallow b p) o (λ p. own_fewer b p) h.2,
)
own_fewer (pair_at i a b) o h = (omega (arith, h.0), own_fewer a (suc o) h.1, own_fewer b (suc o) h.2)
own_fewer (ifz_at i c p q) o h = (omega (arith, h.0), own_fewer c (suc o) h.1, own_fewer p (suc o) h.2, own_fewer q (suc o) h.3)
own_fewer (bind_at i b x t m) o h = (omega (arith, h.0), ty_fewer t (suc o) h.1, own_fewer m (suc o) h.2)
own_fewer (apply_at i f a) o h = (
  fewer_by (nat_le (level f) 1) (λ p. own_shallow f p) o (λ p. own_fewer f p) h.0,
  h.1,
  fewer_by (nat_le (level a) 0) (λ p. own_shallow a p) o (λ p. own_fewer a p) h.2,
)

-- what fits a level fits each higher one
wider : (l m n : ℕ) → m ≤ n → nat_le l m ≡ true → nat_le l n ≡ true
wider l m n le h = let low : l ≤ m = leb-true l m h in le-leb l n (omega (arith, low, le))

-- and so does a part where more levels may stand bare
loose_shallow : (b c : Bool) (S : ℕ → Type 0) (o : ℕ) → (b ≡ true → c ≡ true) → ((p : ℕ) → S (suc p) → S p) →
    pick b (S o) ((o < most_open) × S (suc o)) → pick c (S o) ((o < most_open) × S (suc o))
loose_shallow true true S o imp mono h = h
loose_shallow true false S o imp mono h = let e : false ≡ true = imp refl in let z : ⊥ = cc in absurd z
loose_shallow false true S o imp mono h = mono o h.1
loose_shallow false false S o imp mono h = h

loose_height : (b c : Bool) (h most : ℕ) → (b ≡ true → c ≡ true) → (if b then h else suc h) ≤ most →
    (if c then h else suc h) ≤ most
loose_height true true h most imp le = le
loose_height true false h most imp le = let e : false ≡ true = imp refl in let z : ⊥ = cc in absurd z
loose_height false true h most imp le = omega (arith, le)
loose_height false false h most imp le = le

-- a part on a level, as deep and as high as it is printed there
abbrev pub Fits : ℕ → NamedTree → ℕ → ℕ → Type 0
Fits most t o high = fit_shallow most (level t) (λ p. own_shallow t p) o × (fit_height most (level t) (own_height t) ≤ high)

-- the tree fits by itself, and is no higher than this
abbrev pub Owns : NamedTree → ℕ → ℕ → Type 0
Owns t o high = own_shallow t o × (own_height t ≤ high)

-- what fits a level fits a looser one
loosened : (m n : ℕ) (t : NamedTree) (o high : ℕ) → m ≤ n → Fits m t o high → Fits n t o high
loosened m n t o high le h = (
  loose_shallow (nat_le (level t) m) (nat_le (level t) n) (λ p. own_shallow t p) o (wider (level t) m n le) (λ p. own_fewer t p) h.0,
  loose_height (nat_le (level t) m) (nat_le (level t) n) (own_height t) high (wider (level t) m n le) h.1,
)

-- what fits bare or in parentheses fits by itself
own_from : (b : Bool) (t : NamedTree) (o high : ℕ) → pick b (own_shallow t o) ((o < most_open) × own_shallow t (suc o)) →
    (if b then own_height t else suc (own_height t)) ≤ high → Owns t o high
own_from true t o high h le = (h, le)
own_from false t o high h le = (own_fewer t o h.1, omega (arith, le))

-- and the other way, where one phrase more can be opened
from_own : (b : Bool) (t : NamedTree) (o high : ℕ) → o < most_open → Owns t (suc o) high →
    pick b (own_shallow t o) ((o < most_open) × own_shallow t (suc o)) × ((if b then own_height t else suc (own_height t)) ≤ suc high)
from_own true t o high lt h = (own_fewer t o h.0, omega (arith, h.1))
from_own false t o high lt h = ((lt, h.0), omega (arith, h.1))

-- what fits by itself fits a level that is no lower than its own
owned : (m : ℕ) (t : NamedTree) (o high : ℕ) → level t ≤ m → Owns t o high → Fits m t o high
owned m t o high le h =
    let e : nat_le (level t) m ≡ true = le-leb (level t) m le in (
      subst (λ b. pick b (own_shallow t o) ((o < most_open) × own_shallow t (suc o))) (sym e) h.0,
      subst (λ b. (if b then own_height t else suc (own_height t)) ≤ high) (sym e) h.1,
    )

-- an operator between operands that fit its levels, the left one within the limit, fits its own level
operated_fits : (m l : ℕ) (op : Operator) (a b : Part) (o : ℕ) → op_level op ≡ m → right_level op ≡ l → Fits m a.tree o a.height →
    a.height < most_open → Fits l b.tree o b.height → Fits m (binary op a b).tree o (binary op a b).height
operated_fits m l op a b o at_m at_l first low second =
    let left : Fits (op_level op) a.tree o a.height = subst (λ n. Fits n a.tree o a.height) (sym at_m) first in
    let right : Fits (right_level op) b.tree o b.height = subst (λ n. Fits n b.tree o b.height) (sym at_l) second in
    owned m (binary op a b).tree o (binary op a b).height (omega (arith, at_m))
    ((left.0, omega (arith, left.1, low), right.0), omega (arith, left.1, right.1))

-- the same of types
ty_loosened : (m n : ℕ) (t : TyTree) (o : ℕ) → m ≤ n → fit_shallow m (ty_level t) (λ p. ty_shallow t p) o →
    fit_shallow n (ty_level t) (λ p. ty_shallow t p) o
ty_loosened m n t o le h = loose_shallow (nat_le (ty_level t) m) (nat_le (ty_level t) n) (λ p. ty_shallow t p) o
    (wider (ty_level t) m n le) (λ p. ty_fewer t p) h

ty_own_from : (b : Bool) (t : TyTree) (o : ℕ) → pick b (ty_shallow t o) ((o < most_open) × ty_shallow t (suc o)) → ty_shallow t o
ty_own_from true t o h = h
ty_own_from false t o h = ty_fewer t o h.1

ty_from_own : (b : Bool) (t : TyTree) (o : ℕ) → o < most_open → ty_shallow t (suc o) →
    pick b (ty_shallow t o) ((o < most_open) × ty_shallow t (suc o))
ty_from_own true t o lt h = ty_fewer t o h
ty_from_own false t o lt h = (lt, h)

-- a type that is written within the limits, printed as its tree is printed, is within them
mutual
  ty_fits : (o : ℕ) (t : Type_) → Each IsShallow (type_text o t) → ty_shallow (type_ty t) o
  ty_fits o (only_ptype p) h = ty_own_from (nat_le (ty_level (ptype_ty p)) 1) (ptype_ty p) o (ptype_fits o p h)
  ty_fits o (arrow_type p at t) h =
      let more : Each IsShallow (marked at Arrow o 0 ∷ type_text (suc o) t) =
      each_right IsShallow (ptype_text o p) (marked at Arrow o 0 ∷ type_text (suc o) t) h in (
        ptype_fits o p (each_left IsShallow (ptype_text o p) (marked at Arrow o 0 ∷ type_text (suc o) t) h),
        more.0,
        ty_fits (suc o) t more.1,
      )

  ptype_fits : (o : ℕ) (p : PType) → Each IsShallow (ptype_text o p) →
      fit_shallow 1 (ty_level (ptype_ty p)) (λ i. ty_shallow (ptype_ty p) i) o
  ptype_fits o (only_tatom a) h = ty_loosened 0 1 (tatom_ty a) o (omega arith) (tatom_fits o a h)
  ptype_fits o (times_type a at p) h =
      let more : Each IsShallow (marked at star o 0 ∷ ptype_text (suc o) p) =
      each_right IsShallow (tatom_text o a) (marked at star o 0 ∷ ptype_text (suc o) p) h in (
        tatom_fits o a (each_left IsShallow (tatom_text o a) (marked at star o 0 ∷ ptype_text (suc o) p) h),
        more.0,
        ptype_fits (suc o) p more.1,
      )

  tatom_fits : (o : ℕ) (a : TAtom) → Each IsShallow (tatom_text o a) →
      fit_shallow 0 (ty_level (tatom_ty a)) (λ i. ty_shallow (tatom_ty a) i) o
  tatom_fits o (nat_type at) h = tt
  tatom_fits o (paren_type at t close) h =
      ty_from_own (nat_le (ty_level (type_ty t)) 0) (type_ty t) o h.0
      (ty_fits (suc o) t (each_left IsShallow (type_text (suc o) t) (plain close Close ∷ []) h.1))

-- and so is a term, and no higher
mutual
  pub expr_fits : (o : ℕ) (e : Expr) → Each IsShallow (expr_text o e) → Owns (expr_part e).tree o (expr_part e).height
  expr_fits o (binding at b xat x colon t dot e) h =
      let types : Each IsShallow (type_text (suc o) t ++ plain dot Dot ∷ expr_text (suc o) e) = h.1.1.1 in
      let inner : Owns (expr_part e).tree (suc o) (expr_part e).height =
      expr_fits (suc o) e (each_right IsShallow (type_text (suc o) t) (plain dot Dot ∷ expr_text (suc o) e) types).1 in (
        (h.0, ty_fits (suc o) t (each_left IsShallow (type_text (suc o) t) (plain dot Dot ∷ expr_text (suc o) e) types), inner.0),
        omega (arith, inner.1),
      )
  expr_fits o (choice at c i p j q) h =
      let third : List Written = plain j Else ∷ expr_text (suc o) q in
      let second : List Written = plain i Then ∷ (expr_text (suc o) p ++ third) in
      let behind : Each IsShallow (expr_text (suc o) p ++ third) = (each_right IsShallow (expr_text (suc o) c) second h.1).1 in
      let a : Owns (expr_part c).tree (suc o) (expr_part c).height =
      expr_fits (suc o) c (each_left IsShallow (expr_text (suc o) c) second h.1) in
      let b : Owns (expr_part p).tree (suc o) (expr_part p).height =
      expr_fits (suc o) p (each_left IsShallow (expr_text (suc o) p) third behind) in
      let d : Owns (expr_part q).tree (suc o) (expr_part q).height =
      expr_fits (suc o) q (each_right IsShallow (expr_text (suc o) p) third behind).1 in
      ((h.0, a.0, b.0, d.0), omega (arith, a.1, b.1, d.1))
  expr_fits o (only_sum s) h = let f : Fits 3 (sum_part s).tree o (sum_part s).height = sum_fits o s h in
      own_from (nat_le (level (sum_part s).tree) 3) (sum_part s).tree o (sum_part s).height f.0 f.1

  pub sum_fits : (o : ℕ) (s : Sum) → Each IsShallow (sum_text o s) → Fits 3 (sum_part s).tree o (sum_part s).height
  sum_fits o (only_product p) h = loosened 2 3 (product_part p).tree o (product_part p).height (omega arith) (product_fits o p h)
  sum_fits o (summed s at op is p) h =
      let more : Each IsShallow (marked at (Sign op) (sum_part s).height 1 ∷ product_text o p) =
      each_right IsShallow (sum_text o s) (marked at (Sign op) (sum_part s).height 1 ∷ product_text o p) h in
      let a : Fits 3 (sum_part s).tree o (sum_part s).height =
      sum_fits o s (each_left IsShallow (sum_text o s) (marked at (Sign op) (sum_part s).height 1 ∷ product_text o p) h) in
      operated_fits 3 2 op (sum_part s) (product_part p) o (sum_level op is) (sum_right op is) a more.0 (product_fits o p more.1)

  pub product_fits : (o : ℕ) (p : Product) → Each IsShallow (product_text o p) →
      Fits 2 (product_part p).tree o (product_part p).height
  product_fits o (only_app f) h = loosened 1 2 (app_part_of f).tree o (app_part_of f).height (omega arith) (app_fits o f h)
  product_fits o (multiplied m at op is f) h =
      let more : Each IsShallow (marked at (Sign op) (product_part m).height 1 ∷ app_text o f) =
      each_right IsShallow (product_text o m) (marked at (Sign op) (product_part m).height 1 ∷ app_text o f) h in
      let a : Fits 2 (product_part m).tree o (product_part m).height =
      product_fits o m (each_left IsShallow (product_text o m) (marked at (Sign op) (product_part m).height 1 ∷ app_text o f) h) in
      operated_fits 2 1 op (product_part m) (app_part_of f) o (product_level op is) (product_right op is) a more.0 (app_fits o f more.1)

  pub app_fits : (o : ℕ) (f : App) → Each IsShallow (app_text o f) → Fits 1 (app_part_of f).tree o (app_part_of f).height
  app_fits o (only_atom a) h = loosened 0 1 (atom_part a).tree o (atom_part a).height (omega arith) (atom_fits o 0 0 a h)
  app_fits o (applied f x) h =
      let more : Each IsShallow (atom_text o (app_part_of f).height 1 x) =
      each_right IsShallow (app_text o f) (atom_text o (app_part_of f).height 1 x) h in
      let a : Fits 1 (app_part_of f).tree o (app_part_of f).height =
      app_fits o f (each_left IsShallow (app_text o f) (atom_text o (app_part_of f).height 1 x) h) in
      let b : Fits 0 (atom_part x).tree o (atom_part x).height = atom_fits o (app_part_of f).height 1 x more in
      let low : (app_part_of f).height < most_open = first_left o (app_part_of f).height 1 x more in
      ((a.0, omega (arith, a.1, low), b.0), omega (arith, a.1, b.1))

  pub atom_fits : (o left extra : ℕ) (a : Atom) → Each IsShallow (atom_text o left extra a) →
      Fits 0 (atom_part a).tree o (atom_part a).height
  atom_fits o left extra (numeral at n) h = (tt, omega arith)
  atom_fits o left extra (variable at x) h = (tt, omega arith)
  atom_fits o left extra (parens at e close) h =
      from_own (nat_le (level (expr_part e).tree) 0) (expr_part e).tree o (expr_part e).height (omega (arith, h.0))
      (expr_fits (suc o) e (each_left IsShallow (expr_text (suc o) e) (plain close Close ∷ []) h.1))
  atom_fits o left extra (pairing at x comma y close) h =
      let more : List Written = marked comma Comma 0 1 ∷ (expr_text (suc o) y ++ plain close Close ∷ []) in
      let a : Owns (expr_part x).tree (suc o) (expr_part x).height =
      expr_fits (suc o) x (each_left IsShallow (expr_text (suc o) x) more h.1) in
      let b : Owns (expr_part y).tree (suc o) (expr_part y).height =
      expr_fits (suc o) y (each_left IsShallow (expr_text (suc o) y) (plain close Close ∷
      []) (each_right IsShallow (expr_text (suc o) x) more h.1).1) in
      ((omega (arith, h.0), a.0, b.0), omega (arith, a.1, b.1))
  atom_fits o left extra (prefixed at w x) h =
      let a : Fits 0 (atom_part x).tree (suc o) (atom_part x).height = atom_fits (suc o) 0 0 x h.1 in
      ((omega (arith, h.0), a.0), omega (arith, a.1))
