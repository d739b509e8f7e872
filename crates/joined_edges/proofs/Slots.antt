-- One of some expressions, by a field that tells its place: so a slot is the pointer of its row's source.
use Rattle.std.proofs.Common.{◌≡◌, ◌<◌, ℕ, zero, suc, ◌+◌, ◌^◌, Bool, true, false, cond, List, [], ◌∷◌, length, Option, Some, None}
use Rattle.std.proofs.Common.{refl, sym, ap, subst, ◌∙◌, arith, nat_eq, nat_lt}
use Rattle.std.proofs.lemmas.Bool.{eqb-true, eq-eqb, ne_eqb, ltb-true}
use Prim.Native.String.{String}
use Rattle.verilog_tree.specs.Tree.{Expr, sized, name}
use Rattle.verilog_tree.specs.Meaning.{Scope, Store, flag, nonzero, chosen, value}
use Rattle.verilog_tree.proofs.Numbers.{fits}
use Rattle.joined_module.specs.Rows.{From, from_sig, from_box, from_fork, from_word, part_of_sig, part_of_box, from_new, from_none}
use Rattle.joined_module.specs.Rows.{ModuleRow}
use Rattle.joined_module.specs.Names.{by_name, tag_name}
use Rattle.joined_module.specs.Fields.{kind_of_from, same_from, from_place, with_from, Slot, kinds_at, by_field, source_expr, picked}
use Rattle.joined_module.specs.Fields.{sources_exprs, place_or}
use Rattle.joined_module.specs.Fields.{slot_expr}
use Rattle.joined_found.specs.Found.{Each}
use Rattle.joined_found.proofs.Eaches.{each_map}

-- ---- by a place

abbrev pub expr_at : List Expr → ℕ → Expr
expr_at [] k = sized 1 0
expr_at (e ∷ es) zero = e
expr_at (e ∷ es) (suc k) = expr_at es k

module _ (P : Scope) (R : Store) (x : String) (b w : ℕ) where
  pub picked_is : (n k : ℕ) (es : List Expr) → R.vec x ≡ n + k → k < length es → n + k < 2 ^ b →
      value P R w (picked (name x) b n es) ≡ value P R w (expr_at es k)
  picked_is n k [] h l m = absurd (omega arith)
  picked_is n zero (e ∷ []) h l m = refl
  picked_is n (suc k) (e ∷ []) h l m = absurd (omega arith)
  picked_is n zero (e ∷ f ∷ es) h l m =
      ap (λ v. chosen (nonzero (flag (nat_eq (R.vec x) v))) (value P R w e) (value P R w (picked (name x) b (suc n) (f ∷ es))))
      (fits b n (omega arith))
      ∙ ap (λ c. chosen (nonzero (flag c)) (value P R w e) (value P R w (picked (name x) b (suc n) (f ∷ es))))
      (eq-eqb (R.vec x) n (omega arith))
  picked_is n (suc k) (e ∷ f ∷ es) h l m =
      ap (λ v. chosen (nonzero (flag (nat_eq (R.vec x) v))) (value P R w e) (value P R w (picked (name x) b (suc n) (f ∷ es))))
      (fits b n (omega arith))
      ∙ ap (λ c. chosen (nonzero (flag c)) (value P R w e) (value P R w (picked (name x) b (suc n) (f ∷ es))))
      (ne_eqb (R.vec x) n (λ z. omega arith))
      ∙ picked_is (suc n) k (f ∷ es) (omega arith) (omega arith) (omega arith)

-- ---- a source among others

-- sources that the module takes for the same are the same
from_is : (g f : From) → same_from g f ≡ true → g ≡ f
from_is (from_sig i) (from_sig j) h = ap from_sig (eqb-true i j h)
from_is (from_sig i) (from_box j) h = absurd cc
from_is (from_sig i) (from_fork j) h = absurd cc
from_is (from_sig i) (from_word j) h = absurd cc
from_is (from_sig i) (part_of_sig j) h = absurd cc
from_is (from_sig i) (part_of_box j) h = absurd cc
from_is (from_sig i) (from_new j) h = absurd cc
from_is (from_sig i) (from_none j) h = absurd cc
from_is (from_box i) (from_sig j) h = absurd cc
from_is (from_box i) (from_box j) h = ap from_box (eqb-true i j h)
from_is (from_box i) (from_fork j) h = absurd cc
from_is (from_box i) (from_word j) h = absurd cc
from_is (from_box i) (part_of_sig j) h = absurd cc
from_is (from_box i) (part_of_box j) h = absurd cc
from_is (from_box i) (from_new j) h = absurd cc
from_is (from_box i) (from_none j) h = absurd cc
from_is (from_fork i) (from_sig j) h = absurd cc
from_is (from_fork i) (from_box j) h = absurd cc
from_is (from_fork i) (from_fork j) h = ap from_fork (eqb-true i j h)
from_is (from_fork i) (from_word j) h = absurd cc
from_is (from_fork i) (part_of_sig j) h = absurd cc
from_is (from_fork i) (part_of_box j) h = absurd cc
from_is (from_fork i) (from_new j) h = absurd cc
from_is (from_fork i) (from_none j) h = absurd cc
from_is (from_word i) (from_sig j) h = absurd cc
from_is (from_word i) (from_box j) h = absurd cc
from_is (from_word i) (from_fork j) h = absurd cc
from_is (from_word i) (from_word j) h = ap from_word (eqb-true i j h)
from_is (from_word i) (part_of_sig j) h = absurd cc
from_is (from_word i) (part_of_box j) h = absurd cc
from_is (from_word i) (from_new j) h = absurd cc
from_is (from_word i) (from_none j) h = absurd cc
from_is (part_of_sig i) (from_sig j) h = absurd cc
from_is (part_of_sig i) (from_box j) h = absurd cc
from_is (part_of_sig i) (from_fork j) h = absurd cc
from_is (part_of_sig i) (from_word j) h = absurd cc
from_is (part_of_sig i) (part_of_sig j) h = ap part_of_sig (eqb-true i j h)
from_is (part_of_sig i) (part_of_box j) h = absurd cc
from_is (part_of_sig i) (from_new j) h = absurd cc
from_is (part_of_sig i) (from_none j) h = absurd cc
from_is (part_of_box i) (from_sig j) h = absurd cc
from_is (part_of_box i) (from_box j) h = absurd cc
from_is (part_of_box i) (from_fork j) h = absurd cc
from_is (part_of_box i) (from_word j) h = absurd cc
from_is (part_of_box i) (part_of_sig j) h = absurd cc
from_is (part_of_box i) (part_of_box j) h = ap part_of_box (eqb-true i j h)
from_is (part_of_box i) (from_new j) h = absurd cc
from_is (part_of_box i) (from_none j) h = absurd cc
from_is (from_new i) (from_sig j) h = absurd cc
from_is (from_new i) (from_box j) h = absurd cc
from_is (from_new i) (from_fork j) h = absurd cc
from_is (from_new i) (from_word j) h = absurd cc
from_is (from_new i) (part_of_sig j) h = absurd cc
from_is (from_new i) (part_of_box j) h = absurd cc
from_is (from_new i) (from_new j) h = ap from_new (eqb-true i j h)
from_is (from_new i) (from_none j) h = absurd cc
from_is (from_none i) (from_sig j) h = absurd cc
from_is (from_none i) (from_box j) h = absurd cc
from_is (from_none i) (from_fork j) h = absurd cc
from_is (from_none i) (from_word j) h = absurd cc
from_is (from_none i) (part_of_sig j) h = absurd cc
from_is (from_none i) (part_of_box j) h = absurd cc
from_is (from_none i) (from_new j) h = absurd cc
from_is (from_none i) (from_none j) h = ap from_none (eqb-true i j h)

from_self : (f : From) → same_from f f ≡ true
from_self (from_sig i) = eq-eqb i i refl
from_self (from_box i) = eq-eqb i i refl
from_self (from_fork i) = eq-eqb i i refl
from_self (from_word i) = eq-eqb i i refl
from_self (part_of_sig i) = eq-eqb i i refl
from_self (part_of_box i) = eq-eqb i i refl
from_self (from_new i) = eq-eqb i i refl
from_self (from_none i) = eq-eqb i i refl

-- it stands among these
abbrev pub Stands : List From → From → Type 0
Stands ss f = from_place ss f < length ss

source_at : (p t : ℕ) (e : Expr) (ss : List From) (f : From) → Stands ss f →
    expr_at (sources_exprs p t e ss) (from_place ss f) ≡ source_expr p t e f
source_at p t e [] f h = absurd (omega arith)
source_at p t e (g ∷ ss) f h = go (source_at p t e ss f) (same_from g f) refl h
  where
    go : (Stands ss f → expr_at (sources_exprs p t e ss) (from_place ss f) ≡ source_expr p t e f) → (c : Bool) → same_from g f ≡ c →
        cond c 0 (suc (from_place ss f)) < suc (length ss) →
        expr_at (source_expr p t e g ∷ sources_exprs p t e ss) (cond c 0 (suc (from_place ss f))) ≡ source_expr p t e f
    go ih true q l = ap (source_expr p t e) (from_is g f q)
    go ih false q l = ih (omega arith)

places : (p t : ℕ) (e : Expr) (ss : List From) → length (sources_exprs p t e ss) ≡ length ss
places p t e [] = refl
places p t e (s ∷ ss) = ap suc (places p t e ss)

-- what stands among some stands among these with one more
more_stand : (o : Option From) (ss : List From) (f : From) → Stands ss f → Stands (with_from o ss) f
more_stand None ss f h = h
more_stand (Some s) ss f h = go (nat_lt (from_place ss (kind_of_from s)) (length ss))
  where
    put : (c : Bool) → cond c 0 (suc (from_place ss f)) < suc (length ss)
    put true = omega arith
    put false = omega arith

    go : (c : Bool) → Stands (cond c ss (kind_of_from s ∷ ss)) f
    go true = h
    go false = put (same_from (kind_of_from s) f)

own_stands : (s : From) (ss : List From) → Stands (with_from (Some s) ss) (kind_of_from s)
own_stands s ss = go (nat_lt (from_place ss (kind_of_from s)) (length ss)) refl
  where
    go : (c : Bool) → nat_lt (from_place ss (kind_of_from s)) (length ss) ≡ c → Stands (cond c ss (kind_of_from s ∷ ss)) (kind_of_from s)
    go true q = ltb-true (from_place ss (kind_of_from s)) (length ss) q
    go false q =
        let e : from_place (kind_of_from s ∷ ss) (kind_of_from s) ≡ 0 =
        ap (λ c. cond c 0 (suc (from_place ss (kind_of_from s)))) (from_self (kind_of_from s)) in
        omega arith

-- each row's source is one of the kinds that the slot has
abbrev pub IsKind : Slot → List ModuleRow → ModuleRow → Type 0
IsKind s rows r = (f : From) → s.source r ≡ Some f → Stands (kinds_at s rows) (kind_of_from f)

pub kinds_have : (s : Slot) (rows : List ModuleRow) → Each (IsKind s rows) rows
kinds_have s [] = tt
kinds_have s (r ∷ rs) = (
  λ f e. subst (λ o. Stands (with_from o (kinds_at s rs)) (kind_of_from f)) (sym e) (own_stands f (kinds_at s rs)),
  each_map (IsKind s rs) (IsKind s (r ∷ rs)) (λ q h f e. more_stand (s.source r) (kinds_at s rs) (kind_of_from f) (h f e)) rs
      (kinds_have s rs),
)

-- ---- the slot of a row

module _ (P : Scope) (R : Store) (p t : ℕ) (rows : List ModuleRow) (s : Slot) (r : ModuleRow) where
  pub slot_is : (f : From) → s.source r ≡ Some f → IsKind s rows r → R.vec (by_name s.title) ≡ (by_field rows s).at r →
      (by_field rows s).at r < 2 ^ (by_field rows s).bits → (w : ℕ) →
      value P R w (slot_expr p t rows s) ≡ value P R w (source_expr p t (name (tag_name s.title)) (kind_of_from f))
  slot_is f e k h l w =
      let ss : List From = kinds_at s rows in
      let place : (by_field rows s).at r ≡ from_place ss (kind_of_from f) =
      ap (λ o. place_or 0 (λ g. from_place ss (kind_of_from g)) o) e in
      let es : List Expr = sources_exprs p t (name (tag_name s.title)) ss in
      let n : length es ≡ length ss = places p t (name (tag_name s.title)) ss in
      let st = k f e in
      let here : R.vec (by_name s.title) ≡ from_place ss (kind_of_from f) = h ∙ place in
      picked_is P R (by_name s.title) (by_field rows s).bits w 0 (from_place ss (kind_of_from f)) es (omega arith) (omega arith)
      (omega arith)
      ∙ ap (λ (x : Expr). value P R w x) (source_at p t (name (tag_name s.title)) ss (kind_of_from f) st)
