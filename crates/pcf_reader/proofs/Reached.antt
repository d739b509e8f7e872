-- What has been read can be completed: each state is reached over the text of phrases, and some phrase closes it.
use Rattle.std.proofs.Common.{◌≡◌, ℕ, suc, ◌+◌, max, Bool, true, false, IsTrue, IsFalse, List, [], ◌∷◌, ◌++◌, refl, sym, ap, ◌∙◌}
use Rattle.std.proofs.Common.{subst, if◌then◌else◌, append_assoc}
use Rattle.pcf_values.specs.Terms.{arrow, product}
use Rattle.pcf_values.specs.Named.{Binder, word_at, pair_at, bind_at}
use Rattle.pcf_reader.specs.Tokens.{Token, Open, Close, Colon, Dot, Comma, Sign, Arrow, Ifz, Then, Else, Nat, Bind, Before}
use Rattle.pcf_reader.specs.Tokens.{Number, Name, End, is_sum, star}
use Rattle.pcf_reader.specs.Machine as machine
use Rattle.pcf_reader.proofs.Levels.{star_is}
use Rattle.pcf_reader.specs.Grammar.{Type_, only_ptype, arrow_type, PType, only_tatom, times_type, TAtom, nat_type, paren_type, Expr}
use Rattle.pcf_reader.specs.Grammar.{binding, choice, only_sum, Sum, only_product, summed, Product, only_app, multiplied, App, only_atom}
use Rattle.pcf_reader.specs.Grammar.{applied, Atom, numeral, variable, parens, pairing, prefixed, type_ty, ptype_ty, tatom_ty, Part, join}
use Rattle.pcf_reader.specs.Grammar.{binary, app_part, higher, choice_part, expr_part, sum_part, product_part, app_part_of, atom_part}
use Rattle.pcf_reader.specs.Grammar.{Written, plain, marked, type_text, ptype_text, tatom_text, expr_text, sum_text, product_text, app_text}
use Rattle.pcf_reader.specs.Grammar.{atom_text}
use Rattle.pcf_reader.specs.Machine.{ExprK, whole, in_parens, in_second, in_body, in_test, in_then, in_else, ProductK, first_product}
use Rattle.pcf_reader.specs.Machine.{right_of_sum, AppK, first_app, right_of_product, AtomK, first_atom, argument, under}
use Rattle.pcf_reader.specs.Machine.{TypeK, of_binder, right_of_arrow, in_type_parens, PTypeK, first_ptype, right_of_cross, expr_open}
use Rattle.pcf_reader.specs.Machine.{product_open, app_open, atom_open, type_open, ptype_open, left_of, extra_of, State, want_expr}
use Rattle.pcf_reader.specs.Machine.{want_atom, after_atom, want_name, want_colon, want_tatom, after_tatom, Step, refuse, go, finish}
use Rattle.pcf_reader.specs.Machine.{starts_atom, got_atom, begin_atom, begin_expr, after_expr, after_sum, end_product, after_product}
use Rattle.pcf_reader.specs.Machine.{end_app, after_app, begin_tatom, end_type, after_ptype, end_ptype, after_type_atom, step, is_star}

-- ws is written before the phrase that is wanted in a context
abbrev mutual
  pub AroundExpr : ExprK → List Written → Type 0
  AroundExpr whole ws = ws ≡ []
  AroundExpr (in_parens o k) ws = (us : List Written) × AroundAtom k us ×
      (ws ≡ us ++ marked o Open (max (left_of k) (atom_open k)) (extra_of k) ∷ [])
  AroundExpr (in_second o a k) ws =
      (us : List Written) × (e : Expr) × (at : ℕ) × AroundAtom k us × (expr_part e ≡ a)
      × (ws ≡ us ++ marked o Open (max (left_of k) (atom_open k)) (extra_of k) ∷
      (expr_text (suc (atom_open k)) e ++ marked at Comma 0 1 ∷ []))
  AroundExpr (in_body o b x t k) ws =
      (us : List Written) × (xat : ℕ) × (colon : ℕ) × (ty : Type_) × (dot : ℕ) × AroundExpr k us × (type_ty ty ≡ t)
      × (ws ≡ us ++ marked o (Bind b) (expr_open k) 1 ∷ plain xat (Name x) ∷ plain colon Colon ∷
      (type_text (suc (expr_open k)) ty ++ plain dot Dot ∷ []))
  AroundExpr (in_test o k) ws = (us : List Written) × AroundExpr k us × (ws ≡ us ++ marked o Ifz (expr_open k) 1 ∷ [])
  AroundExpr (in_then o c k) ws =
      (us : List Written) × (e : Expr) × (at : ℕ) × AroundExpr k us × (expr_part e ≡ c)
      × (ws ≡ us ++ marked o Ifz (expr_open k) 1 ∷ (expr_text (suc (expr_open k)) e ++ plain at Then ∷ []))
  AroundExpr (in_else o c p k) ws =
      (us : List Written) × (e : Expr) × (at : ℕ) × (f : Expr) × (at_else : ℕ) × AroundExpr k us × (expr_part e ≡ c) ×
      (expr_part f ≡ p)
      × (ws ≡ us ++ marked o Ifz (expr_open k) 1 ∷
      (expr_text (suc (expr_open k)) e ++ plain at Then ∷ (expr_text (suc (expr_open k)) f ++ plain at_else Else ∷ [])))

  pub AroundProduct : ProductK → List Written → Type 0
  AroundProduct (first_product k) ws = AroundExpr k ws
  AroundProduct (right_of_sum s op k) ws =
      (us : List Written) × (q : Sum) × (at : ℕ) × IsTrue (is_sum op) × AroundExpr k us × (sum_part q ≡ s) ×
      (ws ≡ us ++ (sum_text (expr_open k) q ++ marked at (Sign op) (sum_part q).height 1 ∷ []))

  pub AroundApp : AppK → List Written → Type 0
  AroundApp (first_app k) ws = AroundProduct k ws
  AroundApp (right_of_product m op k) ws =
      (us : List Written) × (q : Product) × (at : ℕ) × IsFalse (is_sum op) × AroundProduct k us × (product_part q ≡ m) ×
      (ws ≡ us ++ (product_text (product_open k) q ++ marked at (Sign op) (product_part q).height 1 ∷ []))

  pub AroundAtom : AtomK → List Written → Type 0
  AroundAtom (first_atom k) ws = AroundApp k ws
  AroundAtom (argument f k) ws = (us : List Written) × (q : App) × AroundApp k us × (app_part_of q ≡ f) ×
      (ws ≡ us ++ app_text (app_open k) q)
  AroundAtom (under o w k) ws = (us : List Written) × AroundAtom k us ×
      (ws ≡ us ++ marked o (Before w) (max (left_of k) (atom_open k)) (1 + extra_of k) ∷ [])

abbrev mutual
  pub AroundType : TypeK → List Written → Type 0
  AroundType (of_binder o b x k) ws =
      (us : List Written) × (xat : ℕ) × (colon : ℕ) × AroundExpr k us ×
      (ws ≡ us ++ marked o (Bind b) (expr_open k) 1 ∷ plain xat (Name x) ∷ plain colon Colon ∷ [])
  AroundType (right_of_arrow a k) ws =
      (us : List Written) × (q : PType) × (at : ℕ) × AroundType k us × (ptype_ty q ≡ a) ×
      (ws ≡ us ++ (ptype_text (type_open k) q ++ marked at Arrow (type_open k) 0 ∷ []))
  AroundType (in_type_parens k) ws = (us : List Written) × (at : ℕ) × AroundPType k us ×
      (ws ≡ us ++ marked at Open (ptype_open k) 0 ∷ [])

  pub AroundPType : PTypeK → List Written → Type 0
  AroundPType (first_ptype k) ws = AroundType k ws
  AroundPType (right_of_cross a k) ws =
      (us : List Written) × (q : TAtom) × (at : ℕ) × AroundPType k us × (tatom_ty q ≡ a) ×
      (ws ≡ us ++ (tatom_text (ptype_open k) q ++ marked at star (ptype_open k) 0 ∷ []))

-- ws leads to the state
abbrev pub Reached : State → List Written → Type 0
Reached (want_expr k) ws = AroundExpr k ws
Reached (want_atom k) ws = AroundAtom k ws
Reached (after_atom k f) ws = AroundAtom (argument f k) ws
Reached (want_name o b k) ws = (us : List Written) × AroundExpr k us × (ws ≡ us ++ marked o (Bind b) (expr_open k) 1 ∷ [])
Reached (want_colon o b x k) ws = (us : List Written) × (xat : ℕ) × AroundExpr k us ×
    (ws ≡ us ++ marked o (Bind b) (expr_open k) 1 ∷ plain xat (Name x) ∷ [])
Reached (want_tatom k) ws = AroundPType k ws
Reached (after_tatom k t) ws = (us : List Written) × (q : TAtom) × AroundPType k us × (tatom_ty q ≡ t) ×
    (ws ≡ us ++ tatom_text (ptype_open k) q)

abbrev pub Texts : Type 0
Texts = List Written

-- a part moves over to what follows
pub moved : (ws us m z : Texts) → ws ≡ us ++ m → ws ++ z ≡ us ++ (m ++ z)
moved ws us m z e = ap (λ v. v ++ z) e ∙ append_assoc us m z

-- after a step: the state that it leads to is reached over the token too, and a program that ends is whole
abbrev pub Goes : Texts → Step → ℕ → Token → Type 0
Goes ws refuse at x = Unit {0}
Goes ws (go d c t) at x = Reached t (ws ++ marked at x d c ∷ [])
Goes ws (finish p) at x = (e : Expr) × (expr_part e ≡ p) × (x ≡ End) × (ws ≡ expr_text 0 e)

-- the same over equal texts
over : (t : State) (u v : Texts) → u ≡ v → Reached t u → Reached t v
over t u v e r = subst (λ w. Reached t w) e r

-- where an atom is wanted, the state behind it is reached over its text
pub got_atom_reached : (k : AtomK) (us : Texts) (a : Atom) → AroundAtom k us →
    Reached (got_atom k (atom_part a)) (us ++ atom_text (atom_open k) (left_of k) (extra_of k) a)
got_atom_reached (first_atom k) us a h = (us, only_atom a, h, refl, refl)
got_atom_reached (argument f k) us a h =
    let (vs, q, around, is, text) = h in (
      vs,
      applied q a,
      around,
      ap (λ g. app_part g (atom_part a)) is,
      moved us vs (app_text (app_open k) q) (atom_text (app_open k) f.height 1 a) text ∙
          ap (λ (g : Part). vs ++ (app_text (app_open k) q ++ atom_text (app_open k) g.height 1 a)) (sym is),
    )
got_atom_reached (under o w k) us a h =
    let (vs, around, text) = h in
    let m : Written = marked o (Before w) (max (left_of k) (atom_open k)) (1 + extra_of k) in
    let z : Texts = atom_text (suc (atom_open k)) 0 0 a in
    over (got_atom k (higher (λ t. word_at o w t) (atom_part a))) (vs ++ m ∷ z) (us ++
    z) (sym (moved us vs (m ∷ []) z text)) (got_atom_reached k vs (prefixed o w a) around)

pub moved_on : (us vs m e z : Texts) → us ≡ vs ++ m → (us ++ e) ++ z ≡ vs ++ (m ++ (e ++ z))
moved_on us vs m e z h = append_assoc us e z ∙ moved us vs m (e ++ z) h

-- the same step over equal texts
goes_over : (st : Step) (at : ℕ) (x : Token) (u v : Texts) → u ≡ v → Goes u st at x → Goes v st at x
goes_over st at x u v e r = subst (λ w. Goes w st at x) e r

pub begin_atom_goes : (k : AtomK) (ws : Texts) → AroundAtom k ws → (at : ℕ) (x : Token) → Goes ws (begin_atom k at x) at x
begin_atom_goes k ws h at (Number n) = got_atom_reached k ws (numeral at n) h
begin_atom_goes k ws h at (Name x) = got_atom_reached k ws (variable at x) h
begin_atom_goes k ws h at Open = (ws, h, refl)
begin_atom_goes k ws h at (Before w) = (ws, h, refl)
begin_atom_goes k ws h at _ = tt

pub begin_expr_goes : (k : ExprK) (ws : Texts) → AroundExpr k ws → (at : ℕ) (x : Token) → Goes ws (begin_expr k at x) at x
begin_expr_goes k ws h at (Bind b) = (ws, h, refl)
begin_expr_goes k ws h at Ifz = (ws, h, refl)
begin_expr_goes k ws h at x = begin_atom_goes (first_atom (first_app (first_product k))) ws h at x

-- behind an expression each step leads to a state that is reached, and a program that ends there is whole
pub after_expr_goes : (k : ExprK) (us : Texts) (e : Expr) → AroundExpr k us → (at : ℕ) (x : Token) →
    Goes (us ++ expr_text (expr_open k) e) (after_expr k (expr_part e) at x) at x
after_expr_goes whole us e h at End = (e, refl, refl, ap (λ v. v ++ expr_text 0 e) h)
after_expr_goes whole us e h at _ = tt
after_expr_goes (in_parens o k) us e h at Close =
    let (vs, around, text) = h in
    let m : Written = marked o Open (max (left_of k) (atom_open k)) (extra_of k) in
    let z : Texts = expr_text (suc (atom_open k)) e in
    over (got_atom k (atom_part (parens o e at))) (vs ++ m ∷ (z ++ plain at Close ∷ [])) ((us ++ z) ++ plain at Close ∷ [])
    (sym (moved_on us vs (m ∷ []) z (plain at Close ∷ []) text)) (got_atom_reached k vs (parens o e at) around)
after_expr_goes (in_parens o k) us e h at Comma =
    let (vs, around, text) = h in (
      vs,
      e,
      at,
      around,
      refl,
      moved_on us vs (marked o Open (max (left_of k) (atom_open k)) (extra_of k) ∷
          []) (expr_text (suc (atom_open k)) e) (marked at Comma 0 1 ∷ []) text,
    )
after_expr_goes (in_parens o k) us e h at _ = tt
after_expr_goes (in_second o a k) us e h at Close =
    let (vs, f, comma, around, is, text) = h in
    let m : Written = marked o Open (max (left_of k) (atom_open k)) (extra_of k) in
    let y : Texts = expr_text (suc (atom_open k)) f in
    let z : Texts = expr_text (suc (atom_open k)) e in
    let c : Texts = plain at Close ∷ [] in
    let r : Reached (got_atom k (join (pair_at o) (expr_part f) (expr_part e))) (vs ++ m ∷ (y ++ marked comma Comma 0 1 ∷ (z ++ c))) =
    got_atom_reached k vs (pairing o f comma e at) around in
    over (got_atom k (join (pair_at o) a (expr_part e))) (vs ++ m ∷ (y ++ marked comma Comma 0 1 ∷ (z ++ c))) ((us ++ z) ++ c)
    (sym (moved_on us vs (m ∷ (y ++ marked comma Comma 0 1 ∷ [])) z c text ∙
    ap (λ v. vs ++ m ∷ v) (append_assoc y (marked comma Comma 0 1 ∷ []) (z ++ c))))
    (subst (λ (b : Part). Reached (got_atom k (join (pair_at o) b (expr_part e))) (vs ++ m ∷ (y ++ marked comma Comma 0 1 ∷ (z ++ c))))
    is r)
after_expr_goes (in_second o a k) us e h at _ = tt
after_expr_goes (in_body o b x t k) us e h at y =
    let (vs, xat, colon, ty, dot, around, is, text) = h in
    let m : Written = marked o (Bind b) (expr_open k) 1 in
    let q : Texts = type_text (suc (expr_open k)) ty in
    let z : Texts = expr_text (suc (expr_open k)) e in
    let all : Texts = m ∷ plain xat (Name x) ∷ plain colon Colon ∷ (q ++ plain dot Dot ∷ z) in
    goes_over (after_expr k (higher (bind_at o b x t) (expr_part e)) at y) at y (vs ++ all) (us ++ z)
    (sym (moved us vs (m ∷ plain xat (Name x) ∷ plain colon Colon ∷ (q ++ plain dot Dot ∷ [])) z text ∙
    ap (λ v. vs ++ m ∷ plain xat (Name x) ∷ plain colon Colon ∷ v) (append_assoc q (plain dot Dot ∷ []) z)))
    (subst (λ t. Goes (vs ++ all) (after_expr k (higher (bind_at o b x t) (expr_part e)) at y) at y) is
    (after_expr_goes k vs (binding o b xat x colon ty dot e) around at y))
after_expr_goes (in_test o k) us e h at Then =
    let (vs, around, text) = h in (
      vs,
      e,
      at,
      around,
      refl,
      moved_on us vs (marked o Ifz (expr_open k) 1 ∷ []) (expr_text (suc (expr_open k)) e) (plain at Then ∷
          []) text,
    )
after_expr_goes (in_test o k) us e h at _ = tt
after_expr_goes (in_then o c k) us e h at Else =
    let (vs, f, at_then, around, is, text) = h in
    let m : Written = marked o Ifz (expr_open k) 1 in
    let y : Texts = expr_text (suc (expr_open k)) f in
    let z : Texts = expr_text (suc (expr_open k)) e in
    let r : Texts = plain at Else ∷ [] in (
      vs,
      f,
      at_then,
      e,
      at,
      around,
      is,
      refl,
      moved_on us vs (m ∷ (y ++ plain at_then Then ∷ [])) z r text ∙
          ap (λ v. vs ++ m ∷ v) (append_assoc y (plain at_then Then ∷ []) (z ++ r)),
    )
after_expr_goes (in_then o c k) us e h at _ = tt
after_expr_goes (in_else o c p k) us e h at x =
    let (vs, f, at_then, g, at_else, around, is, is_then, text) = h in
    let m : Written = marked o Ifz (expr_open k) 1 in
    let y : Texts = expr_text (suc (expr_open k)) f in
    let w : Texts = expr_text (suc (expr_open k)) g in
    let z : Texts = expr_text (suc (expr_open k)) e in
    let all : Texts = m ∷ (y ++ plain at_then Then ∷ (w ++ plain at_else Else ∷ z)) in
    goes_over (after_expr k (choice_part o c p (expr_part e)) at x) at x (vs ++ all) (us ++ z)
    (sym (moved us vs (m ∷ (y ++ plain at_then Then ∷ (w ++ plain at_else Else ∷ []))) z text
    ∙ ap (λ v. vs ++ m ∷ v) (append_assoc y (plain at_then Then ∷ (w ++ plain at_else Else ∷ [])) z)
    ∙ ap (λ v. vs ++ m ∷ (y ++ plain at_then Then ∷ v)) (append_assoc w (plain at_else Else ∷ []) z)))
    (subst (λ (p : Part). Goes (vs ++ all) (after_expr k (choice_part o c p (expr_part e)) at x) at x) is_then
    (subst (λ (c : Part). Goes (vs ++ all) (after_expr k (choice_part o c (expr_part g) (expr_part e)) at x) at x) is
    (after_expr_goes k vs (choice o f at_then g at_else e) around at x)))

pub after_sum_goes : (k : ExprK) (us : Texts) (s : Sum) → AroundExpr k us → (at : ℕ) (x : Token) →
    Goes (us ++ sum_text (expr_open k) s) (after_sum k (sum_part s) at x) at x
after_sum_goes k us s h at (Sign op) = go (is_sum op) refl
  where
    go : (b : Bool) → is_sum op ≡ b → Goes (us ++ sum_text (expr_open k) s)
        (if b then machine.go (sum_part s).height 1 (want_atom (first_atom (first_app (right_of_sum (sum_part s) op k))))
        else after_expr k (sum_part s) at (Sign op)) at (Sign op)
    go true is = (us, s, at, is, h, refl, append_assoc us (sum_text (expr_open k) s) (marked at (Sign op) (sum_part s).height 1 ∷ []))
    go false is = after_expr_goes k us (only_sum s) h at (Sign op)
after_sum_goes k us s h at x = after_expr_goes k us (only_sum s) h at x

-- the left part of a left-grouped phrase, with its operator, and the rest
pub grouped : (us vs a : Texts) (m : Written) (z : Texts) → us ≡ vs ++ (a ++ m ∷ []) → vs ++ (a ++ m ∷ z) ≡ us ++ z
grouped us vs a m z text = sym (moved us vs (a ++ m ∷ []) z text ∙ ap (λ v. vs ++ v) (append_assoc a (m ∷ []) z))

-- the same behind the last product of a sum so far
pub end_product_goes : (k : ProductK) (us : Texts) (m : Product) → AroundProduct k us → (at : ℕ) (x : Token) →
    Goes (us ++ product_text (product_open k) m) (end_product k (product_part m) at x) at x
end_product_goes (first_product k) us m h at x = after_sum_goes k us (only_product m) h at x
end_product_goes (right_of_sum s op k) us m h at x =
    let (vs, q, o, is_op, around, is, text) = h in
    let z : Texts = product_text (expr_open k) m in
    let w : Written = marked o (Sign op) (sum_part q).height 1 in
    let a : Texts = sum_text (expr_open k) q in
    goes_over (after_sum k (binary op s (product_part m)) at x) at x (vs ++ (a ++ w ∷ z)) (us ++ z) (grouped us vs a w z text)
    (subst (λ (s : Part). Goes (vs ++ (a ++ w ∷ z)) (after_sum k (binary op s (product_part m)) at x) at x) is
    (after_sum_goes k vs (summed q o op is_op m) around at x))

-- the same behind a product: a sign of sums ends it, and another sign goes on with it
pub after_product_goes : (k : ProductK) (us : Texts) (m : Product) → AroundProduct k us → (at : ℕ) (x : Token) →
    Goes (us ++ product_text (product_open k) m) (after_product k (product_part m) at x) at x
after_product_goes k us m h at (Sign op) = go (is_sum op) refl
  where
    go : (b : Bool) → is_sum op ≡ b → Goes (us ++ product_text (product_open k) m)
        (if b then end_product k (product_part m) at (Sign op)
        else machine.go (product_part m).height 1 (want_atom (first_atom (right_of_product (product_part m) op k)))) at (Sign op)
    go true is = end_product_goes k us m h at (Sign op)
    go false is =
        (us, m, at, is, h, refl, append_assoc us (product_text (product_open k) m) (marked at (Sign op) (product_part m).height 1 ∷ []))
after_product_goes k us m h at x = end_product_goes k us m h at x

-- the same behind the last application of a product so far
pub end_app_goes : (k : AppK) (us : Texts) (f : App) → AroundApp k us → (at : ℕ) (x : Token) →
    Goes (us ++ app_text (app_open k) f) (end_app k (app_part_of f) at x) at x
end_app_goes (first_app k) us f h at x = after_product_goes k us (only_app f) h at x
end_app_goes (right_of_product m op k) us f h at x =
    let (vs, q, o, is_op, around, is, text) = h in
    let z : Texts = app_text (product_open k) f in
    let w : Written = marked o (Sign op) (product_part q).height 1 in
    let a : Texts = product_text (product_open k) q in
    goes_over (after_product k (binary op m (app_part_of f)) at x) at x (vs ++ (a ++ w ∷ z)) (us ++ z) (grouped us vs a w z text)
    (subst (λ (s : Part). Goes (vs ++ (a ++ w ∷ z)) (after_product k (binary op s (app_part_of f)) at x) at x) is
    (after_product_goes k vs (multiplied q o op is_op f) around at x))

end_app_over : (k : AppK) (f : Part) (ws : Texts) → AroundAtom (argument f k) ws → (at : ℕ) (x : Token) →
    Goes ws (end_app k f at x) at x
end_app_over k f ws h at x =
    let (us, q, around, is, text) = h in
    goes_over (end_app k f at x) at x (us ++ app_text (app_open k) q) ws (sym text)
    (subst (λ (f : Part). Goes (us ++ app_text (app_open k) q) (end_app k f at x) at x) is (end_app_goes k us q around at x))

pub after_app_goes : (k : AppK) (f : Part) (ws : Texts) → AroundAtom (argument f k) ws → (at : ℕ) (x : Token) →
    Goes ws (after_app k f at x) at x
after_app_goes k f ws h at x =
    elim (starts_atom x) as (λ b. Goes ws (if b then begin_atom (argument f k) at x else end_app k f at x) at x)
    [ true ↦ begin_atom_goes (argument f k) ws h at x | false ↦ end_app_over k f ws h at x ]

-- the types
pub begin_tatom_goes : (k : PTypeK) (ws : Texts) → AroundPType k ws → (at : ℕ) (x : Token) → Goes ws (begin_tatom k at x) at x
begin_tatom_goes k ws h at Nat = (ws, nat_type at, h, refl, refl)
begin_tatom_goes k ws h at Open = (ws, at, h, refl)
begin_tatom_goes k ws h at _ = tt

-- the same behind a type
pub end_type_goes : (k : TypeK) (us : Texts) (t : Type_) → AroundType k us → (at : ℕ) (x : Token) →
    Goes (us ++ type_text (type_open k) t) (end_type k (type_ty t) at x) at x
end_type_goes (of_binder o b y k) us t h at Dot =
    let (vs, xat, colon, around, text) = h in (
      vs,
      xat,
      colon,
      t,
      at,
      around,
      refl,
      moved_on us vs (marked o (Bind b) (expr_open k) 1 ∷ plain xat (Name y) ∷ plain colon Colon ∷
          []) (type_text (suc (expr_open k)) t) (plain at Dot ∷ []) text,
    )
end_type_goes (of_binder o b y k) us t h at _ = tt
end_type_goes (right_of_arrow a k) us t h at x =
    let (vs, q, o, around, is, text) = h in
    let z : Texts = type_text (suc (type_open k)) t in
    let w : Written = marked o Arrow (type_open k) 0 in
    let y : Texts = ptype_text (type_open k) q in
    goes_over (end_type k (arrow a (type_ty t)) at x) at x (vs ++ (y ++ w ∷ z)) (us ++ z) (grouped us vs y w z text)
    (subst (λ a. Goes (vs ++ (y ++ w ∷ z)) (end_type k (arrow a (type_ty t)) at x) at x) is
    (end_type_goes k vs (arrow_type q o t) around at x))
end_type_goes (in_type_parens k) us t h at Close =
    let (vs, o, around, text) = h in (
      vs,
      paren_type o t at,
      around,
      refl,
      moved_on us vs (marked o Open (ptype_open k) 0 ∷
          []) (type_text (suc (ptype_open k)) t) (plain at Close ∷ []) text,
    )
end_type_goes (in_type_parens k) us t h at _ = tt

pub after_ptype_goes : (k : TypeK) (us : Texts) (p : PType) → AroundType k us → (at : ℕ) (x : Token) →
    Goes (us ++ ptype_text (type_open k) p) (after_ptype k (ptype_ty p) at x) at x
after_ptype_goes k us p h at Arrow =
    (us, p, at, h, refl, append_assoc us (ptype_text (type_open k) p) (marked at Arrow (type_open k) 0 ∷ []))
after_ptype_goes k us p h at x = end_type_goes k us (only_ptype p) h at x

-- the same behind the last part of a product of types so far
pub end_ptype_goes : (k : PTypeK) (us : Texts) (p : PType) → AroundPType k us → (at : ℕ) (x : Token) →
    Goes (us ++ ptype_text (ptype_open k) p) (end_ptype k (ptype_ty p) at x) at x
end_ptype_goes (first_ptype k) us p h at x = after_ptype_goes k us p h at x
end_ptype_goes (right_of_cross a k) us p h at x =
    let (vs, q, o, around, is, text) = h in
    let z : Texts = ptype_text (suc (ptype_open k)) p in
    let w : Written = marked o star (ptype_open k) 0 in
    let y : Texts = tatom_text (ptype_open k) q in
    goes_over (end_ptype k (product a (ptype_ty p)) at x) at x (vs ++ (y ++ w ∷ z)) (us ++ z) (grouped us vs y w z text)
    (subst (λ a. Goes (vs ++ (y ++ w ∷ z)) (end_ptype k (product a (ptype_ty p)) at x) at x) is
    (end_ptype_goes k vs (times_type q o p) around at x))

-- the same behind an atom of a type, which a star may go on with
pub after_tatom_goes : (k : PTypeK) (us : Texts) (a : TAtom) → AroundPType k us → (at : ℕ) (x : Token) →
    Goes (us ++ tatom_text (ptype_open k) a) (after_type_atom k (tatom_ty a) at x) at x
after_tatom_goes k us a h at x = go (is_star x) refl
  where
    go : (b : Bool) → is_star x ≡ b → Goes (us ++ tatom_text (ptype_open k) a)
        (if b then machine.go (ptype_open k) 0 (want_tatom (right_of_cross (tatom_ty a) k)) else end_ptype k (tatom_ty a) at x) at x
    go true is = (
      us,
      a,
      at,
      h,
      refl,
      append_assoc us (tatom_text (ptype_open k) a) (marked at x (ptype_open k) 0 ∷ []) ∙
          ap (λ y. us ++ (tatom_text (ptype_open k) a ++ marked at y (ptype_open k) 0 ∷ [])) (star_is x is),
    )
    go false is = end_ptype_goes k us (only_tatom a) h at x

name_goes : (o : ℕ) (b : Binder) (k : ExprK) (ws : Texts) → Reached (want_name o b k) ws → (at : ℕ) (x : Token) →
    Goes ws (step (want_name o b k) at x) at x
name_goes o b k ws h at (Name x) =
    let (us, around, text) = h in
    (us, at, around, moved ws us (marked o (Bind b) (expr_open k) 1 ∷ []) (plain at (Name x) ∷ []) text)
name_goes o b k ws h at _ = tt

colon_goes : (o : ℕ) (b : Binder) (y : List ℕ) (k : ExprK) (ws : Texts) → Reached (want_colon o b y k) ws →
    (at : ℕ) (x : Token) → Goes ws (step (want_colon o b y k) at x) at x
colon_goes o b y k ws h at Colon =
    let (us, xat, around, text) = h in
    (us, xat, at, around, moved ws us (marked o (Bind b) (expr_open k) 1 ∷ plain xat (Name y) ∷ []) (plain at Colon ∷ []) text)
colon_goes o b y k ws h at _ = tt

-- each step keeps that what has been read is a prefix of a program
pub step_goes : (s : State) (ws : Texts) → Reached s ws → (at : ℕ) (x : Token) → Goes ws (step s at x) at x
step_goes (want_expr k) ws h at x = begin_expr_goes k ws h at x
step_goes (want_atom k) ws h at x = begin_atom_goes k ws h at x
step_goes (after_atom k f) ws h at x = after_app_goes k f ws h at x
step_goes (want_name o b k) ws h at x = name_goes o b k ws h at x
step_goes (want_colon o b y k) ws h at x = colon_goes o b y k ws h at x
step_goes (want_tatom k) ws h at x = begin_tatom_goes k ws h at x
step_goes (after_tatom k t) ws h at x =
    let (us, q, around, is, text) = h in
    goes_over (after_type_atom k t at x) at x (us ++ tatom_text (ptype_open k) q) ws (sym text)
    (subst (λ t. Goes (us ++ tatom_text (ptype_open k) q) (after_type_atom k t at x) at x) is (after_tatom_goes k us q around at x))
