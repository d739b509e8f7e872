-- What a phrase writes leads from where it is wanted to where it is got.
use Rattle.std.proofs.Common.{◌≡◌, ℕ, suc, Bool, true, false, IsTrue, [], ◌∷◌, ◌++◌, refl, ap, ◌∙◌, if◌then◌else◌}
use Rattle.std.specs.Prelude.{not}
use Rattle.pcf_values.specs.Terms.{TyTree, nat}
use Rattle.pcf_reader.specs.Tokens.{Token, Open, Close, Dot, Comma, Sign, Arrow, Then, Else, Before, Number, Name, End, star}
use Rattle.pcf_reader.specs.Grammar.{Type_, only_ptype, arrow_type, PType, only_tatom, times_type, TAtom, nat_type, paren_type, Expr}
use Rattle.pcf_reader.specs.Grammar.{binding, choice, only_sum, Sum, only_product, summed, Product, only_app, multiplied, App, only_atom}
use Rattle.pcf_reader.specs.Grammar.{applied, Atom, numeral, variable, parens, pairing, prefixed, type_ty, ptype_ty, tatom_ty, Part}
use Rattle.pcf_reader.specs.Grammar.{app_part, expr_part, sum_part, product_part, app_part_of, atom_part, plain, marked, type_text}
use Rattle.pcf_reader.specs.Grammar.{ptype_text, tatom_text, expr_text, sum_text, product_text, app_text, atom_text, Program}
use Rattle.pcf_reader.specs.Machine.{ExprK, whole, in_parens, in_second, in_body, in_test, in_then, in_else, ProductK, first_product}
use Rattle.pcf_reader.specs.Machine.{right_of_sum, AppK, first_app, right_of_product, AtomK, first_atom, argument, under}
use Rattle.pcf_reader.specs.Machine.{TypeK, of_binder, right_of_arrow, in_type_parens, PTypeK, first_ptype, right_of_cross, expr_open}
use Rattle.pcf_reader.specs.Machine.{product_open, app_open, atom_open, type_open, ptype_open, left_of, extra_of, State, want_expr}
use Rattle.pcf_reader.specs.Machine.{want_atom, after_atom, want_name, want_colon, want_tatom, after_tatom, go, finish, starts_atom}
use Rattle.pcf_reader.specs.Machine.{got_atom, begin_atom, after_expr, after_sum, end_product, after_product, end_app, end_type}
use Rattle.pcf_reader.specs.Machine.{after_ptype}
use Rattle.pcf_reader.specs.Machine.{end_ptype, after_type_atom, step, is_star}
use Rattle.pcf_reader.proofs.Ends.{ends_app, ends_product, ends_sum, ends_tatom, ends_ptype}
use Rattle.pcf_reader.proofs.Follows.{Follows, chain, Ready}

-- the state begins an atom as the context says
abbrev pub Starts : State → AtomK → Type 0
Starts s k = (at : ℕ) (x : Token) → IsTrue (starts_atom x) → step s at x ≡ begin_atom k at x

pub expr_starts : (k : ExprK) → Starts (want_expr k) (first_atom (first_app (first_product k)))
expr_starts k at Open h = refl
expr_starts k at (Before w) h = refl
expr_starts k at (Number n) h = refl
expr_starts k at (Name x) h = refl
expr_starts k at _ h = cc

pub argument_starts : (k : AppK) (f : Part) → Starts (after_atom k f) (argument f k)
argument_starts k f at x h = ap (λ b. if b then begin_atom (argument f k) at x else end_app k f at x) h

pub app_ends : (k : AppK) (f : Part) (at : ℕ) (x : Token) → IsTrue (ends_app x) → step (after_atom k f) at x ≡ end_app k f at x
app_ends k f at Open h = cc
app_ends k f at (Before w) h = cc
app_ends k f at (Number n) h = cc
app_ends k f at (Name x) h = cc
app_ends k f at _ h = refl

-- what ends a longer phrase ends a shorter one
pub product_app : (x : Token) → IsTrue (ends_product x) → IsTrue (ends_app x)
product_app (Sign op) h = refl
product_app _ h = h

pub sum_product : (x : Token) → IsTrue (ends_sum x) → IsTrue (ends_product x)
sum_product (Sign op) h = cc
sum_product _ h = h

pub product_ends : (k : ProductK) (m : Part) (at : ℕ) (x : Token) → IsTrue (ends_product x) →
    after_product k m at x ≡ end_product k m at x
product_ends k m at (Sign op) h =
    ap (λ b. if b then end_product k m at (Sign op) else go m.height 1 (want_atom (first_atom (right_of_product m op k)))) h
product_ends k m at _ h = refl

pub sum_ends : (k : ExprK) (s : Part) (at : ℕ) (x : Token) → IsTrue (ends_sum x) → after_sum k s at x ≡ after_expr k s at x
sum_ends k s at (Sign op) h = cc
sum_ends k s at _ h = refl

not_true : (b : Bool) → IsTrue (not b) → b ≡ false
not_true true h = cc
not_true false h = refl

pub tatom_ends : (k : PTypeK) (t : TyTree) (at : ℕ) (x : Token) → IsTrue (ends_tatom x) →
    after_type_atom k t at x ≡ end_ptype k t at x
tatom_ends k t at x h =
    ap (λ b. if b then go (ptype_open k) 0 (want_tatom (right_of_cross t k)) else end_ptype k t at x) (not_true (is_star x) h)

pub ptype_ends : (k : TypeK) (t : TyTree) (at : ℕ) (x : Token) → IsTrue (ends_ptype x) → after_ptype k t at x ≡ end_type k t at x
ptype_ends k t at Arrow h = cc
ptype_ends k t at _ h = refl

pub ptype_tatom : (x : Token) → IsTrue (ends_ptype x) → IsTrue (ends_tatom x)
ptype_tatom Arrow h = refl
ptype_tatom _ h = h

mutual
  pub type_exact : (t : Type_) (k : TypeK) → Ready (want_tatom (first_ptype k)) (type_text (type_open k) t) (end_type k (type_ty t))
      ends_ptype
  type_exact (only_ptype p) k =
      let (t, follows, goes) = ptype_exact p (first_ptype k) in
      (t, follows, λ at x h. goes at x (ptype_tatom x h) ∙ ptype_ends k (ptype_ty p) at x h)
  type_exact (arrow_type p at t) k =
      let (r, follows, goes) = ptype_exact p (first_ptype k) in
      let n : TypeK = right_of_arrow (ptype_ty p) k in
      let w : State = want_tatom (first_ptype n) in
      let (y, after, ends) = type_exact t n in (
        y,
        chain (ptype_text (type_open k) p) (marked at Arrow (type_open k) 0 ∷
            type_text (suc (type_open k)) t) (want_tatom (first_ptype k)) r y follows
            (w, goes at Arrow refl, after),
        ends,
      )

  pub ptype_exact : (p : PType) (k : PTypeK) → Ready (want_tatom k) (ptype_text (ptype_open k) p) (end_ptype k (ptype_ty p)) ends_tatom
  ptype_exact (only_tatom a) k = (after_tatom k (tatom_ty a), tatom_exact a k, tatom_ends k (tatom_ty a))
  ptype_exact (times_type a at p) k =
      let n : PTypeK = right_of_cross (tatom_ty a) k in
      let (y, after, ends) = ptype_exact p n in (
        y,
        chain (tatom_text (ptype_open k) a) (marked at star (ptype_open k) 0 ∷
            ptype_text (suc (ptype_open k)) p) (want_tatom k) (after_tatom k (tatom_ty a)) y (tatom_exact a k)
            (want_tatom n, refl, after),
        ends,
      )

  pub tatom_exact : (a : TAtom) (k : PTypeK) → Follows (want_tatom k) (tatom_text (ptype_open k) a) (after_tatom k (tatom_ty a))
  tatom_exact (nat_type at) k = (after_tatom k nat, refl, refl)
  tatom_exact (paren_type at t close) k =
      let n : TypeK = in_type_parens k in
      let (y, follows, goes) = type_exact t n in (
        want_tatom (first_ptype n),
        refl,
        chain (type_text (suc (ptype_open k)) t) (plain close Close ∷ []) (want_tatom (first_ptype n)) y (after_tatom k (type_ty t))
            follows
            (after_tatom k (type_ty t), goes close Close refl, refl),
      )

mutual
  pub expr_exact : (e : Expr) (k : ExprK) → Ready (want_expr k) (expr_text (expr_open k) e) (after_expr k (expr_part e)) ends_sum
  expr_exact (binding at b xat x colon t dot e) k =
      let n : TypeK = of_binder at b x k in
      let (y, follows, goes) = type_exact t n in
      let m : ExprK = in_body at b x (type_ty t) k in
      let (z, after, ends) = expr_exact e m in (
        z,
        (
          want_name at b k,
          refl,
          (
            want_colon at b x k,
            refl,
            (
              want_tatom (first_ptype n),
              refl,
              chain (type_text (suc (expr_open k)) t) (plain dot Dot ∷ expr_text (suc (expr_open k)) e) (want_tatom (first_ptype n)) y z
                  follows
                  (want_expr m, goes dot Dot refl, after),
            ),
          ),
        ),
        ends,
      )
  expr_exact (choice at c at_then p at_else q) k =
      let o : ℕ = suc (expr_open k) in
      let kc : ExprK = in_test at k in
      let kp : ExprK = in_then at (expr_part c) k in
      let kq : ExprK = in_else at (expr_part c) (expr_part p) k in
      let (t, ft, gt) = expr_exact c kc in
      let (u, fu, gu) = expr_exact p kp in
      let (v, fv, gv) = expr_exact q kq in (
        v,
        (
          want_expr kc,
          refl,
          chain (expr_text o c) (plain at_then Then ∷ (expr_text o p ++ plain at_else Else ∷ expr_text o q)) (want_expr kc) t v ft (
            want_expr kp,
            gt at_then Then refl,
            chain (expr_text o p) (plain at_else Else ∷ expr_text o q) (want_expr kp) u v fu
                (want_expr kq, gu at_else Else refl, fv),
          ),
        ),
        gv,
      )
  expr_exact (only_sum s) k =
      let (t, follows, goes) = sum_exact s (want_expr k) k (expr_starts k) in
      (t, follows, λ at x h. goes at x (sum_product x h) ∙ sum_ends k (sum_part s) at x h)

  pub sum_exact : (s : Sum) (z : State) (k : ExprK) → Starts z (first_atom (first_app (first_product k))) →
      Ready z (sum_text (expr_open k) s) (after_sum k (sum_part s)) ends_product
  sum_exact (only_product p) z k h =
      let (t, follows, goes) = product_exact p z (first_product k) h in
      (t, follows, λ at x h. goes at x (product_app x h) ∙ product_ends (first_product k) (product_part p) at x h)
  sum_exact (summed s at op is p) z k h =
      let (t, follows, goes) = sum_exact s z k h in
      let n : ProductK = right_of_sum (sum_part s) op k in
      let w : State = want_atom (first_atom (first_app n)) in
      let (u, after, ends) = product_exact p w n (λ at x h. refl) in (
        u,
        chain (sum_text (expr_open k) s) (marked at (Sign op) (sum_part s).height 1 ∷ product_text (expr_open k) p) z t u follows (
          w,
          goes at (Sign op) is ∙
              ap (λ b. if b then go (sum_part s).height 1 w else after_expr k (sum_part s) at (Sign op)) is,
          after,
        ),
        λ at x h. ends at x (product_app x h) ∙ product_ends n (product_part p) at x h,
      )

  pub product_exact : (m : Product) (z : State) (k : ProductK) → Starts z (first_atom (first_app k)) →
      Ready z (product_text (product_open k) m) (after_product k (product_part m)) ends_app
  product_exact (only_app f) z k h = (
    after_atom (first_app k) (app_part_of f),
    app_exact f z (first_app k) h,
    app_ends (first_app k) (app_part_of f),
  )
  product_exact (multiplied m at op is f) z k h =
      let (t, follows, goes) = product_exact m z k h in
      let n : AppK = right_of_product (product_part m) op k in
      let w : State = want_atom (first_atom n) in (
        after_atom n (app_part_of f),
        chain (product_text (product_open k) m) (marked at (Sign op) (product_part m).height 1 ∷
            app_text (product_open k) f) z t (after_atom n (app_part_of f)) follows (
              w,
              goes at (Sign op) refl ∙
                  ap (λ b. if b then end_product k (product_part m) at (Sign op) else go (product_part m).height 1 w) is,
              app_exact f w n (λ at x h. refl),
            ),
        app_ends n (app_part_of f),
      )

  pub app_exact : (f : App) (z : State) (k : AppK) → Starts z (first_atom k) →
      Follows z (app_text (app_open k) f) (after_atom k (app_part_of f))
  app_exact (only_atom a) z k h = atom_exact a z (first_atom k) h
  app_exact (applied f a) z k h =
      let g : Part = app_part_of f in
      chain (app_text (app_open k) f) (atom_text (app_open k) g.height 1 a) z (after_atom k g) (after_atom k (app_part g (atom_part a)))
      (app_exact f z k h) (atom_exact a (after_atom k g) (argument g k) (argument_starts k g))

  pub atom_exact : (a : Atom) (z : State) (k : AtomK) → Starts z k →
      Follows z (atom_text (atom_open k) (left_of k) (extra_of k) a) (got_atom k (atom_part a))
  atom_exact (numeral at n) z k h = (got_atom k (atom_part (numeral at n)), h at (Number n) refl, refl)
  atom_exact (variable at x) z k h = (got_atom k (atom_part (variable at x)), h at (Name x) refl, refl)
  atom_exact (parens at e close) z k h =
      let n : ExprK = in_parens at k in
      let (t, follows, goes) = expr_exact e n in
      let g : State = got_atom k (atom_part (parens at e close)) in (
        want_expr n,
        h at Open refl,
        chain (expr_text (suc (atom_open k)) e) (plain close Close ∷ []) (want_expr n) t g follows (
          g,
          goes close Close refl,
          refl,
        ),
      )
  atom_exact (pairing at a comma b close) z k h =
      let o : ℕ = suc (atom_open k) in
      let ka : ExprK = in_parens at k in
      let kb : ExprK = in_second at (expr_part a) k in
      let g : State = got_atom k (atom_part (pairing at a comma b close)) in
      let (t, ft, gt) = expr_exact a ka in
      let (u, fu, gu) = expr_exact b kb in (
        want_expr ka,
        h at Open refl,
        chain (expr_text o a) (marked comma Comma 0 1 ∷ (expr_text o b ++ plain close Close ∷ [])) (want_expr ka) t g ft (
          want_expr kb,
          gt comma Comma refl,
          chain (expr_text o b) (plain close Close ∷ []) (want_expr kb) u g fu (g, gu close Close refl, refl),
        ),
      )
  atom_exact (prefixed at w a) z k h = (
    want_atom (under at w k),
    h at (Before w) refl,
    atom_exact a (want_atom (under at w k)) (under at w k) (λ at x h. refl),
  )

-- the text of a program is gone through to its end
pub program_exact : (p : Program) → (t : State) × Follows (want_expr whole) (expr_text 0 p.expr) t ×
    (step t p.end End ≡ finish (expr_part p.expr))
program_exact p = let (t, follows, goes) = expr_exact p.expr whole in (t, follows, goes p.end End refl)
