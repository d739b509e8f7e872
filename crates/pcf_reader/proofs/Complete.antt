-- What has been read can be completed to a program.
use Rattle.std.proofs.Common.{◌≡◌, suc, ◌+◌, max, [], ◌∷◌, ◌++◌, sym, ap, ◌∙◌, subst, append_assoc}
use Rattle.pcf_reader.specs.Tokens.{Open, Close, Colon, Dot, Comma, Sign, Arrow, Ifz, Then, Else, Bind, Before, Name, End, star}
use Rattle.pcf_reader.specs.Grammar.{Type_, only_ptype, arrow_type, PType, only_tatom, times_type, nat_type, paren_type, Expr, binding}
use Rattle.pcf_reader.specs.Grammar.{choice, only_sum, only_product, summed, Product, only_app, multiplied, App, only_atom, applied, Atom}
use Rattle.pcf_reader.specs.Grammar.{numeral, parens, pairing, prefixed, Part, sum_part, product_part, Written, plain, marked, type_text}
use Rattle.pcf_reader.specs.Grammar.{ptype_text, tatom_text, expr_text, sum_text, product_text, app_text, atom_text, Program, program_text}
use Rattle.pcf_reader.specs.Machine.{ExprK, whole, in_parens, in_second, in_body, in_test, in_then, in_else, ProductK, first_product}
use Rattle.pcf_reader.specs.Machine.{right_of_sum, AppK, first_app, right_of_product, AtomK, first_atom, argument, under}
use Rattle.pcf_reader.specs.Machine.{TypeK, of_binder, right_of_arrow, in_type_parens, PTypeK, first_ptype, right_of_cross, expr_open}
use Rattle.pcf_reader.specs.Machine.{product_open, app_open, atom_open, type_open, ptype_open, left_of, extra_of, State, want_expr}
use Rattle.pcf_reader.specs.Machine.{want_atom, after_atom, want_name, want_colon, want_tatom, after_tatom}
use Rattle.pcf_reader.proofs.Reached.{AroundExpr, AroundProduct, AroundApp, AroundAtom, AroundType, AroundPType, Reached, Texts, moved}
use Rattle.pcf_reader.proofs.Reached.{moved_on, grouped}

-- a program's text begins so
abbrev pub Completes : Texts → Type 0
Completes ws = (p : Program) × (rest : Texts) × (program_text p ≡ ws ++ rest)

completes_over : (u v : Texts) → u ≡ v → Completes u → Completes v
completes_over u v e h = subst (λ w. Completes w) e h

front_completes : (u v : Texts) → Completes (u ++ v) → Completes u
front_completes u v h = (h.0, v ++ h.1, h.2 ∙ append_assoc u v h.1)

zero_atom : Atom
zero_atom = numeral 0 0

zero_app : App
zero_app = only_atom zero_atom

zero_product : Product
zero_product = only_app zero_app

zero_expr : Expr
zero_expr = only_sum (only_product zero_product)

mutual
  pub complete_expr : (k : ExprK) (ws : Texts) → AroundExpr k ws → (e : Expr) → Completes (ws ++ expr_text (expr_open k) e)
  complete_expr whole ws h e =
      let p : Program = record { expr = e; end = 0 } in
      (p, plain 0 End ∷ [], sym (ap (λ v. (v ++ expr_text 0 e) ++ plain 0 End ∷ []) h))
  complete_expr (in_parens o k) ws h e =
      let (vs, around, text) = h in
      let z : Texts = expr_text (suc (atom_open k)) e in
      let c : Texts = plain 0 Close ∷ [] in
      front_completes (ws ++ z) c (completes_over _ _
      (sym (moved_on ws vs (marked o Open (max (left_of k) (atom_open k)) (extra_of k) ∷ []) z c text))
      (complete_atom k vs around (parens o e 0)))
  complete_expr (in_second o a k) ws h e =
      let (vs, f, comma, around, is, text) = h in
      let m : Written = marked o Open (max (left_of k) (atom_open k)) (extra_of k) in
      let y : Texts = expr_text (suc (atom_open k)) f in
      let z : Texts = expr_text (suc (atom_open k)) e in
      let c : Texts = plain 0 Close ∷ [] in
      front_completes (ws ++ z) c
      (completes_over _ _ (sym (moved_on ws vs (m ∷ (y ++ marked comma Comma 0 1 ∷ [])) z c text ∙
      ap (λ v. vs ++ m ∷ v) (append_assoc y (marked comma Comma 0 1 ∷ []) (z ++ c))))
      (complete_atom k vs around (pairing o f comma e 0)))
  complete_expr (in_body o b x t k) ws h e =
      let (vs, xat, colon, ty, dot, around, is, text) = h in
      let m : Written = marked o (Bind b) (expr_open k) 1 in
      let q : Texts = type_text (suc (expr_open k)) ty in
      let z : Texts = expr_text (suc (expr_open k)) e in
      completes_over _ _
      (sym (moved ws vs (m ∷ plain xat (Name x) ∷ plain colon Colon ∷ (q ++ plain dot Dot ∷ [])) z text ∙
      ap (λ v. vs ++ m ∷ plain xat (Name x) ∷ plain colon Colon ∷ v) (append_assoc q (plain dot Dot ∷ []) z)))
      (complete_expr k vs around (binding o b xat x colon ty dot e))
  complete_expr (in_test o k) ws h e =
      let (vs, around, text) = h in
      let z : Texts = expr_text (suc (expr_open k)) e in
      let r : Texts = plain 0 Then ∷ (expr_text (suc (expr_open k)) zero_expr ++ plain 0 Else ∷
      expr_text (suc (expr_open k)) zero_expr) in
      front_completes (ws ++ z) r (completes_over _ _ (sym (moved_on ws vs (marked o Ifz (expr_open k) 1 ∷ []) z r text))
      (complete_expr k vs around (choice o e 0 zero_expr 0 zero_expr)))
  complete_expr (in_then o c k) ws h e =
      let (vs, f, at_then, around, is, text) = h in
      let m : Written = marked o Ifz (expr_open k) 1 in
      let y : Texts = expr_text (suc (expr_open k)) f in
      let z : Texts = expr_text (suc (expr_open k)) e in
      let r : Texts = plain 0 Else ∷ expr_text (suc (expr_open k)) zero_expr in
      front_completes (ws ++ z) r
      (completes_over _ _ (sym (moved_on ws vs (m ∷ (y ++ plain at_then Then ∷ [])) z r text ∙
      ap (λ v. vs ++ m ∷ v) (append_assoc y (plain at_then Then ∷ []) (z ++ r))))
      (complete_expr k vs around (choice o f at_then e 0 zero_expr)))
  complete_expr (in_else o c p k) ws h e =
      let (vs, f, at_then, g, at_else, around, is, is_then, text) = h in
      let m : Written = marked o Ifz (expr_open k) 1 in
      let y : Texts = expr_text (suc (expr_open k)) f in
      let w : Texts = expr_text (suc (expr_open k)) g in
      let z : Texts = expr_text (suc (expr_open k)) e in
      completes_over _ _
      (sym (moved ws vs (m ∷ (y ++ plain at_then Then ∷ (w ++ plain at_else Else ∷ []))) z text
      ∙ ap (λ v. vs ++ m ∷ v) (append_assoc y (plain at_then Then ∷ (w ++ plain at_else Else ∷ [])) z)
      ∙ ap (λ v. vs ++ m ∷ (y ++ plain at_then Then ∷ v)) (append_assoc w (plain at_else Else ∷ []) z)))
      (complete_expr k vs around (choice o f at_then g at_else e))

  pub complete_product : (k : ProductK) (ws : Texts) → AroundProduct k ws → (m : Product) →
      Completes (ws ++ product_text (product_open k) m)
  complete_product (first_product k) ws h m = complete_expr k ws h (only_sum (only_product m))
  complete_product (right_of_sum s op k) ws h m =
      let (vs, q, o, is_op, around, is, text) = h in
      completes_over _ _ (grouped ws vs (sum_text (expr_open k) q) (marked o (Sign op) (sum_part q).height 1)
      (product_text (expr_open k) m) text) (complete_expr k vs around (only_sum (summed q o op is_op m)))

  pub complete_app : (k : AppK) (ws : Texts) → AroundApp k ws → (f : App) → Completes (ws ++ app_text (app_open k) f)
  complete_app (first_app k) ws h f = complete_product k ws h (only_app f)
  complete_app (right_of_product m op k) ws h f =
      let (vs, q, o, is_op, around, is, text) = h in
      completes_over _ _ (grouped ws vs (product_text (product_open k) q) (marked o (Sign op) (product_part q).height 1)
      (app_text (product_open k) f) text) (complete_product k vs around (multiplied q o op is_op f))

  pub complete_atom : (k : AtomK) (ws : Texts) → AroundAtom k ws → (a : Atom) →
      Completes (ws ++ atom_text (atom_open k) (left_of k) (extra_of k) a)
  complete_atom (first_atom k) ws h a = complete_app k ws h (only_atom a)
  complete_atom (argument f k) ws h a =
      let (vs, q, around, is, text) = h in
      completes_over _ _
      (sym (moved ws vs (app_text (app_open k) q) (atom_text (app_open k) f.height 1 a) text ∙
      ap (λ (g : Part). vs ++ (app_text (app_open k) q ++ atom_text (app_open k) g.height 1 a)) (sym is)))
      (complete_app k vs around (applied q a))
  complete_atom (under o w k) ws h a =
      let (vs, around, text) = h in
      completes_over _ _ (sym (moved ws vs (marked o (Before w) (max (left_of k) (atom_open k)) (1 + extra_of k) ∷ [])
      (atom_text (suc (atom_open k)) 0 0 a) text)) (complete_atom k vs around (prefixed o w a))

mutual
  pub complete_type : (k : TypeK) (ws : Texts) → AroundType k ws → (t : Type_) → Completes (ws ++ type_text (type_open k) t)
  complete_type (of_binder o b x k) ws h t =
      let (vs, xat, colon, around, text) = h in
      let m : Written = marked o (Bind b) (expr_open k) 1 in
      let q : Texts = type_text (suc (expr_open k)) t in
      let r : Texts = plain 0 Dot ∷ expr_text (suc (expr_open k)) zero_expr in
      front_completes (ws ++ q) r
      (completes_over _ _ (sym (moved_on ws vs (m ∷ plain xat (Name x) ∷ plain colon Colon ∷ []) q r text))
      (complete_expr k vs around (binding o b xat x colon t 0 zero_expr)))
  complete_type (right_of_arrow a k) ws h t =
      let (vs, q, o, around, is, text) = h in
      completes_over _ _ (grouped ws vs (ptype_text (type_open k) q) (marked o Arrow (type_open k) 0) (type_text (suc (type_open k)) t)
      text) (complete_type k vs around (arrow_type q o t))
  complete_type (in_type_parens k) ws h t =
      let (vs, o, around, text) = h in
      let z : Texts = type_text (suc (ptype_open k)) t in
      let c : Texts = plain 0 Close ∷ [] in
      front_completes (ws ++ z) c (completes_over _ _ (sym (moved_on ws vs (marked o Open (ptype_open k) 0 ∷ []) z c text))
      (complete_ptype k vs around (only_tatom (paren_type o t 0))))

  pub complete_ptype : (k : PTypeK) (ws : Texts) → AroundPType k ws → (p : PType) → Completes (ws ++ ptype_text (ptype_open k) p)
  complete_ptype (first_ptype k) ws h p = complete_type k ws h (only_ptype p)
  complete_ptype (right_of_cross a k) ws h p =
      let (vs, q, o, around, is, text) = h in
      completes_over _ _ (grouped ws vs (tatom_text (ptype_open k) q) (marked o star (ptype_open k) 0) (ptype_text (suc (ptype_open k)) p)
      text) (complete_ptype k vs around (times_type q o p))

zero_type : Type_
zero_type = only_ptype (only_tatom (nat_type 0))

-- every state that is reached is on the way to a program
pub complete : (s : State) (ws : Texts) → Reached s ws → Completes ws
complete (want_expr k) ws h = front_completes ws (expr_text (expr_open k) zero_expr) (complete_expr k ws h zero_expr)
complete (want_atom k) ws h = front_completes ws (atom_text (atom_open k) (left_of k) (extra_of k) zero_atom)
    (complete_atom k ws h zero_atom)
complete (after_atom k f) ws h = let (us, q, around, is, text) = h in completes_over _ _ (sym text) (complete_app k us around q)
complete (want_name o b k) ws h =
    let (us, around, text) = h in
    let m : Written = marked o (Bind b) (expr_open k) 1 in
    let t : Texts = type_text (suc (expr_open k)) zero_type in
    let r : Texts = plain 0 (Name []) ∷ plain 0 Colon ∷ (t ++ plain 0 Dot ∷ expr_text (suc (expr_open k)) zero_expr) in
    front_completes ws r (completes_over _ _ (sym (moved ws us (m ∷ []) r text))
    (complete_expr k us around (binding o b 0 [] 0 zero_type 0 zero_expr)))
complete (want_colon o b x k) ws h =
    let (us, xat, around, text) = h in
    let m : Written = marked o (Bind b) (expr_open k) 1 in
    let t : Texts = type_text (suc (expr_open k)) zero_type in
    let r : Texts = plain 0 Colon ∷ (t ++ plain 0 Dot ∷ expr_text (suc (expr_open k)) zero_expr) in
    front_completes ws r (completes_over _ _ (sym (moved ws us (m ∷ plain xat (Name x) ∷ []) r text))
    (complete_expr k us around (binding o b xat x 0 zero_type 0 zero_expr)))
complete (want_tatom k) ws h = front_completes ws (ptype_text (ptype_open k) (only_tatom (nat_type 0)))
    (complete_ptype k ws h (only_tatom (nat_type 0)))
complete (after_tatom k t) ws h = let (us, q, around, is, text) = h in
    completes_over _ _ (sym text) (complete_ptype k us around (only_tatom q))
