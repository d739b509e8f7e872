-- What derives is read, so it derives one tree and has no fault; a list has one first fault.
use Rattle.std.proofs.Common.{◌≡◌, ℕ, ◌+◌, ◌^◌, ◌<◌, ◌≤◌, List, [], ◌∷◌, ◌++◌, map, Ok, Err, nat_lt}
use Rattle.std.proofs.Common.{if◌then◌else◌, refl, sym, ap, ◌∙◌, arith, add-zero, add_assoc}
use Rattle.std.proofs.lemmas.Bool.{lt-ltb, lt-leb, le-ltb}
use Rattle.pcf_values.specs.Most.{most_nodes, most_open}
use Rattle.pcf_values.specs.Terms.{TyTree, arrow, product}
use Rattle.pcf_values.specs.Named.{NamedTree, bind_at}
use Rattle.pcf_reader.specs.Tokens.{Token, Number, End, Junk, Placed}
use Rattle.pcf_reader.specs.Grammar.{Part, Expr, expr_part, expr_text, placed, plain, higher, binary, choice_part}
use Rattle.pcf_reader.specs.Machine.{ExprK, whole, in_parens, in_second, in_body, in_test, in_then, in_else, ProductK, first_product}
use Rattle.pcf_reader.specs.Machine.{right_of_sum, AppK, first_app, right_of_product, PTypeK, first_ptype, right_of_cross}
use Rattle.pcf_reader.specs.Machine.{TypeK, of_binder, right_of_arrow, in_type_parens, State, want_expr, want_atom, after_atom, want_name}
use Rattle.pcf_reader.specs.Machine.{want_colon, want_tatom, after_tatom, refuse, go, finish, step, after_expr, end_product, end_app}
use Rattle.pcf_reader.specs.Machine.{end_type, end_ptype}
use Rattle.pcf_reader.specs.Text.{count_of, IsNarrow, Derives, IsShallow, Each}
use Rattle.pcf_reader.specs.Scan.{TreeOrFault, proper, within, checked, scan}
use Rattle.pcf_reader.specs.declared.fault.ReadFault.TheVariants.{NumberTooWide, TooDeep, TooLarge}
use Rattle.pcf_reader.proofs.Lists.{WritesNarrow, each_left, count-append, map-append}
use Rattle.pcf_reader.proofs.Follows.{Follows}
use Rattle.pcf_reader.proofs.Exact.{program_exact}
use Rattle.pcf_reader.proofs.Reached.{Texts}

-- no phrase goes on with what is no token
junk_expr : (k : ExprK) (e : Part) (at : ℕ) → after_expr k e at Junk ≡ refuse
junk_expr whole e at = refl
junk_expr (in_parens o k) e at = refl
junk_expr (in_second o a k) e at = refl
junk_expr (in_body o b x t k) e at = junk_expr k (higher (bind_at o b x t) e) at
junk_expr (in_test o k) e at = refl
junk_expr (in_then o c k) e at = refl
junk_expr (in_else o c p k) e at = junk_expr k (choice_part o c p e) at

junk_product : (k : ProductK) (m : Part) (at : ℕ) → end_product k m at Junk ≡ refuse
junk_product (first_product k) m at = junk_expr k m at
junk_product (right_of_sum s op k) m at = junk_expr k (binary op s m) at

junk_app : (k : AppK) (f : Part) (at : ℕ) → end_app k f at Junk ≡ refuse
junk_app (first_app k) f at = junk_product k f at
junk_app (right_of_product m op k) f at = junk_product k (binary op m f) at

junk_type : (k : TypeK) (t : TyTree) (at : ℕ) → end_type k t at Junk ≡ refuse
junk_type (of_binder o b x k) t at = refl
junk_type (right_of_arrow a k) t at = junk_type k (arrow a t) at
junk_type (in_type_parens k) t at = refl

junk_ptype : (k : PTypeK) (t : TyTree) (at : ℕ) → end_ptype k t at Junk ≡ refuse
junk_ptype (first_ptype k) t at = junk_type k t at
junk_ptype (right_of_cross a k) t at = junk_ptype k (product a t) at

-- no state takes it
pub junk_refused : (s : State) (at : ℕ) → step s at Junk ≡ refuse
junk_refused (want_expr k) at = refl
junk_refused (want_atom k) at = refl
junk_refused (after_atom k f) at = junk_app k f at
junk_refused (want_name o b k) at = refl
junk_refused (want_colon o b x k) at = refl
junk_refused (want_tatom k) at = refl
junk_refused (after_tatom k t) at = junk_ptype k t at

-- what is refused is not taken
no_go : (d c : ℕ) (t : State) → refuse ≡ go d c t → ⊥
no_go d c t e = cc

-- and ends no program
no_finish : (p : Part) → refuse ≡ finish p → ⊥
no_finish p e = cc

-- a narrow number is proper
pub number_is : (at n : ℕ) (r : TreeOrFault) → n < 2 ^ 64 → proper at (Number n) r ≡ r
number_is at n r h = ap (λ b. if b then r else Err (NumberTooWide at)) (lt-ltb n (2 ^ 64) h)

-- a token that a state does not refuse, and that is no number too wide, is proper
proper_is : (s : State) (at : ℕ) (x : Token) (r : TreeOrFault) → (step s at x ≡ refuse → ⊥) → IsNarrow x → proper at x r ≡ r
proper_is s at Junk r taken narrow = absurd (taken (junk_refused s at))
proper_is s at (Number n) r taken narrow = number_is at n r narrow
proper_is s at _ r taken narrow = refl

-- what is within the limits goes on
within_is : (at d n : ℕ) (r : TreeOrFault) → d < most_open → n ≤ most_nodes → within at d n r ≡ r
within_is at d n r shallow small =
    ap (λ b. if b then Err (TooDeep at) else if nat_lt most_nodes n then Err (TooLarge at) else r) (lt-leb most_open d shallow)
    ∙ ap (λ b. if b then Err (TooLarge at) else r) (le-ltb most_nodes n small)

-- the scan over what the machine takes within the limits
pub scan_run : (ws : Texts) (s t : State) (n : ℕ) (xs : List Placed)
    → Follows s ws t → Each IsShallow ws → Each WritesNarrow ws → n + count_of ws ≤ most_nodes →
    scan (map placed ws ++ xs) s n ≡ scan xs t (n + count_of ws)
scan_run [] s t n xs h shallow narrow small = ap (λ s. scan xs s n) h ∙ ap (λ n. scan xs t n) (sym (add-zero n))
scan_run (w ∷ ws) s t n xs h shallow narrow small =
    let rest : List Placed = map placed ws ++ xs in
    let fits : n + w.count ≤ most_nodes = omega arith in
    proper_is s w.at w.token (checked (scan rest) n w.at (step s w.at w.token)) (λ e. no_go w.depth w.count h.0 (sym e ∙ h.1)) narrow.0
    ∙ ap (λ st. checked (scan rest) n w.at st) h.1
    ∙ within_is w.at w.depth (n + w.count) (scan rest h.0 (n + w.count)) shallow.0 fits
    ∙ scan_run ws h.0 t (n + w.count) xs h.2 shallow.1 narrow.1 (omega arith)
    ∙ ap (λ n. scan xs t n) (add_assoc n w.count (count_of ws))

-- What derives is read.
pub derives_scan : (items : List Placed) (t : NamedTree) → Derives items t → scan items (want_expr whole) 0 ≡ Ok t
derives_scan items t h =
    let e : Expr = h.program.expr in
    let end : ℕ = h.program.end in
    let ws : Texts = expr_text 0 e in
    let (s, follows, ends) = program_exact h.program in
    let last : List Placed = record { at = end; token = End } ∷ [] in
    let small : 0 + count_of ws ≤ most_nodes = omega (arith, count-append ws (plain end End ∷ []), h.small) in
    ap (λ z. scan z (want_expr whole) 0) (sym h.written ∙ map-append ws (plain end End ∷ []))
    ∙ scan_run ws (want_expr whole) s 0 last follows (each_left IsShallow ws (plain end End ∷ []) h.shallow)
    (each_left WritesNarrow ws (plain end End ∷ []) h.narrow) small
    ∙ proper_is s end End (checked (scan []) (0 + count_of ws) end (step s end End))
    (λ e. no_finish (expr_part h.program.expr) (sym e ∙ ends)) tt
    ∙ ap (λ st. checked (scan []) (0 + count_of ws) end st) ends
    ∙ ap (λ t. Ok t) h.stands_for

-- One tree.
pub one_tree : (items : List Placed) (t u : NamedTree) → Derives items t → Derives items u → t ≡ u
one_tree items t u h k = let e : Ok t ≡ Ok u = sym (derives_scan items t h) ∙ derives_scan items u k in cc
