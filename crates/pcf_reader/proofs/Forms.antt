-- Each term has a phrase for what is printed of it, on each level of the grammar.
use Rattle.std.proofs.Common.{◌≡◌, ℕ, suc, ◌+◌, ◌<◌, ◌^◌, max, Bool, true, false, IsTrue, IsFalse, List, [], ◌∷◌, ◌++◌, map, length, refl}
use Rattle.std.proofs.Common.{sym, ap, ◌∙◌, subst, arith, length-append}
use Rattle.std.specs.Prelude.{codes, decimal}
use Rattle.std.specs.Str.{chars}
use Rattle.pcf_values.specs.Most.{most_open}
use Rattle.pcf_values.specs.declared.operator.Operator.{Operator}
use Rattle.pcf_values.specs.Named.{NamedTree, number_at, name_at, word_at, binary_at, pair_at, ifz_at, bind_at, apply_at, Word, Binder}
use Rattle.pcf_values.specs.Named.{the_fun, the_fix}
use Rattle.pcf_reader.specs.Tokens.{Close, Colon, Dot, Comma, Sign, Then, Else, Name, is_sum, Placed}
use Rattle.pcf_reader.specs.Grammar.{Type_, only_ptype, arrow_type, PType, only_tatom, times_type, TAtom, nat_type, paren_type, Expr}
use Rattle.pcf_reader.specs.Grammar.{binding, choice, only_sum, Sum, only_product, summed, Product, only_app, multiplied, App, only_atom}
use Rattle.pcf_reader.specs.Grammar.{applied, Atom, numeral, variable, parens, pairing, prefixed, Part, binary, expr_part, sum_part}
use Rattle.pcf_reader.specs.Grammar.{product_part, app_part_of, atom_part, Written, placed, plain, marked, type_text, ptype_text}
use Rattle.pcf_reader.specs.Grammar.{tatom_text, expr_text, sum_text, product_text, app_text, atom_text}
use Rattle.pcf_reader.specs.Spelling.{Splits}
use Rattle.pcf_reader.specs.Text.{IsShallow, Each}
use Rattle.pcf_reader.specs.Printed.{fitted, ty_text, word_text, binder_text, op_text, op_level, right_level, level, term_text}
use Rattle.pcf_reader.specs.Placeless.{placeless}
use Rattle.pcf_reader.proofs.Lists.{WritesNarrow, each_append}
use Rattle.pcf_reader.proofs.Shown.{fit_onto, fit_height, fit_shallow, ty_onto, own_onto, own_height, own_shallow, Fine}
use Rattle.pcf_reader.proofs.Pieces.{Clear, place_at, blank_piece, number_piece, name_piece}
use Rattle.pcf_reader.proofs.Lexed.{at_place}
use Rattle.pcf_reader.proofs.Levels.{sum_level, sum_right, product_level, product_right}
use Rattle.pcf_reader.proofs.Canon.{both_parts, space, closes, comma_clear, colon_clear, dot_clear, some_left, open_piece, close_piece}
use Rattle.pcf_reader.proofs.Canon.{comma_piece, colon_piece, dot_piece, op_piece, op_clear, word_splits, binder_splits}
use Rattle.pcf_reader.proofs.Canon.{ifz_piece, then_piece, else_piece, ty_forms}

-- types have no numbers
mutual
  narrow_type : (o : ℕ) (t : Type_) → Each WritesNarrow (type_text o t)
  narrow_type o (only_ptype p) = narrow_ptype o p
  narrow_type o (arrow_type p at t) = each_append WritesNarrow (ptype_text o p) _ (narrow_ptype o p) (tt, narrow_type (suc o) t)

  narrow_ptype : (o : ℕ) (p : PType) → Each WritesNarrow (ptype_text o p)
  narrow_ptype o (only_tatom a) = narrow_tatom o a
  narrow_ptype o (times_type a at p) = each_append WritesNarrow (tatom_text o a) _ (narrow_tatom o a) (tt, narrow_ptype (suc o) p)

  narrow_tatom : (o : ℕ) (a : TAtom) → Each WritesNarrow (tatom_text o a)
  narrow_tatom o (nat_type at) = (tt, tt)
  narrow_tatom o (paren_type at t close) = (tt, each_append WritesNarrow (type_text (suc o) t) _ (narrow_type (suc o) t) (tt, tt))

-- a phrase for these bytes, which stand before others from a place on
pub record Writes (X : Type 0) (part : X → Part) (text : ℕ → ℕ → ℕ → X →
    List Written) (bytes : List ℕ) (onto : List ℕ → List ℕ) (t : NamedTree) (h : ℕ) (S : ℕ → Type 0) (at : ℕ) : Type 0 where
  pub phrase : X
  pub same : placeless (part phrase).tree ≡ placeless t
  pub high : (part phrase).height ≡ h
  pub shallow : (o left extra : ℕ) → left < most_open → S o → Each IsShallow (text o left extra phrase)
  pub narrow : (o left extra : ℕ) → Each WritesNarrow (text o left extra phrase)
  pub splits : (o left extra : ℕ) (rest : List ℕ) (items : List Placed) → Clear rest → Splits (at + length bytes) rest items →
      Splits at (onto rest) (map placed (text o left extra phrase) ++ items)

-- the tokens of each kind of phrase; only those of an atom depend on what stands left of it
abbrev pub as_expr : ℕ → ℕ → ℕ → Expr → List Written
as_expr o left extra e = expr_text o e

abbrev pub as_sum : ℕ → ℕ → ℕ → Sum → List Written
as_sum o left extra s = sum_text o s

abbrev pub as_product : ℕ → ℕ → ℕ → Product → List Written
as_product o left extra p = product_text o p

abbrev pub as_app : ℕ → ℕ → ℕ → App → List Written
as_app o left extra f = app_text o f

-- such a phrase of each kind
abbrev pub WritesExpr : List ℕ → (List ℕ → List ℕ) → NamedTree → ℕ → (ℕ → Type 0) → ℕ → Type 0
WritesExpr bytes onto t h S at = Writes Expr expr_part as_expr bytes onto t h S at

abbrev pub WritesSum : List ℕ → (List ℕ → List ℕ) → NamedTree → ℕ → (ℕ → Type 0) → ℕ → Type 0
WritesSum bytes onto t h S at = Writes Sum sum_part as_sum bytes onto t h S at

abbrev pub WritesProduct : List ℕ → (List ℕ → List ℕ) → NamedTree → ℕ → (ℕ → Type 0) → ℕ → Type 0
WritesProduct bytes onto t h S at = Writes Product product_part as_product bytes onto t h S at

abbrev pub WritesApp : List ℕ → (List ℕ → List ℕ) → NamedTree → ℕ → (ℕ → Type 0) → ℕ → Type 0
WritesApp bytes onto t h S at = Writes App app_part_of as_app bytes onto t h S at

abbrev pub WritesAtom : List ℕ → (List ℕ → List ℕ) → NamedTree → ℕ → (ℕ → Type 0) → ℕ → Type 0
WritesAtom bytes onto t h S at = Writes Atom atom_part atom_text bytes onto t h S at

module _ (bytes : List ℕ) (onto : List ℕ → List ℕ) (t : NamedTree) (h : ℕ) (S : ℕ → Type 0) where
  -- a phrase is one of the next level too
  in_app : (at : ℕ) → WritesAtom bytes onto t h S at → WritesApp bytes onto t h S at
  in_app at w =
      record {
        phrase = only_atom w.phrase;
        same = w.same;
        high = w.high;
        shallow = λ o left extra lt s. w.shallow o 0 0 some_left s;
        narrow = λ o left extra. w.narrow o 0 0;
        splits = λ o left extra rest items c k. w.splits o 0 0 rest items c k;
      }

  in_product : (at : ℕ) → WritesApp bytes onto t h S at → WritesProduct bytes onto t h S at
  in_product at w =
      record {
        phrase = only_app w.phrase;
        same = w.same;
        high = w.high;
        shallow = λ o left extra lt s. w.shallow o left extra lt s;
        narrow = λ o left extra. w.narrow o left extra;
        splits = λ o left extra rest items c k. w.splits o left extra rest items c k;
      }

  in_sum : (at : ℕ) → WritesProduct bytes onto t h S at → WritesSum bytes onto t h S at
  in_sum at w =
      record {
        phrase = only_product w.phrase;
        same = w.same;
        high = w.high;
        shallow = λ o left extra lt s. w.shallow o left extra lt s;
        narrow = λ o left extra. w.narrow o left extra;
        splits = λ o left extra rest items c k. w.splits o left extra rest items c k;
      }

  in_expr : (at : ℕ) → WritesSum bytes onto t h S at → WritesExpr bytes onto t h S at
  in_expr at w =
      record {
        phrase = only_sum w.phrase;
        same = w.same;
        high = w.high;
        shallow = λ o left extra lt s. w.shallow o left extra lt s;
        narrow = λ o left extra. w.narrow o left extra;
        splits = λ o left extra rest items c k. w.splits o left extra rest items c k;
      }

  -- and an atom where it stands in parentheses
  in_parens : (at : ℕ) → WritesExpr bytes onto t h S (at + 1) →
      WritesAtom (codes "(" ++ bytes ++ codes ")") (λ r. 40 ∷ onto (41 ∷ r)) t (suc h) (λ o. (o < most_open) × S (suc o)) at
  in_parens at w =
      let close : ℕ = (at + 1) + length bytes in
      record {
        phrase = parens at w.phrase close;
        same = w.same;
        high = ap suc w.high;
        shallow = λ o left extra lt s. (
          omega (arith, lt, s.0),
          each_append IsShallow (expr_text (suc o) w.phrase) (plain close Close ∷
              []) (w.shallow (suc o) 0 0 some_left s.1) (some_left, tt),
        );
        narrow = λ o left extra. (
          tt,
          each_append WritesNarrow (expr_text (suc o) w.phrase) (plain close Close ∷ [])
              (w.narrow (suc o) 0 0) (tt, tt),
        );
        splits = λ o left extra rest items c k.
            open_piece at (onto (41 ∷ rest)) (map placed (expr_text (suc o) w.phrase ++ plain close Close ∷ []) ++ items)
            (both_parts (at + 1) (onto (41 ∷ rest)) (expr_text (suc o) w.phrase) (plain close Close ∷ []) items
            (w.splits (suc o) 0 0 (41 ∷ rest) (at_place close Close ∷ items) (closes rest)
            (close_piece close rest items (place_at (at + length (codes "(" ++ bytes ++ codes ")")) (close + 1) rest items
            (omega (arith, length-append bytes (codes ")"))) k))));
      }

-- a phrase on each level
pub record Forms (lvl : ℕ) (bytes : List ℕ) (onto : List ℕ → List ℕ) (t : NamedTree) (h : ℕ) (S : ℕ → Type 0) : Type 0 where
  pub expr : (at : ℕ) → WritesExpr bytes onto t h S at
  pub sum : (at : ℕ) → WritesSum (fitted 3 lvl bytes) (λ r. fit_onto 3 lvl onto r) t (fit_height 3 lvl h) (λ o. fit_shallow 3 lvl S o)
      at
  pub product : (at : ℕ) → WritesProduct (fitted 2 lvl bytes) (λ r. fit_onto 2 lvl onto r) t (fit_height 2 lvl h)
      (λ o. fit_shallow 2 lvl S o) at
  pub app : (at : ℕ) → WritesApp (fitted 1 lvl bytes) (λ r. fit_onto 1 lvl onto r) t (fit_height 1 lvl h) (λ o. fit_shallow 1 lvl S o)
      at
  pub atom : (at : ℕ) → WritesAtom (fitted 0 lvl bytes) (λ r. fit_onto 0 lvl onto r) t (fit_height 0 lvl h)
      (λ o. fit_shallow 0 lvl S o) at

module _ (bytes : List ℕ) (onto : List ℕ → List ℕ) (t : NamedTree) (h : ℕ) (S : ℕ → Type 0) where
  -- a term has a phrase on each level, where it has one on its own: in parentheses below it
  from_atom : ((at : ℕ) → WritesAtom bytes onto t h S at) → Forms 0 bytes onto t h S
  from_atom w =
      let app : (at : ℕ) → WritesApp bytes onto t h S at = λ at. in_app bytes onto t h S at (w at) in
      let product : (at : ℕ) → WritesProduct bytes onto t h S at = λ at. in_product bytes onto t h S at (app at) in
      let sum : (at : ℕ) → WritesSum bytes onto t h S at = λ at. in_sum bytes onto t h S at (product at) in
      record { expr = λ at. in_expr bytes onto t h S at (sum at); sum = sum; product = product; app = app; atom = w }

  from_app : ((at : ℕ) → WritesApp bytes onto t h S at) → Forms 1 bytes onto t h S
  from_app w =
      let product : (at : ℕ) → WritesProduct bytes onto t h S at = λ at. in_product bytes onto t h S at (w at) in
      let sum : (at : ℕ) → WritesSum bytes onto t h S at = λ at. in_sum bytes onto t h S at (product at) in
      let expr : (at : ℕ) → WritesExpr bytes onto t h S at = λ at. in_expr bytes onto t h S at (sum at) in
      record { expr = expr; sum = sum; product = product; app = w; atom = λ at. in_parens bytes onto t h S at (expr (at + 1)) }

  from_product : ((at : ℕ) → WritesProduct bytes onto t h S at) → Forms 2 bytes onto t h S
  from_product w =
      let sum : (at : ℕ) → WritesSum bytes onto t h S at = λ at. in_sum bytes onto t h S at (w at) in
      let expr : (at : ℕ) → WritesExpr bytes onto t h S at = λ at. in_expr bytes onto t h S at (sum at) in
      record {
        expr = expr;
        sum = sum;
        product = w;
        app = λ at. in_app _ _ t _ _ at (in_parens bytes onto t h S at (expr (at + 1)));
        atom =
            λ at. in_parens bytes onto t h S at (expr (at + 1));
      }

  from_sum : ((at : ℕ) → WritesSum bytes onto t h S at) → Forms 3 bytes onto t h S
  from_sum w =
      let expr : (at : ℕ) → WritesExpr bytes onto t h S at = λ at. in_expr bytes onto t h S at (w at) in
      record {
        expr = expr;
        sum = w;
        product = λ at. in_product _ _ t _ _ at (in_app _ _ t _ _ at (in_parens bytes onto t h S at (expr (at + 1))));
        app = λ at. in_app _ _ t _ _ at (in_parens bytes onto t h S at (expr (at + 1)));
        atom = λ at. in_parens bytes onto t h S at (expr (at + 1));
      }

  from_expr : ((at : ℕ) → WritesExpr bytes onto t h S at) → Forms 4 bytes onto t h S
  from_expr w =
      record {
        expr = w;
        sum = λ at. in_sum _ _ t _ _ at (in_product _ _ t _ _ at (in_app _ _ t _ _ at (in_parens bytes onto t h S at (w (at + 1)))));
        product = λ at. in_product _ _ t _ _ at (in_app _ _ t _ _ at (in_parens bytes onto t h S at (w (at + 1))));
        app = λ at. in_app _ _ t _ _ at (in_parens bytes onto t h S at (w (at + 1)));
        atom = λ at. in_parens bytes onto t h S at (w (at + 1));
      }

-- for what is printed of the tree
abbrev pub FormsOf : NamedTree → Type 0
FormsOf t = Forms (level t) (term_text t) (λ r. own_onto t r) t (own_height t) (λ o. own_shallow t o)

-- a number and a name
number_form : (i n : ℕ) → n < 2 ^ 64 → FormsOf (number_at i n)
number_form i n small =
    from_atom (decimal n) (λ r. decimal n ++ r) (number_at i n) 1 (λ o. Unit {0})
    (λ at. record {
      phrase = numeral at n;
      same = refl;
      high = refl;
      shallow = λ o left extra lt s. (lt, tt);
      narrow = λ o left extra. (small, tt);
      splits = λ o left extra rest items c k. number_piece n at rest items small c k;
    })

-- a name that can be read has its phrases
name_form : (i : ℕ) (x : List ℕ) → Fine (name_at i x) → FormsOf (name_at i x)
name_form i x fine =
    from_atom x (λ r. chars x ++ r) (name_at i x) 1 (λ o. Unit {0})
    (λ at. record {
      phrase = variable at x;
      same = refl;
      high = refl;
      shallow = λ o left extra lt s. (lt, tt);
      narrow = λ o left extra. (tt, tt);
      splits = λ o left extra rest items c k. name_piece x at rest items fine c k;
    })

-- a word and its operand
word_form : (i : ℕ) (w : Word) (a : NamedTree) → FormsOf a → FormsOf (word_at i w a)
word_form i w a f =
    from_atom (term_text (word_at i w a)) (λ r. own_onto (word_at i w a) r) (word_at i w a) (own_height (word_at i w a))
    (λ o. own_shallow (word_at i w a) o)
    (λ at.
    let inner : List ℕ = fitted 0 (level a) (term_text a) in
    let p : WritesAtom inner (λ r. fit_onto 0 (level a) (λ r. own_onto a r) r) a (fit_height 0 (level a) (own_height a))
    (λ o. fit_shallow 0 (level a) (λ o. own_shallow a o) o) (at + length (word_text w)) = f.atom (at + length (word_text w)) in
    record {
      phrase = prefixed at w p.phrase;
      same = ap (λ z. word_at 0 w z) p.same;
      high = ap suc p.high;
      shallow = λ o left extra lt s. (omega (arith, lt, s.0), p.shallow (suc o) 0 0 some_left s.1);
      narrow = λ o left extra. (tt, p.narrow (suc o) 0 0);
      splits = λ o left extra rest items c k.
          word_splits w at (fit_onto 0 (level a) (λ r. own_onto a r) rest) (map placed (atom_text (suc o) 0 0 p.phrase) ++ items)
          (p.splits (suc o) 0 0 rest items c (place_at (at + length (word_text w ++ inner)) ((at + length (word_text w)) + length inner)
          rest items (omega (arith, length-append (word_text w) inner)) k));
    })

-- a function and its argument
apply_form : (i : ℕ) (f a : NamedTree) → FormsOf f → FormsOf a → FormsOf (apply_at i f a)
apply_form i f a u v =
    from_app (term_text (apply_at i f a)) (λ r. own_onto (apply_at i f a) r) (apply_at i f a) (own_height (apply_at i f a))
    (λ o. own_shallow (apply_at i f a) o)
    (λ at.
    let left_bytes : List ℕ = fitted 1 (level f) (term_text f) in
    let right_bytes : List ℕ = fitted 0 (level a) (term_text a) in
    let right_onto : List ℕ → List ℕ = λ r. fit_onto 0 (level a) (λ r. own_onto a r) r in
    let mid : ℕ = at + length left_bytes in
    let p = u.app at in
    let q = v.atom (mid + 1) in
    record {
      phrase = applied p.phrase q.phrase;
      same = λ k. apply_at 0 (p.same k) (q.same k);
      high = λ k. suc (max (p.high k) (q.high k));
      shallow = λ o left extra lt s.
          let low : (app_part_of p.phrase).height < most_open = omega (arith, p.high, s.1) in
          each_append IsShallow (app_text o p.phrase) (atom_text o (app_part_of p.phrase).height 1 q.phrase) (p.shallow o 0 0 some_left s.0)
          (q.shallow o (app_part_of p.phrase).height 1 low s.2);
      narrow = λ o left extra. each_append WritesNarrow (app_text o p.phrase) (atom_text o (app_part_of p.phrase).height 1 q.phrase)
          (p.narrow o 0 0) (q.narrow o (app_part_of p.phrase).height 1);
      splits = λ o left extra rest items c k.
          both_parts at (own_onto (apply_at i f a) rest) (app_text o p.phrase) (atom_text o (app_part_of p.phrase).height 1 q.phrase) items
          (p.splits o 0 0 (32 ∷ right_onto rest) (map placed (atom_text o (app_part_of p.phrase).height 1 q.phrase) ++
          items) (space (right_onto rest))
          (blank_piece mid (right_onto rest) (map placed (atom_text o (app_part_of p.phrase).height 1 q.phrase) ++ items)
          (q.splits o (app_part_of p.phrase).height 1 rest items c
          (place_at (at + length (left_bytes ++ codes " " ++ right_bytes)) ((mid + 1) + length right_bytes) rest items
          (omega (arith, length-append (left_bytes ++ codes " ") right_bytes, length-append left_bytes (codes " "))) k))));
    })

-- An operator between phrases of two kinds: the form that makes of both operands a phrase of the left one's kind. What such a phrase
-- stands for and is written with is told once for sums and products.
record Between (op : Operator) (X Y : Type 0) (part : X → Part) (text : ℕ → ℕ → ℕ → X → List Written) (right_part : Y →
    Part) (right_text : ℕ → ℕ → ℕ → Y → List Written) : Type 0 where
  form : X → ℕ → Y → X
  parted : (l : X) (at : ℕ) (r : Y) → part (form l at r) ≡ binary op (part l) (right_part r)
  written : (o left extra : ℕ) (l : X) (at : ℕ) (r : Y) → text o left extra (form l at r) ≡ text o 0 0 l ++
      marked at (Sign op) (part l).height 1 ∷ right_text o 0 0 r

in_sums : (op : Operator) → IsTrue (is_sum op) → Between op Sum Product sum_part as_sum product_part as_product
in_sums op is = record {
  form = λ s at p. summed s at op is p;
  parted = λ l at r. refl;
  written = λ o left extra l at r. refl;
}

in_products : (op : Operator) → IsFalse (is_sum op) → Between op Product App product_part as_product app_part_of as_app
in_products op is = record {
  form = λ m at f. multiplied m at op is f;
  parted = λ l at r. refl;
  written = λ o left extra l at r. refl;
}

-- two operands and the operator between them
module _
    (op : Operator) (X Y : Type 0) (part : X → Part) (text : ℕ → ℕ → ℕ → X → List Written) (right_part : Y →
    Part) (right_text : ℕ → ℕ → ℕ → Y → List Written)
    (f : Between op X Y part text right_part right_text)
    (a b : NamedTree) (a_bytes b_bytes : List ℕ) (a_onto b_onto : List ℕ → List ℕ) (a_height b_height : ℕ) (A B : ℕ →
    Type 0) where
  operated : (i at : ℕ) → Writes X part text a_bytes a_onto a a_height A at
      → Writes Y right_part right_text b_bytes b_onto b b_height B ((at + length a_bytes) + length (op_text op))
      → Writes X part text (a_bytes ++ op_text op ++ b_bytes) (λ r. a_onto (op_text op ++ b_onto r)) (binary_at i op a b)
      (suc (max a_height b_height)) (λ o. A o × (a_height < most_open) × B o) at
  operated i at p q =
      let mid : ℕ = at + length a_bytes in
      let whole : X = f.form p.phrase (mid + 1) q.phrase in
      let front : ℕ → List Written = λ o. text o 0 0 p.phrase in
      let behind : ℕ → List Written = λ o. marked (mid + 1) (Sign op) (part p.phrase).height 1 ∷ right_text o 0 0 q.phrase in
      let is : part whole ≡ binary op (part p.phrase) (right_part q.phrase) = f.parted p.phrase (mid + 1) q.phrase in
      let writes : (o left extra : ℕ) → text o left extra whole ≡ front o ++ behind o =
      λ o left extra. f.written o left extra p.phrase (mid + 1) q.phrase in
      record {
        phrase = whole;
        same = ap (λ (w : Part). placeless w.tree) is ∙ (λ k. binary_at 0 op (p.same k) (q.same k));
        high = ap (λ (w : Part). w.height) is ∙ (λ k. suc (max (p.high k) (q.high k)));
        shallow = λ o left extra lt s.
            let low : (part p.phrase).height < most_open = omega (arith, p.high, s.1) in
            subst (λ z. Each IsShallow z) (sym (writes o left extra))
            (each_append IsShallow (front o) (behind o) (p.shallow o 0 0 some_left s.0) (low, q.shallow o 0 0 some_left s.2));
        narrow = λ o left extra. subst (λ z. Each WritesNarrow z) (sym (writes o left extra))
            (each_append WritesNarrow (front o) (behind o) (p.narrow o 0 0) (tt, q.narrow o 0 0));
        splits = λ o left extra rest items c k.
            subst (λ z. Splits at (a_onto (op_text op ++ b_onto rest)) (map placed z ++ items)) (sym (writes o left extra))
            (both_parts at (a_onto (op_text op ++ b_onto rest)) (front o) (behind o) items
            (p.splits o 0 0 (op_text op ++ b_onto rest) (map placed (behind o) ++ items) (op_clear op (b_onto rest))
            (op_piece op mid (b_onto rest) (map placed (right_text o 0 0 q.phrase) ++ items)
            (q.splits o 0 0 rest items c
            (place_at (at + length (a_bytes ++ op_text op ++ b_bytes)) ((mid + length (op_text op)) + length b_bytes) rest items
            (omega (arith, length-append (a_bytes ++ op_text op) b_bytes, length-append a_bytes (op_text op))) k)))));
      }

-- a phrase for an operator between its operands, where its form and its right operand have these levels
abbrev BinaryForms : ℕ → Operator → NamedTree → NamedTree → ℕ → ℕ → Type 0
BinaryForms i op a b m l =
    Forms m (fitted m (level a) (term_text a) ++ op_text op ++ fitted l (level b) (term_text b))
    (λ r. fit_onto m (level a) (λ r. own_onto a r) (op_text op ++ fit_onto l (level b) (λ r. own_onto b r) r)) (binary_at i op a b)
    (suc (max (fit_height m (level a) (own_height a)) (fit_height l (level b) (own_height b))))
    (λ o. fit_shallow m (level a) (λ p. own_shallow a p) o × (fit_height m (level a) (own_height a) < most_open) ×
    fit_shallow l (level b) (λ p. own_shallow b p) o)

-- each operator between its operands
binary_form : (i : ℕ) (op : Operator) (a b : NamedTree) → FormsOf a → FormsOf b → FormsOf (binary_at i op a b)
binary_form i op a b u v = go (is_sum op) refl
  where
    go : (s : Bool) → is_sum op ≡ s → BinaryForms i op a b (op_level op) (right_level op)
    go true is =
        subst (λ m. BinaryForms i op a b m (right_level op)) (sym (sum_level op is))
        (subst (λ l. BinaryForms i op a b 3 l) (sym (sum_right op is))
        (from_sum _ _ (binary_at i op a b) _ _
        (λ at. operated op Sum Product sum_part as_sum product_part as_product (in_sums op is) a b _ _ _ _ _ _ _ _ i at (u.sum at)
        (v.product _))))
    go false is =
        subst (λ m. BinaryForms i op a b m (right_level op)) (sym (product_level op is))
        (subst (λ l. BinaryForms i op a b 2 l) (sym (product_right op is))
        (from_product _ _ (binary_at i op a b) _ _
        (λ at. operated op Product App product_part as_product app_part_of as_app (in_products op is) a b _ _ _ _ _ _ _ _ i at
        (u.product at) (v.app _))))

-- a pair
pair_form : (i : ℕ) (a b : NamedTree) → FormsOf a → FormsOf b → FormsOf (pair_at i a b)
pair_form i a b u v =
    from_atom (term_text (pair_at i a b)) (λ r. own_onto (pair_at i a b) r) (pair_at i a b) (own_height (pair_at i a b))
    (λ o. own_shallow (pair_at i a b) o)
    (λ at.
    let comma : ℕ = (at + 1) + length (term_text a) in
    let close : ℕ = (comma + 2) + length (term_text b) in
    let p = u.expr (at + 1) in
    let q = v.expr (comma + 2) in
    record {
      phrase = pairing at p.phrase comma q.phrase close;
      same = λ k. pair_at 0 (p.same k) (q.same k);
      high = λ k. suc (max (p.high k) (q.high k));
      shallow = λ o left extra lt s. (
        omega (arith, lt, s.0),
        each_append IsShallow (expr_text (suc o) p.phrase) (marked comma Comma 0 1 ∷
            (expr_text (suc o) q.phrase ++ plain close Close ∷ [])) (p.shallow (suc o) 0 0 some_left s.1) (
              some_left,
              each_append IsShallow (expr_text (suc o) q.phrase) (plain close Close ∷
                  []) (q.shallow (suc o) 0 0 some_left s.2) (some_left, tt),
            ),
      );
      narrow = λ o left extra. (
        tt,
        each_append WritesNarrow (expr_text (suc o) p.phrase) (marked comma Comma 0 1 ∷
            (expr_text (suc o) q.phrase ++ plain close Close ∷ [])) (p.narrow (suc o) 0 0)
            (tt, each_append WritesNarrow (expr_text (suc o) q.phrase) (plain close Close ∷ []) (q.narrow (suc o) 0 0) (tt, tt)),
      );
      splits = λ o left extra rest items c k.
          let behind : List Placed = map placed (expr_text (suc o) q.phrase) ++ (at_place close Close ∷ items) in
          open_piece at (own_onto a (44 ∷ 32 ∷ own_onto b (41 ∷ rest)))
          (map placed (expr_text (suc o) p.phrase ++ marked comma Comma 0 1 ∷
          (expr_text (suc o) q.phrase ++ plain close Close ∷ [])) ++ items)
          (both_parts (at + 1) (own_onto a (44 ∷ 32 ∷ own_onto b (41 ∷ rest))) (expr_text (suc o) p.phrase)
          (marked comma Comma 0 1 ∷ (expr_text (suc o) q.phrase ++ plain close Close ∷ [])) items
          (p.splits (suc o) 0 0 (44 ∷ 32 ∷ own_onto b (41 ∷ rest)) (at_place comma Comma ∷
          (map placed (expr_text (suc o) q.phrase ++ plain close Close ∷ []) ++ items)) (comma_clear (32 ∷ own_onto b (41 ∷ rest)))
          (comma_piece comma (32 ∷ own_onto b (41 ∷ rest)) (map placed (expr_text (suc o) q.phrase ++ plain close Close ∷ []) ++
          items)
          (blank_piece (comma + 1) (own_onto b (41 ∷ rest)) (map placed (expr_text (suc o) q.phrase ++ plain close Close ∷ []) ++ items)
          (place_at (comma + 2) ((comma + 1) + 1) (own_onto b (41 ∷ rest))
          (map placed (expr_text (suc o) q.phrase ++ plain close Close ∷ []) ++ items) (omega arith)
          (both_parts (comma + 2) (own_onto b (41 ∷ rest)) (expr_text (suc o) q.phrase) (plain close Close ∷ []) items
          (q.splits (suc o) 0 0 (41 ∷ rest) (at_place close Close ∷ items) (closes rest)
          (close_piece close rest items
          (place_at (at + length (codes "(" ++ term_text a ++ codes ", " ++ term_text b ++ codes ")")) (close + 1) rest items
          (omega (
            arith,
            length-append (codes "(" ++ term_text a ++ codes ", " ++ term_text b) (codes ")"),
            length-append (codes "(" ++ term_text a ++ codes ", ") (term_text b),
            length-append (codes "(" ++ term_text a) (codes ", "),
            length-append (codes "(") (term_text a),
          )) k)))))))));
    })

-- `ifz`
choice_form : (i : ℕ) (a b d : NamedTree) → FormsOf a → FormsOf b → FormsOf d → FormsOf (ifz_at i a b d)
choice_form i a b d u v w =
    from_expr (term_text (ifz_at i a b d)) (λ r. own_onto (ifz_at i a b d) r) (ifz_at i a b d) (own_height (ifz_at i a b d))
    (λ o. own_shallow (ifz_at i a b d) o)
    (λ at.
    let yes : ℕ = (at + 4) + length (term_text a) in
    let no : ℕ = (yes + 6) + length (term_text b) in
    let p = u.expr (at + 4) in
    let q = v.expr (yes + 6) in
    let r = w.expr (no + 6) in
    record {
      phrase = choice at p.phrase (yes + 1) q.phrase (no + 1) r.phrase;
      same = λ k. ifz_at 0 (p.same k) (q.same k) (r.same k);
      high = λ k. suc (max (p.high k) (max (q.high k) (r.high k)));
      shallow = λ o left extra lt s. (
        s.0,
        each_append IsShallow (expr_text (suc o) p.phrase) (plain (yes + 1) Then ∷
            (expr_text (suc o) q.phrase ++ plain (no + 1) Else ∷ expr_text (suc o) r.phrase)) (p.shallow (suc o) 0 0 some_left s.1) (
              some_left,
              each_append IsShallow (expr_text (suc o) q.phrase) (plain (no + 1) Else ∷
                  expr_text (suc o) r.phrase) (q.shallow (suc o) 0 0 some_left s.2) (some_left, r.shallow (suc o) 0 0 some_left s.3),
            ),
      );
      narrow = λ o left extra. (
        tt,
        each_append WritesNarrow (expr_text (suc o) p.phrase) (plain (yes + 1) Then ∷
            (expr_text (suc o) q.phrase ++ plain (no + 1) Else ∷ expr_text (suc o) r.phrase)) (p.narrow (suc o) 0 0) (
              tt,
              each_append WritesNarrow (expr_text (suc o) q.phrase) (plain (no + 1) Else ∷
                  expr_text (suc o) r.phrase) (q.narrow (suc o) 0 0) (tt, r.narrow (suc o) 0 0),
            ),
      );
      splits = λ o left extra rest items c k.
          let third : List Written = plain (no + 1) Else ∷ expr_text (suc o) r.phrase in
          let second : List Written = plain (yes + 1) Then ∷ (expr_text (suc o) q.phrase ++ third) in
          let behind_no : List ℕ = 32 ∷ 101 ∷ 108 ∷ 115 ∷ 101 ∷ 32 ∷ own_onto d rest in
          let behind_yes : List ℕ = 32 ∷ 116 ∷ 104 ∷ 101 ∷ 110 ∷ 32 ∷ own_onto b behind_no in
          ifz_piece at (own_onto a behind_yes) (map placed (expr_text (suc o) p.phrase ++ second) ++ items)
          (both_parts (at + 4) (own_onto a behind_yes) (expr_text (suc o) p.phrase) second items
          (p.splits (suc o) 0 0 behind_yes (map placed second ++ items)
          (space (116 ∷ 104 ∷ 101 ∷ 110 ∷ 32 ∷ own_onto b behind_no))
          (then_piece yes (own_onto b behind_no) (map placed (expr_text (suc o) q.phrase ++ third) ++ items)
          (both_parts (yes + 6) (own_onto b behind_no) (expr_text (suc o) q.phrase) third items
          (q.splits (suc o) 0 0 behind_no (map placed third ++ items) (space (101 ∷ 108 ∷ 115 ∷ 101 ∷ 32 ∷ own_onto d rest))
          (else_piece no (own_onto d rest) (map placed (expr_text (suc o) r.phrase) ++ items)
          (r.splits (suc o) 0 0 rest items c
          (place_at (at + length (term_text (ifz_at i a b d))) ((no + 6) + length (term_text d)) rest items
          (omega (
            arith,
            length-append (codes "ifz " ++ term_text a ++ codes " then " ++ term_text b ++ codes " else ") (term_text d),
            length-append (codes "ifz " ++ term_text a ++ codes " then " ++ term_text b) (codes " else "),
            length-append (codes "ifz " ++ term_text a ++ codes " then ") (term_text b),
            length-append (codes "ifz " ++ term_text a) (codes " then "),
            length-append (codes "ifz ") (term_text a),
          )) k))))))));
    })

-- the words of binders are of one length
binder_length : (b : Binder) → length (binder_text b) ≡ 4
binder_length the_fun = refl
binder_length the_fix = refl

-- `fun` and `fix`
binding_form : (i : ℕ) (b : Binder) (x : List ℕ) (t : _) (m : NamedTree) → Fine (name_at i x) → FormsOf m →
    FormsOf (bind_at i b x t m)
binding_form i b x t m fine u =
    from_expr (term_text (bind_at i b x t m)) (λ r. own_onto (bind_at i b x t m) r) (bind_at i b x t m) (own_height (bind_at i b x t m))
    (λ o. own_shallow (bind_at i b x t m) o)
    (λ at.
    let colon : ℕ = (at + 4) + length x in
    let dot : ℕ = (colon + 1) + length (ty_text t) in
    let q = (ty_forms t).as_type (colon + 1) in
    let p = u.expr (dot + 2) in
    record {
      phrase = binding at b (at + 4) x colon q.phrase dot p.phrase;
      same = λ k. bind_at 0 b x (q.same k) (p.same k);
      high = ap suc p.high;
      shallow = λ o left extra lt s. (
        s.0,
        (
          some_left,
          (
            some_left,
            each_append IsShallow (type_text (suc o) q.phrase) (plain dot Dot ∷
                expr_text (suc o) p.phrase) (q.shallow (suc o) s.1) (some_left, p.shallow (suc o) 0 0 some_left s.2),
          ),
        ),
      );
      narrow = λ o left extra. (
        tt,
        (
          tt,
          (
            tt,
            each_append WritesNarrow (type_text (suc o) q.phrase) (plain dot Dot ∷
                expr_text (suc o) p.phrase) (narrow_type (suc o) q.phrase) (tt, p.narrow (suc o) 0 0),
          ),
        ),
      );
      splits = λ o left extra rest items c k.
          let second : List Written = plain dot Dot ∷ expr_text (suc o) p.phrase in
          let all : List Placed = map placed (type_text (suc o) q.phrase ++ second) ++ items in
          let behind : List ℕ = 46 ∷ 32 ∷ own_onto m rest in
          binder_splits b at (chars x ++ (58 ∷ ty_onto t behind)) (at_place (at + 4) (Name x) ∷ at_place colon Colon ∷ all)
          (name_piece x (at + 4) (58 ∷ ty_onto t behind) (at_place colon Colon ∷ all) fine (colon_clear (ty_onto t behind))
          (colon_piece colon (ty_onto t behind) all
          (both_parts (colon + 1) (ty_onto t behind) (type_text (suc o) q.phrase) second items
          (q.splits (suc o) behind (map placed second ++ items) (dot_clear (32 ∷ own_onto m rest))
          (dot_piece dot (32 ∷ own_onto m rest) (map placed (expr_text (suc o) p.phrase) ++ items)
          (blank_piece (dot + 1) (own_onto m rest) (map placed (expr_text (suc o) p.phrase) ++ items)
          (place_at (dot + 2) ((dot + 1) + 1) (own_onto m rest) (map placed (expr_text (suc o) p.phrase) ++ items) (omega arith)
          (p.splits (suc o) 0 0 rest items c
          (place_at (at + length (term_text (bind_at i b x t m))) ((dot + 2) + length (term_text m)) rest items
          (omega (
            arith,
            binder_length b,
            length-append (binder_text b ++ x ++ codes ":" ++ ty_text t ++ codes ". ") (term_text m),
            length-append (binder_text b ++ x ++ codes ":" ++ ty_text t) (codes ". "),
            length-append (binder_text b ++ x ++ codes ":") (ty_text t),
            length-append (binder_text b ++ x) (codes ":"),
            length-append (binder_text b) x,
          )) k)))))))));
    })

-- each tree has its phrases
pub forms : (t : NamedTree) → Fine t → FormsOf t
forms (number_at i n) h = number_form i n h
forms (name_at i x) h = name_form i x h
forms (word_at i w a) h = word_form i w a (forms a h)
forms (binary_at i op a b) h = binary_form i op a b (forms a h.0) (forms b h.1)
forms (pair_at i a b) h = pair_form i a b (forms a h.0) (forms b h.1)
forms (ifz_at i c p q) h = choice_form i c p q (forms c h.0) (forms p h.1) (forms q h.2)
forms (bind_at i b x t m) h = binding_form i b x t m h.0 (forms m h.1)
forms (apply_at i f a) h = apply_form i f a (forms f h.0) (forms a h.1)
