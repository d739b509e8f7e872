-- The count and the height of what is read.
use Rattle.std.proofs.Common.{◌≡◌, ℕ, suc, ◌+◌, ◌*◌, ◌<◌, ◌≤◌, List, [], ◌∷◌, ◌++◌, refl, subst, arith}
use Rattle.pcf_values.specs.Most.{most_nodes, most_open}
use Rattle.pcf_values.specs.Named.{NamedTree, number_at, name_at, word_at, binary_at, pair_at, ifz_at, bind_at, apply_at}
use Rattle.pcf_values.specs.NamedSize.{named_size}
use Rattle.pcf_values.specs.Named.{named_height}
use Rattle.pcf_reader.specs.Tokens.{Close, Dot, Comma, Sign, Arrow, Then, Else, End, star}
use Rattle.pcf_reader.specs.Grammar.{Type_, only_ptype, arrow_type, PType, only_tatom, times_type, TAtom, nat_type, paren_type, Expr}
use Rattle.pcf_reader.specs.Grammar.{binding, choice, only_sum, Sum, only_product, summed, Product, only_app, multiplied, App, only_atom}
use Rattle.pcf_reader.specs.Grammar.{applied, Atom, numeral, variable, parens, pairing, prefixed, type_ty, ptype_ty, tatom_ty, expr_part}
use Rattle.pcf_reader.specs.Grammar.{sum_part, product_part, app_part_of, atom_part, Written, plain, marked, type_text, ptype_text}
use Rattle.pcf_reader.specs.Grammar.{tatom_text, expr_text, sum_text, product_text, app_text, atom_text, Program, program_text}
use Rattle.pcf_reader.specs.Text.{count_of, Derives, IsShallow, Each}
use Rattle.pcf_reader.specs.Sizes.{nats, node_count, most_read_height}
use Rattle.pcf_reader.specs.Laws.{Bounded}
use Rattle.pcf_reader.proofs.Lists.{each_left, each_right, count-append}

-- what a type's tokens count is how often `nat` stands in it
mutual
  pub count_type : (o : ℕ) (t : Type_) → count_of (type_text o t) ≡ nats (type_ty t)
  count_type o (only_ptype p) = count_ptype o p
  count_type o (arrow_type p at t) = omega (
    arith,
    count-append (ptype_text o p) (marked at Arrow o 0 ∷ type_text (suc o) t),
    count_ptype o p,
    count_type (suc o) t,
  )

  pub count_ptype : (o : ℕ) (p : PType) → count_of (ptype_text o p) ≡ nats (ptype_ty p)
  count_ptype o (only_tatom a) = count_tatom o a
  count_ptype o (times_type a at p) = omega (
    arith,
    count-append (tatom_text o a) (marked at star o 0 ∷ ptype_text (suc o) p),
    count_tatom o a,
    count_ptype (suc o) p,
  )

  pub count_tatom : (o : ℕ) (a : TAtom) → count_of (tatom_text o a) ≡ nats (tatom_ty a)
  count_tatom o (nat_type at) = refl
  count_tatom o (paren_type at t close) = omega (arith, count-append (type_text (suc o) t) (plain close Close ∷ []), count_type (suc o) t)

-- what a term's tokens count is the count of its tree; an atom that is an argument counts one more
mutual
  pub count_expr : (o : ℕ) (e : Expr) → count_of (expr_text o e) ≡ node_count (expr_part e).tree
  count_expr o (binding at b xat x colon t dot e) =
      omega (arith, count-append (type_text (suc o) t) (plain dot Dot ∷ expr_text (suc o) e), count_type (suc o) t, count_expr (suc o) e)
  count_expr o (choice at c i p j q) =
      omega (
        arith,
        count-append (expr_text (suc o) c) (plain i Then ∷ (expr_text (suc o) p ++ plain j Else ∷ expr_text (suc o) q)),
        count-append (expr_text (suc o) p) (plain j Else ∷ expr_text (suc o) q),
        count_expr (suc o) c,
        count_expr (suc o) p,
        count_expr (suc o) q,
      )
  count_expr o (only_sum s) = count_sum o s

  pub count_sum : (o : ℕ) (s : Sum) → count_of (sum_text o s) ≡ node_count (sum_part s).tree
  count_sum o (only_product p) = count_product o p
  count_sum o (summed s at op _ p) = omega (
    arith,
    count-append (sum_text o s) (marked at (Sign op) (sum_part s).height 1 ∷ product_text o p),
    count_sum o s,
    count_product o p,
  )

  pub count_product : (o : ℕ) (p : Product) → count_of (product_text o p) ≡ node_count (product_part p).tree
  count_product o (only_app f) = count_app o f
  count_product o (multiplied m at op _ f) =
      omega (
        arith,
        count-append (product_text o m) (marked at (Sign op) (product_part m).height 1 ∷ app_text o f),
        count_product o m,
        count_app o f,
      )

  pub count_app : (o : ℕ) (f : App) → count_of (app_text o f) ≡ node_count (app_part_of f).tree
  count_app o (only_atom a) = omega (arith, count_atom o 0 0 a)
  count_app o (applied f a) = omega (
    arith,
    count-append (app_text o f) (atom_text o (app_part_of f).height 1 a),
    count_app o f,
    count_atom o (app_part_of f).height 1 a,
  )

  pub count_atom : (o left extra : ℕ) (a : Atom) → count_of (atom_text o left extra a) ≡ extra + node_count (atom_part a).tree
  count_atom o left extra (numeral at n) = omega arith
  count_atom o left extra (variable at x) = omega arith
  count_atom o left extra (parens at e close) =
      omega (arith, count-append (expr_text (suc o) e) (plain close Close ∷ []), count_expr (suc o) e)
  count_atom o left extra (pairing at a comma b close) =
      omega (
        arith,
        count-append (expr_text (suc o) a) (marked comma Comma 0 1 ∷ (expr_text (suc o) b ++ plain close Close ∷ [])),
        count-append (expr_text (suc o) b) (plain close Close ∷ []),
        count_expr (suc o) a,
        count_expr (suc o) b,
      )
  count_atom o left extra (prefixed at w a) = omega (arith, count_atom (suc o) 0 0 a)

-- heights as written are bounded by the open phrases that are left
mutual
  pub low_expr : (o : ℕ) (e : Expr) → o ≤ most_open → Each IsShallow (expr_text o e) →
      (expr_part e).height + 4 * o ≤ most_read_height
  low_expr o (binding at b xat x colon t dot e) le h =
      omega (
        arith,
        h.0,
        low_expr (suc o) e (omega (arith, h.0))
            (each_right IsShallow (type_text (suc o) t) (plain dot Dot ∷ expr_text (suc o) e) h.1.1.1).1,
      )
  low_expr o (choice at c i p j q) le h =
      let c_text : List Written = expr_text (suc o) c in
      let p_text : List Written = expr_text (suc o) p in
      let q_text : List Written = expr_text (suc o) q in
      let behind : Each IsShallow (p_text ++ plain j Else ∷ q_text) =
      (each_right IsShallow c_text (plain i Then ∷ (p_text ++ plain j Else ∷ q_text)) h.1).1 in
      omega (
        arith,
        h.0,
        low_expr (suc o) c (omega (arith, h.0)) (each_left IsShallow c_text (plain i Then ∷ (p_text ++ plain j Else ∷ q_text)) h.1),
        low_expr (suc o) p (omega (arith, h.0)) (each_left IsShallow p_text (plain j Else ∷ q_text) behind),
        low_expr (suc o) q (omega (arith, h.0)) (each_right IsShallow p_text (plain j Else ∷ q_text) behind).1,
      )
  low_expr o (only_sum s) le h = low_sum o s le h

  pub low_sum : (o : ℕ) (s : Sum) → o ≤ most_open → Each IsShallow (sum_text o s) →
      (sum_part s).height + 4 * o ≤ most_read_height
  low_sum o (only_product p) le h = omega (arith, low_product o p le h)
  low_sum o (summed s at op _ p) le h =
      let more : Each IsShallow (marked at (Sign op) (sum_part s).height 1 ∷ product_text o p) =
      each_right IsShallow (sum_text o s) (marked at (Sign op) (sum_part s).height 1 ∷ product_text o p) h in
      omega (arith, le, more.0, low_product o p le more.1)

  pub low_product : (o : ℕ) (p : Product) → o ≤ most_open → Each IsShallow (product_text o p) →
      (product_part p).height + 4 * o + 1 ≤ most_read_height
  low_product o (only_app f) le h = omega (arith, low_app o f le h)
  low_product o (multiplied m at op _ f) le h =
      let more : Each IsShallow (marked at (Sign op) (product_part m).height 1 ∷ app_text o f) =
      each_right IsShallow (product_text o m) (marked at (Sign op) (product_part m).height 1 ∷ app_text o f) h in
      omega (arith, le, more.0, low_app o f le more.1)

  pub low_app : (o : ℕ) (f : App) → o ≤ most_open → Each IsShallow (app_text o f) →
      (app_part_of f).height + 4 * o + 2 ≤ most_read_height
  low_app o (only_atom a) le h = omega (arith, low_atom o 0 0 a le h)
  low_app o (applied f a) le h =
      let more : Each IsShallow (atom_text o (app_part_of f).height 1 a) =
      each_right IsShallow (app_text o f) (atom_text o (app_part_of f).height 1 a) h in
      omega (arith, le, first_left o (app_part_of f).height 1 a more, low_atom o (app_part_of f).height 1 a le more)

  pub low_atom : (o left extra : ℕ) (a : Atom) → o ≤ most_open → Each IsShallow (atom_text o left extra a) →
      (atom_part a).height + 4 * o + 3 ≤ most_read_height
  low_atom o left extra (numeral at n) le h = omega (arith, le)
  low_atom o left extra (variable at x) le h = omega (arith, le)
  low_atom o left extra (parens at e close) le h =
      omega (arith, h.0, low_expr (suc o) e (omega (arith, h.0)) (each_left IsShallow (expr_text (suc o) e) (plain close Close ∷ []) h.1))
  low_atom o left extra (pairing at a comma b close) le h =
      let more : List Written = marked comma Comma 0 1 ∷ (expr_text (suc o) b ++ plain close Close ∷ []) in
      omega (
        arith,
        h.0,
        low_expr (suc o) a (omega (arith, h.0)) (each_left IsShallow (expr_text (suc o) a) more h.1),
        low_expr (suc o) b (omega (arith, h.0))
            (each_left IsShallow (expr_text (suc o) b) (plain close Close ∷ []) (each_right IsShallow (expr_text (suc o) a) more h.1).1),
      )
  low_atom o left extra (prefixed at w a) le h = omega (arith, h.0, low_atom (suc o) 0 0 a (omega (arith, h.0)) h.1)

  -- what stands left of an argument is below the limit
  pub first_left : (o left extra : ℕ) (a : Atom) → Each IsShallow (atom_text o left extra a) → left < most_open
  first_left o left extra (numeral at n) h = h.0
  first_left o left extra (variable at x) h = h.0
  first_left o left extra (parens at e close) h = omega (arith, h.0)
  first_left o left extra (pairing at a comma b close) h = omega (arith, h.0)
  first_left o left extra (prefixed at w a) h = omega (arith, h.0)

-- a tree is no higher than it is written
-- the tree is no higher than the phrase, since only the phrase counts parentheses
mutual
  pub tree_expr : (e : Expr) → named_height (expr_part e).tree ≤ (expr_part e).height
  tree_expr (binding at b xat x colon t dot e) = omega (arith, tree_expr e)
  tree_expr (choice at c i p j q) = omega (arith, tree_expr c, tree_expr p, tree_expr q)
  tree_expr (only_sum s) = tree_sum s

  pub tree_sum : (s : Sum) → named_height (sum_part s).tree ≤ (sum_part s).height
  tree_sum (only_product p) = tree_product p
  tree_sum (summed s at op _ p) = omega (arith, tree_sum s, tree_product p)

  pub tree_product : (p : Product) → named_height (product_part p).tree ≤ (product_part p).height
  tree_product (only_app f) = tree_app f
  tree_product (multiplied m at op _ f) = omega (arith, tree_product m, tree_app f)

  pub tree_app : (f : App) → named_height (app_part_of f).tree ≤ (app_part_of f).height
  tree_app (only_atom a) = tree_atom a
  tree_app (applied f a) = omega (arith, tree_app f, tree_atom a)

  pub tree_atom : (a : Atom) → named_height (atom_part a).tree ≤ (atom_part a).height
  tree_atom (numeral at n) = omega arith
  tree_atom (variable at x) = omega arith
  tree_atom (parens at e close) = omega (arith, tree_expr e)
  tree_atom (pairing at a comma b close) = omega (arith, tree_expr a, tree_expr b)
  tree_atom (prefixed at w a) = omega (arith, tree_atom a)

-- a tree has no more nodes than it counts
size_below : (t : NamedTree) → named_size t ≤ node_count t
size_below (number_at i n) = omega arith
size_below (name_at i x) = omega arith
size_below (word_at i w a) = omega (arith, size_below a)
size_below (binary_at i o a b) = omega (arith, size_below a, size_below b)
size_below (pair_at i a b) = omega (arith, size_below a, size_below b)
size_below (ifz_at i c p q) = omega (arith, size_below c, size_below p, size_below q)
size_below (bind_at i b x t m) = omega (arith, size_below m)
size_below (apply_at i f a) = omega (arith, size_below f, size_below a)

-- what a program counts is the count of its tree
pub program_count : (p : Program) → count_of (program_text p) ≡ node_count (expr_part p.expr).tree
program_count p = omega (arith, count-append (expr_text 0 p.expr) (plain p.end End ∷ []), count_expr 0 p.expr)

-- the tree of a list of tokens is within the limits
within_limits : (items : _) (t : NamedTree) → Derives items t → (node_count t ≤ most_nodes) × (named_size t ≤ most_nodes) ×
    (named_height t ≤ most_read_height)
within_limits items t d =
    let e : Expr = d.program.expr in
    let whole : NamedTree = (expr_part e).tree in
    let few : node_count whole ≤ most_nodes = omega (arith, d.small, program_count d.program) in
    let low : named_height whole ≤ most_read_height =
    omega (
      arith,
      tree_expr e,
      low_expr 0 e (omega arith)
          (each_left IsShallow (expr_text 0 e) (plain d.program.end End ∷ []) d.shallow),
    ) in
    subst (λ u. (node_count u ≤ most_nodes) × (named_size u ≤ most_nodes) × (named_height u ≤ most_read_height)) d.stands_for (
      few,
      omega (arith, few, size_below whole),
      low,
    )

-- and so is that of a text
pub bounded : Bounded
bounded bytes t h = within_limits h.0 t h.2
