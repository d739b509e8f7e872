-- Inputs and what a block of the clock assigns to don't settle.
use Rattle.std.proofs.Common.{◌≡◌, Bool, true, false, not, ◌&&◌, ◌||◌, List, [], ◌∷◌, ◌++◌, Option, Some, None, refl, ap, sym, ◌∙◌}
use Rattle.std.proofs.lemmas.Bool.{and_parts, or_parts, or_left, or_right, not-true, false_from_ne_true}
use Prim.Native.String.{String}
use lib.Text.{eqt}
use Rattle.verilog_tree.specs.Tree.{Expr, whole, word_at, Stmt, skip, put, seq, branch, cases, Width, Item, size}
use Rattle.verilog_tree.specs.Tree.{constant, input, output, reg, memory, wire, settles, clocked}
use Rattle.verilog_tree.specs.Meaning.{Scope, Store, chosen, run, assigned, scope, settled}
use Rattle.verilog_tree.specs.WellFormed.{member, outside, sets_first, first_reads, apart, targets, Kind, Entry, of_kind, register}
use Rattle.verilog_tree.specs.WellFormed.{taken, is_clock, expr_ok, stmt_ok, item_ok, items_ok, declared, driven, kind_of, wire_kind}
use Rattle.verilog_tree.specs.WellFormed.{input_kind, settling}
use Rattle.verilog_tree.specs.Items.{Has, here, further, item_name, Sets, assigns, in_first, in_second, in_then, in_else}
use Rattle.verilog_tree.specs.Laws.{Rests, TreeSettles}
use Rattle.verilog_tree.proofs.Own.{one_name, same_name}
use Rattle.verilog_tree.proofs.Once.{is_name, head_ok, tail_ok, taken_step, new_here, later, other, items_of, tree_declares}
use Rattle.verilog_tree.proofs.Settled.{member_append, apart_from, sets_registers, blocks_of, below, settles_once}

-- ---- names

module _ (x : String) (xs ys : List String) where
  -- in one of both lists
  member_left : member x xs ≡ true → member x (xs ++ ys) ≡ true
  member_left h = member_append x xs ys ∙ or_left (member x xs) (member x ys) h

  member_right : member x ys ≡ true → member x (xs ++ ys) ≡ true
  member_right h = member_append x xs ys ∙ or_right (member x xs) (member x ys) h

  -- outside of both
  outside_both : outside xs x ≡ true → outside ys x ≡ true → outside (xs ++ ys) x ≡ true
  outside_both a b = ap not (member_append x xs ys) ∙ (λ i. not (not-true (member x xs) a i || not-true (member x ys) b i))

  outside_left : outside (xs ++ ys) x ≡ true → outside xs x ≡ true
  outside_left h =
      ap not (or_parts (member x xs) (member x ys) (sym (member_append x xs ys) ∙ not-true (member x (xs ++ ys)) h)).0

  outside_right : outside (xs ++ ys) x ≡ true → outside ys x ≡ true
  outside_right h =
      ap not (or_parts (member x xs) (member x ys) (sym (member_append x xs ys) ∙ not-true (member x (xs ++ ys)) h)).1

-- what is of a kind is declared
pub kind_taken : (p : Kind → Bool) (env : List Entry) (x : String) → of_kind p env x ≡ true → taken env x ≡ true
kind_taken p [] x h = absurd cc
kind_taken p (e ∷ env) x h = go (eqt e.name x) h (kind_taken p env x)
  where
    go : (b : Bool) → chosen b (p e.kind) (of_kind p env x) ≡ true → (of_kind p env x ≡ true → taken env x ≡ true) →
        (b || taken env x) ≡ true
    go true h k = refl
    go false h k = k h

no_kind : (p : Kind → Bool) (env : List Entry) (x : String) → taken env x ≡ false → of_kind p env x ≡ false
no_kind p env x h = false_from_ne_true _ (λ k. let z : true ≡ false = sym (kind_taken p env x k) ∙ h in absurd cc)

the_name : (n : Option String) (x : String) → is_name n x ≡ true → n ≡ Some x
the_name None x h = absurd cc
the_name (Some y) x h = ap Some (one_name y x h)

-- a name that is declared above is another than what an item declares
apart_here : (env : List Entry) (ds : List String) (j : Item) → item_ok env ds j ≡ true → (x : String) → taken env x ≡ true →
    is_name (item_name j) x ≡ false
apart_here env ds j o x t =
    false_from_ne_true (is_name (item_name j) x)
    (λ q. let z : true ≡ false = sym t ∙ new_here env ds j o x (the_name (item_name j) x q) in absurd cc)

-- and it stays what it is
kind_past : (p : Kind → Bool) (env : List Entry) (j : Item) (x : String) → is_name (item_name j) x ≡ false →
    of_kind p (declared env j) x ≡ of_kind p env x
kind_past p env (size y n) x e = ap (λ c. chosen c (p Kind.a_size) (of_kind p env x)) e
kind_past p env (constant w y n) x e = ap (λ c. chosen c (p Kind.a_constant) (of_kind p env x)) e
kind_past p env (input w y) x e = ap (λ c. chosen c (p (input_kind w y)) (of_kind p env x)) e
kind_past p env (output w y) x e = ap (λ c. chosen c (p (kind_of w)) (of_kind p env x)) e
kind_past p env (reg w y) x e = ap (λ c. chosen c (p (kind_of w)) (of_kind p env x)) e
kind_past p env (memory w y k) x e = ap (λ c. chosen c (p Kind.a_memory) (of_kind p env x)) e
kind_past p env (wire w y f) x e = ap (λ c. chosen c (p (wire_kind w)) (of_kind p env x)) e
kind_past p env j x e = refl

-- what is declared above an item is declared behind it too
taken_past : (env : List Entry) (j : Item) (x : String) → taken env x ≡ true → taken (declared env j) x ≡ true
taken_past env j x e = taken_step env j x ∙ or_right (is_name (item_name j) x) (taken env x) e

-- what is driven above an item is driven behind it too
driven_past : (ds : List String) (j : Item) (x : String) → member x ds ≡ true → member x (driven ds j) ≡ true
driven_past ds (settles s) x e = member_right x (sets_first s) ds e
driven_past ds (clocked s) x e = member_right x (targets s) ds e
driven_past ds j x e = e

-- what isn't driven behind an item isn't driven above it
outside_past : (ds : List String) (j : Item) (x : String) → outside (driven ds j) x ≡ true → outside ds x ≡ true
outside_past ds (settles s) x e = outside_right x (sets_first s) ds e
outside_past ds (clocked s) x e = outside_right x (targets s) ds e
outside_past ds j x e = e

-- what an item settles, if it isn't one of these
abbrev unsettled : Item → String → Bool
unsettled (wire w y e) x = not (eqt y x)
unsettled (settles s) x = outside (sets_first s) x
unsettled i x = true

-- what neither an item settles nor those behind it, they don't settle together
settling_past : (j : Item) (is : List Item) (x : String) → unsettled j x ≡ true → outside (settling is) x ≡ true →
    outside (settling (j ∷ is)) x ≡ true
settling_past (wire w y e) is x a b = λ i. not (not-true (eqt y x) a i || not-true (member x (settling is)) b i)
settling_past (settles s) is x a b = outside_both x (sets_first s) (settling is) a b
settling_past j is x a b = b

-- what a block sets first isn't a name of another kind
not_first : (env : List Entry) (ds : List String) (s : Stmt) → item_ok env ds (settles s) ≡ true → (x : String) →
    of_kind register env x ≡ false → outside (sets_first s) x ≡ true
not_first env ds s o x k =
    let (a, b) = and_parts (apart (sets_first s) ds && first_reads (sets_first s) s) (stmt_ok env (sets_first s) s) o in
    ap not (false_from_ne_true (member x (sets_first s))
    (λ e. let z : true ≡ false = sym (sets_registers env (sets_first s) s b x e) ∙ k in absurd cc))

-- ---- inputs

-- a name that is no register isn't settled by an item of another name
calm_name : (env : List Entry) (ds : List String) (j : Item) → item_ok env ds j ≡ true → (x : String) →
    is_name (item_name j) x ≡ false → of_kind register env x ≡ false → unsettled j x ≡ true
calm_name env ds (wire w y f) o x e k = ap not e
calm_name env ds (settles s) o x e k = not_first env ds s o x k
calm_name env ds j o x e k = refl

input_below : (is : List Item) (env : List Entry) (ds : List String) → items_ok env ds is ≡ true → (x : String) →
    taken env x ≡ true → of_kind register env x ≡ false → outside (settling is) x ≡ true
input_below [] env ds o x t k = refl
input_below (j ∷ is) env ds o x t k =
    let n = apart_here env ds j (head_ok env ds j is o) x t in
    settling_past j is x (calm_name env ds j (head_ok env ds j is o) x n k)
    (input_below is (declared env j) (driven ds j) (tail_ok env ds j is o) x (taken_past env j x t) (kind_past register env j x n ∙ k))

no_input : (w : Width) (x : String) → register (input_kind w x) ≡ false
no_input Width.one x = go (eqt x "clk")
  where
    go : (b : Bool) → register (chosen b Kind.a_clock Kind.a_bit_input) ≡ false
    go true = refl
    go false = refl
no_input (Width.upto k) x = refl
no_input (Width.wide k) x = refl

-- no item settles an input
input_kept : (is : List Item) (env : List Entry) (ds : List String) → items_ok env ds is ≡ true → (w : Width) (x : String) →
    Has (input w x) is → outside (settling is) x ≡ true
input_kept [] env ds o w x h = elim h [ ]
input_kept (j ∷ is) env ds o w x (here is') =
    input_below is (declared env (input w x)) ds (tail_ok env ds (input w x) is o) x
    (or_left (eqt x x) (taken env x) (same_name x))
    (ap (λ c. chosen c (register (input_kind w x)) (of_kind register env x)) (same_name x) ∙ no_input w x)
input_kept (j ∷ is) env ds o w x (further j' is' h) =
    settling_past j is x
    (calm_name env ds j (head_ok env ds j is o) x (other j is env ds o (input w x) h x refl)
    (no_kind register env x (later (j ∷ is) env ds o (input w x) (further j is h) x refl)))
    (input_kept is (declared env j) (driven ds j) (tail_ok env ds j is o) w x h)

-- ---- what a block of the clock assigns to

target_in : (x : String) (s : Stmt) → Sets x s → member x (targets s) ≡ true
target_in x skip h = elim h [ ]
target_in x (put (word_at m i) e) h = elim h [ ]
target_in x (cases e arms) h = elim h [ ]
target_in x (put (whole y) e) (assigns e') = or_left (eqt x x) false (same_name x)
target_in x (seq s t) (in_first s' t' h) = member_left x (targets s) (targets t) (target_in x s h)
target_in x (seq s t) (in_second s' t' h) = member_right x (targets s) (targets t) (target_in x t h)
target_in x (branch e s t) (in_then e' s' t' h) = member_left x (targets s) (targets t) (target_in x s h)
target_in x (branch e s t) (in_else e' s' t' h) = member_right x (targets s) (targets t) (target_in x t h)

-- what a statement in order assigns to is declared as a register
target_register : (env : List Entry) (ms : List String) (x : String) (s : Stmt) → Sets x s → stmt_ok env ms s ≡ true →
    of_kind register env x ≡ true
target_register env ms x skip h o = elim h [ ]
target_register env ms x (put (word_at m i) e) h o = elim h [ ]
target_register env ms x (cases e arms) h o = elim h [ ]
target_register env ms x (put (whole y) e) (assigns e') o =
    let (a, b) = and_parts (of_kind register env x && member x ms) (expr_ok env e) o in
    (and_parts (of_kind register env x) (member x ms) a).0
target_register env ms x (seq s t) (in_first s' t' h) o =
    target_register env ms x s h (and_parts (stmt_ok env ms s) (stmt_ok env ms t) o).0
target_register env ms x (seq s t) (in_second s' t' h) o =
    target_register env ms x t h (and_parts (stmt_ok env ms s) (stmt_ok env ms t) o).1
target_register env ms x (branch e s t) (in_then e' s' t' h) o =
    target_register env ms x s h
    (and_parts (stmt_ok env ms s) (stmt_ok env ms t) (and_parts (expr_ok env e) (stmt_ok env ms s && stmt_ok env ms t) o).1).0
target_register env ms x (branch e s t) (in_else e' s' t' h) o =
    target_register env ms x t h
    (and_parts (stmt_ok env ms s) (stmt_ok env ms t) (and_parts (expr_ok env e) (stmt_ok env ms s && stmt_ok env ms t) o).1).1

module _ (x : String) (s : Stmt) (sets : Sets x s) where
  clock_register : (env : List Entry) (ds : List String) → item_ok env ds (clocked s) ≡ true → of_kind register env x ≡ true
  clock_register env ds o =
      target_register env (targets s) x s sets
      (and_parts (of_kind is_clock env "clk" && apart (targets s) ds) (stmt_ok env (targets s) s) o).1

  -- nothing below drives what is driven above
  driven_below : (is : List Item) (env : List Entry) (ds : List String) → items_ok env ds is ≡ true → taken env x ≡ true →
      member x ds ≡ true → outside (settling is) x ≡ true
  driven_below [] env ds o t m = refl
  driven_below (j ∷ is) env ds o t m =
      settling_past j is x (free j (head_ok env ds j is o))
      (driven_below is (declared env j) (driven ds j) (tail_ok env ds j is o) (taken_past env j x t) (driven_past ds j x m))
    where
      free : (j : Item) → item_ok env ds j ≡ true → unsettled j x ≡ true
      free (wire w y f) o = ap not (apart_here env ds (wire w y f) o x t)
      free (settles r) o =
          let (a, b) = and_parts (apart (sets_first r) ds && first_reads (sets_first r) r) (stmt_ok env (sets_first r) r) o in
          apart_from x (sets_first r) ds (and_parts (apart (sets_first r) ds) (first_reads (sets_first r) r) a).0 m
      free j o = refl

  -- nor does anything above
  undriven : (is : List Item) (env : List Entry) (ds : List String) → items_ok env ds is ≡ true → Has (clocked s) is →
      outside ds x ≡ true
  undriven [] env ds o h = elim h [ ]
  undriven (j ∷ is) env ds o (here is') =
      let (a, b) = and_parts (of_kind is_clock env "clk" && apart (targets s) ds) (stmt_ok env (targets s) s)
      (head_ok env ds (clocked s) is o) in
      let c = (and_parts (of_kind is_clock env "clk") (apart (targets s) ds) a).1 in
      ap not (false_from_ne_true (member x ds)
      (λ e. let z : true ≡ false = sym (target_in x s sets) ∙ not-true (member x (targets s)) (apart_from x (targets s) ds c e) in
      absurd cc))
  undriven (j ∷ is) env ds o (further j' is' h) =
      outside_past ds j x (undriven is (declared env j) (driven ds j) (tail_ok env ds j is o) h)

  -- it is a register above, where it is declared there
  register_above : (is : List Item) (env : List Entry) (ds : List String) → items_ok env ds is ≡ true → Has (clocked s) is →
      taken env x ≡ true → of_kind register env x ≡ true
  register_above [] env ds o h t = elim h [ ]
  register_above (j ∷ is) env ds o (here is') t = clock_register env ds (head_ok env ds (clocked s) is o)
  register_above (j ∷ is) env ds o (further j' is' h) t =
      sym (kind_past register env j x (apart_here env ds j (head_ok env ds j is o) x t))
      ∙ register_above is (declared env j) (driven ds j) (tail_ok env ds j is o) h (taken_past env j x t)

  no_wire : (w : Width) → register (wire_kind w) ≡ false
  no_wire Width.one = refl
  no_wire (Width.upto k) = refl
  no_wire (Width.wide k) = refl

  clocked_kept : (is : List Item) (env : List Entry) (ds : List String) → items_ok env ds is ≡ true → Has (clocked s) is →
      outside (settling is) x ≡ true
  clocked_kept [] env ds o h = elim h [ ]
  clocked_kept (j ∷ is) env ds o (here is') =
      driven_below is env (targets s ++ ds) (tail_ok env ds (clocked s) is o)
      (kind_taken register env x (clock_register env ds (head_ok env ds (clocked s) is o)))
      (member_left x (targets s) ds (target_in x s sets))
  clocked_kept (j ∷ is) env ds o (further j' is' h) =
      settling_past j is x (free j o)
      (clocked_kept is (declared env j) (driven ds j) (tail_ok env ds j is o) h)
    where
      free : (j : Item) → items_ok env ds (j ∷ is) ≡ true → unsettled j x ≡ true
      free (wire w y f) o =
          ap not (false_from_ne_true (eqt y x)
          (λ e. let z : true ≡ false =
          sym (register_above is (declared env (wire w y f)) ds (tail_ok env ds (wire w y f) is o) h (or_left (eqt y x) (taken env x) e))
          ∙ ap (λ c. chosen c (register (wire_kind w)) (of_kind register env x)) e ∙ no_wire w in absurd cc))
      free (settles r) o = outside_left x (sets_first r) ds (undriven is env (sets_first r ++ ds) (tail_ok env ds (settles r) is o) h)
      free j o = refl

-- ---- where all has settled

module _ (P : Scope) (R : Store) where
  rest_of : (j : Item) (is : List Item) → Rests P (j ∷ is) R → Rests P is R
  rest_of (wire w y f) is r = r.1
  rest_of (settles s) is r = r.1
  rest_of j is r = r

  wire_in : (is : List Item) → Rests P is R → (w : Width) (x : String) (e : Expr) → Has (wire w x e) is →
      R.vec x ≡ assigned P R (P.width x) e
  wire_in [] r w x e h = elim h [ ]
  wire_in (j ∷ is) r w x e (here is') = r.0
  wire_in (j ∷ is) r w x e (further j' is' h) = wire_in is (rest_of j is r) w x e h

  block_in : (is : List Item) → Rests P is R → (s : Stmt) → Has (settles s) is → run P s R ≡ R
  block_in [] r s h = elim h [ ]
  block_in (j ∷ is) r s (here is') = r.0
  block_in (j ∷ is) r s (further j' is' h) = block_in is (rest_of j is r) s h

-- each item holds by its lemma above
pub tree_settles : TreeSettles
tree_settles is h S =
    let P : Scope = scope is in
    let R : Store = settled P is S in
    let o = items_of is h in
    let d = tree_declares is h in
    let r = settles_once is h S in
    let b = below P is (blocks_of is [] [] o) S in
    record {
      wires = λ w x e m. wire_in P R is r w x e m ∙ ap (λ n. assigned P R n e) (d.width (wire w x e) m x refl);
      blocks = λ s m. block_in P R is r s m;
      inputs = λ w x m. b.vec x (input_kept is [] [] o w x m);
      registers = λ x s q m. b.vec x (clocked_kept x s q is [] [] o m);
      memories = b.mem;
      strays = b.stray;
    }
