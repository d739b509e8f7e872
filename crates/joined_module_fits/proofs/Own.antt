-- What is declared: own names are found where others stand between them, and items of own names are right in both lists alike.
use Rattle.std.proofs.Common.{◌≡◌, ◌≤◌, ℕ, Bool, true, false, not, ◌&&◌, ◌||◌, List, [], ◌∷◌, ◌++◌, refl, ap, ◌∙◌, arith}
use Rattle.std.proofs.lemmas.Bool.{and_parts, and_from, ltb-true, lt-ltb, eqb-true}
use Rattle.std.specs.Prelude.{nat_lt}
use Prim.Native.String.{String}
use lib.Text.{eqt}
use Rattle.verilog_tree.specs.Tree.{Size, count, named, more, less, Expr, num, sized, const, name, bit, part, word, cat, inverse, two}
use Rattle.verilog_tree.specs.Tree.{shift, test, logic, none, any, every, pick, Target, whole, word_at, Stmt, skip, put, seq, branch, cases}
use Rattle.verilog_tree.specs.Tree.{Arms, otherwise, arm, Width, one, upto, wide, Item, note, gap, size, constant, input, output, reg}
use Rattle.verilog_tree.specs.Tree.{memory, wire, settles, clocked}
use Rattle.verilog_tree.specs.Meaning.{chosen}
use Rattle.verilog_tree.specs.WellFormed.{Kind, Entry, a_size, a_constant, a_memory, kind_of, wire_kind, input_kind, is_size, parameter}
use Rattle.verilog_tree.specs.WellFormed.{vector, selects, is_memory, is_clock, register, of_kind, member, apart, identifier, said_ok}
use Rattle.verilog_tree.specs.WellFormed.{taken, new, size_ok, width_ok, has_width, expr_ok, exprs_ok, sets_first, first_reads, target_ok}
use Rattle.verilog_tree.specs.WellFormed.{stmt_ok, arms_ok, targets, declare, declared, driven, number_width, item_ok, items_ok}
use Rattle.verilog_tree.specs.WellFormed.{all_declared}
use Rattle.verilog_tree.proofs.Alike as alike
use Rattle.joined_module_fits.proofs.Names.{own, and_same, own_foreign, foreign_own, class, class_apart}

-- all names are own
abbrev own_size : Size → Bool
own_size = alike.own_size own

abbrev pub own_expr : Expr → Bool
own_expr = alike.own_expr own

abbrev own_exprs : List Expr → Bool
own_exprs = alike.own_exprs own

abbrev own_target : Target → Bool
own_target = alike.own_target own

abbrev own_width : Width → Bool
own_width = alike.own_width own

abbrev own_arms : Arms → Bool
own_arms = alike.own_arms own

abbrev pub own_stmt : Stmt → Bool
own_stmt = alike.own_stmt own

abbrev own_item : Item → Bool
own_item = alike.own_item own

abbrev pub own_items : List Item → Bool
own_items = alike.own_items own

-- two lists of what is declared say the same of own names
pub record SameEnv (E F : List Entry) : Type 0 where
  pub kind : (p : Kind → Bool) (x : String) → own x ≡ true → of_kind p E x ≡ of_kind p F x
  pub taken : (x : String) → own x ≡ true → taken E x ≡ taken F x

pub same_env : (E : List Entry) → SameEnv E E
same_env E = record { kind = λ p x o. refl; taken = λ x o. refl }

pub declare_same : (k : Kind) (y : String) (E F : List Entry) → SameEnv E F → SameEnv (declare k y E) (declare k y F)
declare_same k y E F h = record {
  kind = λ p x o. ap (λ b. chosen (eqt y x) (p k) b) (h.kind p x o);
  taken = λ x o. ap (λ b. eqt y x || b) (h.taken x o);
}

pub declare_foreign : (k : Kind) (y : String) → own y ≡ false → (E F : List Entry) → SameEnv E F → SameEnv (declare k y E) F
declare_foreign k y f E F h = record {
  kind = λ p x o. ap (λ b. chosen b (p k) (of_kind p E x)) (foreign_own y x f o) ∙ h.kind p x o;
  taken = λ x o. ap (λ b. b || taken E x) (foreign_own y x f o) ∙ h.taken x o;
}

-- items of own names declare one of them, or nothing
declares_own : (P : List Entry → List Entry → Type 0) (E F : List Entry) (i : Item) → own_item i ≡ true → P E F →
    ((k : Kind) (x : String) → own x ≡ true → P (declare k x E) (declare k x F)) → P (declared E i) (declared F i)
declares_own P E F (size x n) o h f = f a_size x o
declares_own P E F (constant w x n) o h f = f a_constant x (and_parts _ _ o).0
declares_own P E F (input w x) o h f = f (input_kind w x) x (and_parts _ _ o).0
declares_own P E F (output w x) o h f = f (kind_of w) x (and_parts _ _ o).0
declares_own P E F (reg w x) o h f = f (kind_of w) x (and_parts _ _ o).0
declares_own P E F (memory w x k) o h f = f a_memory x (and_parts _ _ o).0
declares_own P E F (wire w x e) o h f = f (wire_kind w) x (and_parts _ _ o).0
declares_own P E F i o h f = h

module _ (E F : List Entry) (same : SameEnv E F) where
  size_same : (s : Size) → own_size s ≡ true → size_ok E s ≡ size_ok F s
  size_same (count n) o = refl
  size_same (named x) o = same.kind is_size x o
  size_same (more a b) o = and_same o (size_same a) (size_same b)
  size_same (less a b) o = and_same o (size_same a) (size_same b)

  width_same : (w : Width) → own_width w ≡ true → width_ok E w ≡ width_ok F w
  width_same one o = refl
  width_same (upto h) o = size_same h o
  width_same (wide k) o = size_same k o

  pub expr_same : (e : Expr) → own_expr e ≡ true → expr_ok E e ≡ expr_ok F e
  expr_same (num n) o = refl
  expr_same (sized w n) o = refl
  expr_same (const x) o = same.kind parameter x o
  expr_same (name x) o = same.kind vector x o
  expr_same (bit x e) o = and_same o (same.kind selects x) (expr_same e)
  expr_same (part x h l) o = and_same o (same.kind selects x) (λ p. and_same p (size_same h) (size_same l))
  expr_same (word m e) o = and_same o (same.kind is_memory m) (expr_same e)
  expr_same (cat a b) o = ap (λ t. (has_width a && has_width b) && t) (and_same o (expr_same a) (expr_same b))
  expr_same (inverse a) o = expr_same a o
  expr_same (two p a b) o = and_same o (expr_same a) (expr_same b)
  expr_same (shift p a b) o = and_same o (expr_same a) (expr_same b)
  expr_same (test p a b) o = and_same o (expr_same a) (expr_same b)
  expr_same (logic p a b) o = and_same o (expr_same a) (expr_same b)
  expr_same (none a) o = expr_same a o
  expr_same (any a) o = expr_same a o
  expr_same (every a) o = expr_same a o
  expr_same (pick c a b) o = and_same o (expr_same c) (λ p. and_same p (expr_same a) (expr_same b))

  exprs_same : (es : List Expr) → own_exprs es ≡ true → exprs_ok E es ≡ exprs_ok F es
  exprs_same [] o = refl
  exprs_same (e ∷ es) o = and_same o (expr_same e) (exprs_same es)

  target_same : (mine : List String) (t : Target) → own_target t ≡ true → target_ok E mine t ≡ target_ok F mine t
  target_same mine (whole x) o = ap (λ b. b && member x mine) (same.kind register x o)
  target_same mine (word_at m e) o = and_same o (same.kind is_memory m) (λ p. ap (λ b. member m mine && b) (expr_same e p))

  mutual
    pub stmt_same : (mine : List String) (s : Stmt) → own_stmt s ≡ true → stmt_ok E mine s ≡ stmt_ok F mine s
    stmt_same mine skip o = refl
    stmt_same mine (put t e) o = and_same o (target_same mine t) (expr_same e)
    stmt_same mine (seq s t) o = and_same o (stmt_same mine s) (stmt_same mine t)
    stmt_same mine (branch e s t) o = and_same o (expr_same e) (λ p. and_same p (stmt_same mine s) (stmt_same mine t))
    stmt_same mine (cases e arms) o = and_same o (expr_same e) (arms_same mine arms)

    arms_same : (mine : List String) (arms : Arms) → own_arms arms ≡ true → arms_ok E mine arms ≡ arms_ok F mine arms
    arms_same mine (otherwise s) o = stmt_same mine s o
    arms_same mine (arm es s c arms) o =
        let (a, b) = and_parts (own_exprs es) (own_stmt s && own_arms arms) o in
        let (d, e) = and_parts (own_stmt s) (own_arms arms) b in
        let x = exprs_same es a in
        let y = stmt_same mine s d in
        let z = arms_same mine arms e in
        λ i. (x i && (y i && said_ok c)) && z i

  new_same : (x : String) → own x ≡ true → new E x ≡ new F x
  new_same x o = ap (λ b. identifier x && not b) (same.taken x o)

  item_same : (ds : List String) (i : Item) → own_item i ≡ true → item_ok E ds i ≡ item_ok F ds i
  item_same ds (note s) o = refl
  item_same ds gap o = refl
  item_same ds (size x n) o = new_same x o
  item_same ds (constant w x n) o = ap (λ b. b && number_width w) (new_same x (and_parts (own x) (own_width w) o).0)
  item_same ds (input w x) o = and_same o (new_same x) (width_same w)
  item_same ds (output w x) o = and_same o (new_same x) (width_same w)
  item_same ds (reg w x) o = and_same o (new_same x) (width_same w)
  item_same ds (memory w x k) o = and_same o (new_same x) (λ p. and_same p (width_same w) (size_same k))
  item_same ds (wire w x e) o = and_same o (new_same x) (λ p. and_same p (width_same w) (expr_same e))
  item_same ds (settles s) o = ap (λ b. (apart (sets_first s) ds && first_reads (sets_first s) s) && b) (stmt_same (sets_first s) s o)
  item_same ds (clocked s) o =
      let y = same.kind is_clock "clk" refl in
      let z = stmt_same (targets s) s o in
      λ i. (y i && apart (targets s) ds) && z i

  declared_same : (i : Item) → own_item i ≡ true → SameEnv (declared E i) (declared F i)
  declared_same i o = declares_own SameEnv E F i o same (λ k x o. declare_same k x E F same)

-- what is driven after so many
abbrev pub all_driven : List String → List Item → List String
all_driven ds [] = ds
all_driven ds (i ∷ is) = all_driven (driven ds i) is

-- ---- other names

-- own items say nothing of a name that isn't own
pub kind_over : (x : String) → own x ≡ false → (p : Kind → Bool) (E : List Entry) (is : List Item) → own_items is ≡ true →
    of_kind p (all_declared E is) x ≡ of_kind p E x
kind_over x f p E [] o = refl
kind_over x f p E (i ∷ is) o =
    let (a, b) = and_parts (own_item i) (own_items is) o in
    kind_over x f p (declared E i) is b ∙ declares_own (λ G H. of_kind p G x ≡ of_kind p E x) E E i a refl
    (λ k y o. ap (λ b. chosen b (p k) (of_kind p E x)) (own_foreign y x o f))

-- ---- lists one behind the other

pub items_append : (is js : List Item) (E : List Entry) (ds : List String) → items_ok E ds is ≡ true →
    items_ok (all_declared E is) (all_driven ds is) js ≡ true → items_ok E ds (is ++ js) ≡ true
items_append [] js E ds h k = k
items_append (i ∷ is) js E ds h k =
    let (a, b) = and_parts _ _ h in
    and_from _ _ a (items_append is js (declared E i) (driven ds i) b k)

-- own items alone
pub own_ok : (is : List Item) → own_items is ≡ true → (E F : List Entry) (ds : List String) → SameEnv E F → items_ok F ds is ≡ true →
    items_ok E ds is ≡ true
own_ok [] o E F ds h ok = refl
own_ok (i ∷ is) o E F ds h ok =
    let (a, b) = and_parts _ _ o in
    let (c, d) = and_parts _ _ ok in
    and_from _ _ (item_same E F h ds i a ∙ c) (own_ok is b (declared E i) (declared F i) (driven ds i) (declared_same E F h i a) d)

pub own_same : (is : List Item) → own_items is ≡ true → (E F : List Entry) → SameEnv E F → SameEnv (all_declared E is) (all_declared F is)
own_same [] o E F h = h
own_same (i ∷ is) o E F h =
    let (a, b) = and_parts _ _ o in own_same is b (declared E i) (declared F i) (declared_same E F h i a)

-- ---- classes

-- all that is declared has a lower class
abbrev pub below : ℕ → List Entry → Bool
below c [] = true
below c (e ∷ E) = nat_lt (class e.name) c && below c E

pub below_taken : (c : ℕ) (x : String) → c ≤ class x → (E : List Entry) → below c E ≡ true → taken E x ≡ false
below_taken c x l [] h = refl
below_taken c x l (e ∷ E) h =
    let (a, b) = and_parts _ _ h in
    let m = ltb-true (class e.name) c a in
    ap (λ b. b || taken E x) (class_apart e.name x (λ z. omega (arith, l, m, z))) ∙ below_taken c x l E b

pub below_more : (c d : ℕ) → c ≤ d → (E : List Entry) → below c E ≡ true → below d E ≡ true
below_more c d l [] h = refl
below_more c d l (e ∷ E) h =
    let (a, b) = and_parts _ _ h in
    let m = ltb-true (class e.name) c a in
    and_from _ _ (lt-ltb (class e.name) d (omega (arith, l, m))) (below_more c d l E b)

own_low : (c : ℕ) → 1 ≤ c → (x : String) → own x ≡ true → nat_lt (class x) c ≡ true
own_low c l x o = let z = eqb-true (class x) 0 o in lt-ltb (class x) c (omega (arith, l, z))

pub own_below : (c : ℕ) → 1 ≤ c → (is : List Item) → own_items is ≡ true → (E : List Entry) → below c E ≡ true →
    below c (all_declared E is) ≡ true
own_below c l [] o E h = h
own_below c l (i ∷ is) o E h =
    let (a, b) = and_parts (own_item i) (own_items is) o in
    own_below c l is b (declared E i) (declares_own (λ G H. below c G ≡ true) E E i a h (λ k x o. and_from _ _ (own_low c l x o) h))
