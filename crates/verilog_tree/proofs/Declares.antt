-- What lists of items declare: what stands in front says the same of own names in both modules, and items that declare other names alone
-- say nothing of them, and write none.
use Rattle.std.proofs.Common.{◌≡◌, ℕ, suc, Bool, true, false, not, ◌&&◌, List, [], ◌∷◌, ◌++◌, refl, ap, sym, ◌∙◌}
use Rattle.std.proofs.lemmas.Bool.{and_parts, not-true}
use Prim.Native.String.{String}
use Rattle.verilog_tree.specs.Tree.{Expr, Size, Width, upto, Item, note, gap, size, constant, input, output, reg, memory, wire}
use Rattle.verilog_tree.specs.Tree.{settles, clocked}
use Rattle.verilog_tree.specs.Meaning.{Store, holds, Scope, chosen, width_of, param_in, named_here, width_in, words_in, assigned, write}
use Rattle.verilog_tree.specs.Meaning.{set_vec, settled, fire}
use Rattle.verilog_tree.specs.Tree.{whole, word_at, Stmt, skip, put, seq, branch, cases}
use Rattle.verilog_tree.proofs.Own.{turned}
use Rattle.verilog_tree.proofs.Alike as alike

module _ (own : String → Bool) where
  abbrev own_size : Size → Bool
  own_size = alike.own_size own

  abbrev own_expr : Expr → Bool
  own_expr = alike.own_expr own

  abbrev own_width : Width → Bool
  own_width = alike.own_width own

  abbrev own_items : List Item → Bool
  own_items = alike.own_items own

  -- ---- parameters

  -- what stands in front says the same of parameters
  pub param_front : (is js ks : List Item) → ((x : String) → param_in js x ≡ param_in ks x) → (x : String) →
      param_in (is ++ js) x ≡ param_in (is ++ ks) x
  param_front [] js ks h x = h x
  param_front (note s ∷ is) js ks h x = param_front is js ks h x
  param_front (gap ∷ is) js ks h x = param_front is js ks h x
  param_front (size y n ∷ is) js ks h x = ap (λ m. named_here y x n m) (param_front is js ks h x)
  param_front (constant w y n ∷ is) js ks h x = ap (λ m. named_here y x n m) (param_front is js ks h x)
  param_front (input w y ∷ is) js ks h x = param_front is js ks h x
  param_front (output w y ∷ is) js ks h x = param_front is js ks h x
  param_front (reg w y ∷ is) js ks h x = param_front is js ks h x
  param_front (memory w y k ∷ is) js ks h x = param_front is js ks h x
  param_front (wire w y e ∷ is) js ks h x = param_front is js ks h x
  param_front (settles s ∷ is) js ks h x = param_front is js ks h x
  param_front (clocked s ∷ is) js ks h x = param_front is js ks h x

  -- ---- widths and words

  module _ (p q : String → ℕ) (same : (x : String) → own x ≡ true → p x ≡ q x) where
    width_same : (w : Width) → own_width w ≡ true → width_of p w ≡ width_of q w
    width_same Width.one o = refl
    width_same (upto h) o = ap suc (alike.amount_same own p q same h o)
    width_same (Width.wide k) o = alike.amount_same own p q same k o

    pub one_width : (y x : String) (w : Width) → own_width w ≡ true → (n m : ℕ) → n ≡ m →
        named_here y x (width_of p w) n ≡ named_here y x (width_of q w) m
    one_width y x w o n m h = let a = width_same w o in λ i. named_here y x (a i) (h i)

    pub width_front : (is : List Item) → own_items is ≡ true → (js ks : List Item) →
        ((x : String) → own x ≡ true → width_in p js x ≡ width_in q ks x) → (x : String) → own x ≡ true →
        width_in p (is ++ js) x ≡ width_in q (is ++ ks) x
    width_front [] o js ks h x a = h x a
    width_front (note s ∷ is) o js ks h x a = width_front is o js ks h x a
    width_front (gap ∷ is) o js ks h x a = width_front is o js ks h x a
    width_front (size y n ∷ is) o js ks h x a =
        ap (λ m. named_here y x 32 m) (width_front is (and_parts (own y) (own_items is) o).1 js ks h x a)
    width_front (constant w y n ∷ is) o js ks h x a =
        let (b, c) = and_parts (own y && own_width w) (own_items is) o in
        one_width y x w (and_parts (own y) (own_width w) b).1 _ _ (width_front is c js ks h x a)
    width_front (input w y ∷ is) o js ks h x a =
        let (b, c) = and_parts (own y && own_width w) (own_items is) o in
        one_width y x w (and_parts (own y) (own_width w) b).1 _ _ (width_front is c js ks h x a)
    width_front (output w y ∷ is) o js ks h x a =
        let (b, c) = and_parts (own y && own_width w) (own_items is) o in
        one_width y x w (and_parts (own y) (own_width w) b).1 _ _ (width_front is c js ks h x a)
    width_front (reg w y ∷ is) o js ks h x a =
        let (b, c) = and_parts (own y && own_width w) (own_items is) o in
        one_width y x w (and_parts (own y) (own_width w) b).1 _ _ (width_front is c js ks h x a)
    width_front (memory w y k ∷ is) o js ks h x a =
        let (b, c) = and_parts (own y && (own_width w && own_size k)) (own_items is) o in
        let (d, e) = and_parts (own y) (own_width w && own_size k) b in
        one_width y x w (and_parts (own_width w) (own_size k) e).0 _ _ (width_front is c js ks h x a)
    width_front (wire w y e ∷ is) o js ks h x a =
        let (b, c) = and_parts (own y && (own_width w && own_expr e)) (own_items is) o in
        let (d, f) = and_parts (own y) (own_width w && own_expr e) b in
        one_width y x w (and_parts (own_width w) (own_expr e) f).0 _ _ (width_front is c js ks h x a)
    width_front (settles s ∷ is) o js ks h x a = width_front is (and_parts (alike.own_stmt own s) (own_items is) o).1 js ks h x a
    width_front (clocked s ∷ is) o js ks h x a = width_front is (and_parts (alike.own_stmt own s) (own_items is) o).1 js ks h x a

    pub words_front : (is : List Item) → own_items is ≡ true → (js ks : List Item) →
        ((x : String) → words_in p js x ≡ words_in q ks x) → (x : String) → words_in p (is ++ js) x ≡ words_in q (is ++ ks) x
    words_front [] o js ks h x = h x
    words_front (note s ∷ is) o js ks h x = words_front is o js ks h x
    words_front (gap ∷ is) o js ks h x = words_front is o js ks h x
    words_front (size y n ∷ is) o js ks h x = words_front is (and_parts (own y) (own_items is) o).1 js ks h x
    words_front (constant w y n ∷ is) o js ks h x = words_front is (and_parts (own y && own_width w) (own_items is) o).1 js ks h x
    words_front (input w y ∷ is) o js ks h x = words_front is (and_parts (own y && own_width w) (own_items is) o).1 js ks h x
    words_front (output w y ∷ is) o js ks h x = words_front is (and_parts (own y && own_width w) (own_items is) o).1 js ks h x
    words_front (reg w y ∷ is) o js ks h x = words_front is (and_parts (own y && own_width w) (own_items is) o).1 js ks h x
    words_front (memory w y k ∷ is) o js ks h x =
        let (b, c) = and_parts (own y && (own_width w && own_size k)) (own_items is) o in
        let (d, e) = and_parts (own y) (own_width w && own_size k) b in
        let m = alike.amount_same own p q same k (and_parts (own_width w) (own_size k) e).1 in
        let n = words_front is c js ks h x in
        λ i. named_here y x (m i) (n i)
    words_front (wire w y e ∷ is) o js ks h x =
        words_front is (and_parts (own y && (own_width w && own_expr e)) (own_items is) o).1 js ks h x
    words_front (settles s ∷ is) o js ks h x = words_front is (and_parts (alike.own_stmt own s) (own_items is) o).1 js ks h x
    words_front (clocked s ∷ is) o js ks h x = words_front is (and_parts (alike.own_stmt own s) (own_items is) o).1 js ks h x

  -- ---- other names

  -- items that declare other names alone, and no parameter or block
  abbrev pub foreign_item : Item → Bool
  foreign_item (note s) = true
  foreign_item gap = true
  foreign_item (size y n) = false
  foreign_item (constant w y n) = false
  foreign_item (input w y) = not (own y)
  foreign_item (output w y) = not (own y)
  foreign_item (reg w y) = not (own y)
  foreign_item (memory w y k) = false
  foreign_item (wire w y e) = not (own y)
  foreign_item (settles s) = false
  foreign_item (clocked s) = false

  abbrev pub foreign_items : List Item → Bool
  foreign_items [] = true
  foreign_items (i ∷ is) = foreign_item i && foreign_items is

  -- they say nothing of own names
  foreign_here : (y x : String) (n m k : ℕ) → not (own y) ≡ true → own x ≡ true → m ≡ k → named_here y x n m ≡ k
  foreign_here y x n m k f a h = ap (λ b. elim b [ true ↦ n | false ↦ m ]) (turned own y x (not-true (own y) f) a) ∙ h

  pub param_over : (is : List Item) → foreign_items is ≡ true → (js : List Item) (x : String) → param_in (is ++ js) x ≡ param_in js x
  param_over [] o js x = refl
  param_over (note s ∷ is) o js x = param_over is o js x
  param_over (gap ∷ is) o js x = param_over is o js x
  param_over (size y n ∷ is) o js x = absurd cc
  param_over (constant w y n ∷ is) o js x = absurd cc
  param_over (input w y ∷ is) o js x = param_over is (and_parts (not (own y)) (foreign_items is) o).1 js x
  param_over (output w y ∷ is) o js x = param_over is (and_parts (not (own y)) (foreign_items is) o).1 js x
  param_over (reg w y ∷ is) o js x = param_over is (and_parts (not (own y)) (foreign_items is) o).1 js x
  param_over (memory w y k ∷ is) o js x = absurd cc
  param_over (wire w y e ∷ is) o js x = param_over is (and_parts (not (own y)) (foreign_items is) o).1 js x
  param_over (settles s ∷ is) o js x = absurd cc
  param_over (clocked s ∷ is) o js x = absurd cc

  pub words_over : (p : String → ℕ) (is : List Item) → foreign_items is ≡ true → (js : List Item) (x : String) →
      words_in p (is ++ js) x ≡ words_in p js x
  words_over p [] o js x = refl
  words_over p (note s ∷ is) o js x = words_over p is o js x
  words_over p (gap ∷ is) o js x = words_over p is o js x
  words_over p (size y n ∷ is) o js x = absurd cc
  words_over p (constant w y n ∷ is) o js x = absurd cc
  words_over p (input w y ∷ is) o js x = words_over p is (and_parts (not (own y)) (foreign_items is) o).1 js x
  words_over p (output w y ∷ is) o js x = words_over p is (and_parts (not (own y)) (foreign_items is) o).1 js x
  words_over p (reg w y ∷ is) o js x = words_over p is (and_parts (not (own y)) (foreign_items is) o).1 js x
  words_over p (memory w y k ∷ is) o js x = absurd cc
  words_over p (wire w y e ∷ is) o js x = words_over p is (and_parts (not (own y)) (foreign_items is) o).1 js x
  words_over p (settles s ∷ is) o js x = absurd cc
  words_over p (clocked s ∷ is) o js x = absurd cc

  pub width_over : (p : String → ℕ) (is : List Item) → foreign_items is ≡ true → (js : List Item) (x : String) → own x ≡ true →
      width_in p (is ++ js) x ≡ width_in p js x
  width_over p [] o js x a = refl
  width_over p (note s ∷ is) o js x a = width_over p is o js x a
  width_over p (gap ∷ is) o js x a = width_over p is o js x a
  width_over p (size y n ∷ is) o js x a = absurd cc
  width_over p (constant w y n ∷ is) o js x a = absurd cc
  width_over p (input w y ∷ is) o js x a =
      let (b, c) = and_parts (not (own y)) (foreign_items is) o in foreign_here y x _ _ _ b a (width_over p is c js x a)
  width_over p (output w y ∷ is) o js x a =
      let (b, c) = and_parts (not (own y)) (foreign_items is) o in foreign_here y x _ _ _ b a (width_over p is c js x a)
  width_over p (reg w y ∷ is) o js x a =
      let (b, c) = and_parts (not (own y)) (foreign_items is) o in foreign_here y x _ _ _ b a (width_over p is c js x a)
  width_over p (memory w y k ∷ is) o js x a = absurd cc
  width_over p (wire w y e ∷ is) o js x a =
      let (b, c) = and_parts (not (own y)) (foreign_items is) o in foreign_here y x _ _ _ b a (width_over p is c js x a)
  width_over p (settles s ∷ is) o js x a = absurd cc
  width_over p (clocked s ∷ is) o js x a = absurd cc

  -- and what settles of them writes no own name
  pub foreign_set : (y : String) → not (own y) ≡ true → (n : ℕ) (S T : Store) → alike.SameStore own S T →
      alike.SameStore own (set_vec y n S) T
  foreign_set y f n S T h = record {
    vec = λ x a. ap (λ b. chosen b n (S.vec x)) (turned own y x (not-true (own y) f) a) ∙ h.vec x a;
    mem = h.mem;
    stray = h.stray;
  }

  pub foreign_set_right : (y : String) → not (own y) ≡ true → (n : ℕ) (S T : Store) → alike.SameStore own S T →
      alike.SameStore own S (set_vec y n T)
  foreign_set_right y f n S T h =
      let k = foreign_set y f n T T (alike.same_store own T) in record {
        vec = λ x a. h.vec x a ∙ sym (k.vec x a);
        mem = h.mem;
        stray = h.stray;
      }

  pub settled_left : (P : Scope) (is : List Item) → foreign_items is ≡ true → (S T : Store) → alike.SameStore own S T →
      alike.SameStore own (settled P is S) T
  settled_left P [] o S T h = h
  settled_left P (note s ∷ is) o S T h = settled_left P is o S T h
  settled_left P (gap ∷ is) o S T h = settled_left P is o S T h
  settled_left P (size y n ∷ is) o S T h = absurd cc
  settled_left P (constant w y n ∷ is) o S T h = absurd cc
  settled_left P (input w y ∷ is) o S T h = settled_left P is (and_parts (not (own y)) (foreign_items is) o).1 S T h
  settled_left P (output w y ∷ is) o S T h = settled_left P is (and_parts (not (own y)) (foreign_items is) o).1 S T h
  settled_left P (reg w y ∷ is) o S T h = settled_left P is (and_parts (not (own y)) (foreign_items is) o).1 S T h
  settled_left P (memory w y k ∷ is) o S T h = absurd cc
  settled_left P (wire w y e ∷ is) o S T h =
      let (b, c) = and_parts (not (own y)) (foreign_items is) o in
      settled_left P is c (write P S (whole y) e S) T (foreign_set y b (assigned P S (P.width y) e) S T h)
  settled_left P (settles s ∷ is) o S T h = absurd cc
  settled_left P (clocked s ∷ is) o S T h = absurd cc

  pub settled_right : (P : Scope) (is : List Item) → foreign_items is ≡ true → (S T : Store) → alike.SameStore own S T →
      alike.SameStore own S (settled P is T)
  settled_right P [] o S T h = h
  settled_right P (note s ∷ is) o S T h = settled_right P is o S T h
  settled_right P (gap ∷ is) o S T h = settled_right P is o S T h
  settled_right P (size y n ∷ is) o S T h = absurd cc
  settled_right P (constant w y n ∷ is) o S T h = absurd cc
  settled_right P (input w y ∷ is) o S T h = settled_right P is (and_parts (not (own y)) (foreign_items is) o).1 S T h
  settled_right P (output w y ∷ is) o S T h = settled_right P is (and_parts (not (own y)) (foreign_items is) o).1 S T h
  settled_right P (reg w y ∷ is) o S T h = settled_right P is (and_parts (not (own y)) (foreign_items is) o).1 S T h
  settled_right P (memory w y k ∷ is) o S T h = absurd cc
  settled_right P (wire w y e ∷ is) o S T h =
      let (b, c) = and_parts (not (own y)) (foreign_items is) o in
      settled_right P is c S (write P T (whole y) e T) (foreign_set_right y b (assigned P T (P.width y) e) S T h)
  settled_right P (settles s ∷ is) o S T h = absurd cc
  settled_right P (clocked s ∷ is) o S T h = absurd cc

  -- nor does a statement of the clock whose targets are other names
  abbrev pub foreign_stmt : Stmt → Bool
  foreign_stmt skip = true
  foreign_stmt (put (whole y) e) = not (own y)
  foreign_stmt (put (word_at m i) e) = false
  foreign_stmt (seq s t) = foreign_stmt s && foreign_stmt t
  foreign_stmt (branch e s t) = foreign_stmt s && foreign_stmt t
  foreign_stmt (cases e arms) = false

  either_left : (b : Bool) (S T U : Store) → alike.SameStore own S U → alike.SameStore own T U → alike.SameStore own (chosen b S T) U
  either_left true S T U h k = h
  either_left false S T U h k = k

  pub fire_left : (P : Scope) (R : Store) (s : Stmt) → foreign_stmt s ≡ true → (S T : Store) → alike.SameStore own S T →
      alike.SameStore own (fire P R s S) T
  fire_left P R skip o S T h = h
  fire_left P R (put (whole y) e) o S T h = foreign_set y o (assigned P R (P.width y) e) S T h
  fire_left P R (put (word_at m i) e) o S T h = absurd cc
  fire_left P R (seq s t) o S T h =
      let (b, c) = and_parts (foreign_stmt s) (foreign_stmt t) o in fire_left P R t c (fire P R s S) T (fire_left P R s b S T h)
  fire_left P R (branch e s t) o S T h =
      let (b, c) = and_parts (foreign_stmt s) (foreign_stmt t) o in
      either_left (holds P R e) (fire P R s S) (fire P R t S) T (fire_left P R s b S T h) (fire_left P R t c S T h)
  fire_left P R (cases e arms) o S T h = absurd cc
