-- What a tree comes to whose names are all own, whatever names are called so: where two scopes and two stores agree on own names, so do
-- they after it.
use Rattle.std.proofs.Common.{◌≡◌, ℕ, suc, ◌+◌, ◌-◌, ◌*◌, ◌/◌, ◌%◌, ◌^◌, max, Bool, true, false, not, ◌&&◌, ◌||◌, List, [], ◌∷◌, ◌++◌}
use Rattle.std.proofs.Common.{refl, ap, ◌∙◌}
use Rattle.std.specs.Prelude.{nat_eq, nat_lt}
use Rattle.std.proofs.lemmas.Bool.{and_parts, and_from}
use Prim.Native.String.{String}
use lib.Text.{eqt}
use Rattle.verilog_tree.specs.Tree.{Size, count, named, more, less, Expr, num, sized, const, name, bit, part, word, cat, inverse, two}
use Rattle.verilog_tree.specs.Tree.{shift, test, logic, none, any, every, pick, Target, whole, word_at, Stmt, skip, put, seq}
use Rattle.verilog_tree.specs.Tree.{branch, cases, Arms, otherwise, arm, Width, one, upto, wide, Item, note, gap, size}
use Rattle.verilog_tree.specs.Tree.{constant, input, output, reg, memory, wire, settles, clocked}
use Rattle.verilog_tree.specs.Meaning.{Store, Scope, amount, flag, chosen, fit, bits, two_value, shift_value, test_value, logic_value}
use Rattle.verilog_tree.specs.Meaning.{nonzero, value, own as own_value, holds, assigned, set_vec, set_word}
use Rattle.verilog_tree.specs.Meaning.{write, widest, widest_arm, labelled, run, run_arms, fire, fire_arms, settled}
use Rattle.verilog_tree.proofs.Frames.{leaves, leaves_arms, items_leave}
use Rattle.verilog_tree.proofs.Own.{foreign}

module _ (own : String → Bool) where
  -- all names of a size, an expression, a target, a statement are own
  abbrev pub own_size : Size → Bool
  own_size (count n) = true
  own_size (named x) = own x
  own_size (more a b) = own_size a && own_size b
  own_size (less a b) = own_size a && own_size b

  abbrev pub own_expr : Expr → Bool
  own_expr (num n) = true
  own_expr (sized w n) = true
  own_expr (const x) = own x
  own_expr (name x) = own x
  own_expr (bit x e) = own x && own_expr e
  own_expr (part x h l) = own x && (own_size h && own_size l)
  own_expr (word m e) = own m && own_expr e
  own_expr (cat a b) = own_expr a && own_expr b
  own_expr (inverse a) = own_expr a
  own_expr (two o a b) = own_expr a && own_expr b
  own_expr (shift o a b) = own_expr a && own_expr b
  own_expr (test o a b) = own_expr a && own_expr b
  own_expr (logic o a b) = own_expr a && own_expr b
  own_expr (none a) = own_expr a
  own_expr (any a) = own_expr a
  own_expr (every a) = own_expr a
  own_expr (pick c a b) = own_expr c && (own_expr a && own_expr b)

  abbrev pub own_exprs : List Expr → Bool
  own_exprs [] = true
  own_exprs (e ∷ es) = own_expr e && own_exprs es

  abbrev pub own_target : Target → Bool
  own_target (whole x) = own x
  own_target (word_at m e) = own m && own_expr e

  abbrev mutual
    pub own_stmt : Stmt → Bool
    own_stmt skip = true
    own_stmt (put t e) = own_target t && own_expr e
    own_stmt (seq s t) = own_stmt s && own_stmt t
    own_stmt (branch e s t) = own_expr e && (own_stmt s && own_stmt t)
    own_stmt (cases e arms) = own_expr e && own_arms arms

    pub own_arms : Arms → Bool
    own_arms (otherwise s) = own_stmt s
    own_arms (arm es s c arms) = own_exprs es && (own_stmt s && own_arms arms)

  abbrev pub own_width : Width → Bool
  own_width one = true
  own_width (upto h) = own_size h
  own_width (wide k) = own_size k

  -- and those of an item
  abbrev pub own_item : Item → Bool
  own_item (note s) = true
  own_item gap = true
  own_item (size x n) = own x
  own_item (constant w x n) = own x && own_width w
  own_item (input w x) = own x && own_width w
  own_item (output w x) = own x && own_width w
  own_item (reg w x) = own x && own_width w
  own_item (memory w x k) = own x && (own_width w && own_size k)
  own_item (wire w x e) = own x && (own_width w && own_expr e)
  own_item (settles s) = own_stmt s
  own_item (clocked s) = own_stmt s

  abbrev pub own_items : List Item → Bool
  own_items [] = true
  own_items (i ∷ is) = own_item i && own_items is

  -- two scopes, and two stores, that agree on own names
  pub record SameScope (P Q : Scope) : Type 0 where
    pub width : (x : String) → own x ≡ true → P.width x ≡ Q.width x
    pub words : (x : String) → own x ≡ true → P.words x ≡ Q.words x
    pub param : (x : String) → own x ≡ true → P.param x ≡ Q.param x

  pub record SameStore (S T : Store) : Type 0 where
    pub vec : (x : String) → own x ≡ true → S.vec x ≡ T.vec x
    pub mem : (x : String) → own x ≡ true → (i : ℕ) → S.mem x i ≡ T.mem x i
    pub stray : (x : String) → own x ≡ true → (i : ℕ) → S.stray x i ≡ T.stray x i

  pub same_store : (S : Store) → SameStore S S
  same_store S = record { vec = λ x o. refl; mem = λ x o i. refl; stray = λ x o i. refl }

  -- a size comes to the same
  pub amount_same : (p q : String → ℕ) → ((x : String) → own x ≡ true → p x ≡ q x) → (s : Size) → own_size s ≡ true →
      amount p s ≡ amount q s
  amount_same p q h (count n) o = refl
  amount_same p q h (named x) o = h x o
  amount_same p q h (more a b) o =
      let (u, v) = and_parts (own_size a) (own_size b) o in
      let x = amount_same p q h a u in
      let y = amount_same p q h b v in
      λ i. x i + y i
  amount_same p q h (less a b) o =
      let (u, v) = and_parts (own_size a) (own_size b) o in
      let x = amount_same p q h a u in
      let y = amount_same p q h b v in
      λ i. x i - y i

  -- one of two that are the same
  pub either_same : (b c : Bool) (S T U V : Store) → b ≡ c → (b ≡ true → SameStore S U) → (b ≡ false → SameStore T V) →
      SameStore (chosen b S T) (chosen c U V)
  either_same true true S T U V e f g = f refl
  either_same true false S T U V e f g = absurd cc
  either_same false true S T U V e f g = absurd cc
  either_same false false S T U V e f g = g refl

  pub set_same : (x : String) (n m : ℕ) (S T : Store) → n ≡ m → SameStore S T → SameStore (set_vec x n S) (set_vec x m T)
  set_same x n m S T e h = record {
    vec = λ y o. let z = h.vec y o in λ j. chosen (eqt x y) (e j) (z j);
    mem = λ y o i. h.mem y o i;
    stray = λ y o i. h.stray y o i;
  }

  word_same : (x : String) (w v i j n m : ℕ) (S T : Store) → w ≡ v → i ≡ j → n ≡ m → SameStore S T →
      SameStore (set_word x w i n S) (set_word x v j m T)
  word_same x w v i j n m S T e f g h = record {
    vec = λ y o. h.vec y o;
    mem = λ y o k. let z = h.mem y o k in λ l. chosen (eqt x y && (nat_eq (f l) k && nat_lt (f l) (e l))) (g l) (z l);
    stray = λ y o k. h.stray y o k;
  }

  -- a name that isn't own is none that is assigned to
  module _ (x : String) (g : own x ≡ false) where
    not_it : (y : String) → own y ≡ true → not (eqt y x) ≡ true
    not_it y o = ap not (foreign own y x o g)

    mutual
      pub stmt_leaves : (s : Stmt) → own_stmt s ≡ true → leaves x s ≡ true
      stmt_leaves skip o = refl
      stmt_leaves (put (whole y) e) o = not_it y (and_parts (own y) (own_expr e) o).0
      stmt_leaves (put (word_at y i) e) o = refl
      stmt_leaves (seq s t) o =
          let (a, b) = and_parts (own_stmt s) (own_stmt t) o in and_from (leaves x s) (leaves x t) (stmt_leaves s a) (stmt_leaves t b)
      stmt_leaves (branch e s t) o =
          let (a, b) = and_parts (own_expr e) (own_stmt s && own_stmt t) o in
          let (c, d) = and_parts (own_stmt s) (own_stmt t) b in
          and_from (leaves x s) (leaves x t) (stmt_leaves s c) (stmt_leaves t d)
      stmt_leaves (cases e arms) o = arms_leave_it arms (and_parts (own_expr e) (own_arms arms) o).1

      arms_leave_it : (arms : Arms) → own_arms arms ≡ true → leaves_arms x arms ≡ true
      arms_leave_it (otherwise s) o = stmt_leaves s o
      arms_leave_it (arm es s c arms) o =
          let (a, b) = and_parts (own_exprs es) (own_stmt s && own_arms arms) o in
          let (d, e) = and_parts (own_stmt s) (own_arms arms) b in
          and_from (leaves x s) (leaves_arms x arms) (stmt_leaves s d) (arms_leave_it arms e)

  module _ (P Q : Scope) (same : SameScope P Q) where
    size_same : (s : Size) → own_size s ≡ true → amount P.param s ≡ amount Q.param s
    size_same s o = amount_same P.param Q.param same.param s o

    -- an expression is as wide
    bits_same : (e : Expr) → own_expr e ≡ true → bits P e ≡ bits Q e
    bits_same (num n) o = refl
    bits_same (sized w n) o = refl
    bits_same (const x) o = same.width x o
    bits_same (name x) o = same.width x o
    bits_same (bit x e) o = refl
    bits_same (part x h l) o =
        let (a, b) = and_parts (own x) (own_size h && own_size l) o in
        let (c, d) = and_parts (own_size h) (own_size l) b in
        let y = size_same h c in
        let z = size_same l d in
        λ i. suc (y i - z i)
    bits_same (word m e) o = same.width m (and_parts (own m) (own_expr e) o).0
    bits_same (cat a b) o =
        let (c, d) = and_parts (own_expr a) (own_expr b) o in
        let y = bits_same a c in
        let z = bits_same b d in
        λ i. y i + z i
    bits_same (inverse a) o = bits_same a o
    bits_same (two p a b) o =
        let (c, d) = and_parts (own_expr a) (own_expr b) o in
        let y = bits_same a c in
        let z = bits_same b d in
        λ i. max (y i) (z i)
    bits_same (shift p a b) o = bits_same a (and_parts (own_expr a) (own_expr b) o).0
    bits_same (test p a b) o = refl
    bits_same (logic p a b) o = refl
    bits_same (none a) o = refl
    bits_same (any a) o = refl
    bits_same (every a) o = refl
    bits_same (pick c a b) o =
        let (d, e) = and_parts (own_expr c) (own_expr a && own_expr b) o in
        let (f, g) = and_parts (own_expr a) (own_expr b) e in
        let y = bits_same a f in
        let z = bits_same b g in
        λ i. max (y i) (z i)

    module _ (S T : Store) (alike : SameStore S T) where
      -- and comes to the same
      pub value_same : (w v : ℕ) → w ≡ v → (e : Expr) → own_expr e ≡ true → value P S w e ≡ value Q T v e
      value_same w v h (num n) o = refl
      value_same w v h (sized k n) o = refl
      value_same w v h (const x) o = let y = same.width x o in let z = same.param x o in λ i. fit (y i) (z i)
      value_same w v h (name x) o = alike.vec x o
      value_same w v h (bit x e) o =
          let (a, b) = and_parts (own x) (own_expr e) o in
          let y = same.width x a in
          let z = value_same (bits P e) (bits Q e) (bits_same e b) e b in
          let u = alike.vec x a in
          let s : S.stray x (value P S (bits P e) e) ≡ T.stray x (value Q T (bits Q e) e) = ap (S.stray x) z ∙ alike.stray x a _ in
          λ i. chosen (nat_lt (z i) (y i)) (u i / 2 ^ z i % 2) (s i)
      value_same w v q (part x h l) o =
          let (a, b) = and_parts (own x) (own_size h && own_size l) o in
          let (c, d) = and_parts (own_size h) (own_size l) b in
          let y = same.width x a in
          let z = size_same h c in
          let t = size_same l d in
          let u = alike.vec x a in
          let s : S.stray x (amount P.param h) ≡ T.stray x (amount Q.param h) = ap (S.stray x) z ∙ alike.stray x a _ in
          λ i. chosen (nat_lt (z i) (y i)) (fit (suc (z i - t i)) (u i / 2 ^ t i)) (s i)
      value_same w v h (word m e) o =
          let (a, b) = and_parts (own m) (own_expr e) o in
          let y = same.words m a in
          let z = value_same (bits P e) (bits Q e) (bits_same e b) e b in
          let u : S.mem m (value P S (bits P e) e) ≡ T.mem m (value Q T (bits Q e) e) = ap (S.mem m) z ∙ alike.mem m a _ in
          let s : S.stray m (value P S (bits P e) e) ≡ T.stray m (value Q T (bits Q e) e) = ap (S.stray m) z ∙ alike.stray m a _ in
          λ i. chosen (nat_lt (z i) (y i)) (u i) (s i)
      value_same w v h (cat a b) o =
          let (c, d) = and_parts (own_expr a) (own_expr b) o in
          let x = value_same (bits P a) (bits Q a) (bits_same a c) a c in
          let y = value_same (bits P b) (bits Q b) (bits_same b d) b d in
          let z = bits_same b d in
          λ i. x i * 2 ^ z i + y i
      value_same w v h (inverse a) o = let x = value_same w v h a o in λ i. 2 ^ h i - 1 - x i
      value_same w v h (two p a b) o =
          let (c, d) = and_parts (own_expr a) (own_expr b) o in
          let x = value_same w v h a c in
          let y = value_same w v h b d in
          λ i. two_value p (h i) (x i) (y i)
      value_same w v h (shift p a b) o =
          let (c, d) = and_parts (own_expr a) (own_expr b) o in
          let x = value_same w v h a c in
          let y = value_same (bits P b) (bits Q b) (bits_same b d) b d in
          λ i. shift_value p (h i) (x i) (y i)
      value_same w v h (test p a b) o =
          let (c, d) = and_parts (own_expr a) (own_expr b) o in
          let m = bits_same a c in
          let n = bits_same b d in
          let x = value_same (max (bits P a) (bits P b)) (max (bits Q a) (bits Q b)) (λ i. max (m i) (n i)) a c in
          let y = value_same (max (bits P a) (bits P b)) (max (bits Q a) (bits Q b)) (λ i. max (m i) (n i)) b d in
          λ i. flag (test_value p (x i) (y i))
      value_same w v h (logic p a b) o =
          let (c, d) = and_parts (own_expr a) (own_expr b) o in
          let x = value_same (bits P a) (bits Q a) (bits_same a c) a c in
          let y = value_same (bits P b) (bits Q b) (bits_same b d) b d in
          λ i. flag (logic_value p (nonzero (x i)) (nonzero (y i)))
      value_same w v h (none a) o = ap (λ n. flag (nat_eq n 0)) (value_same (bits P a) (bits Q a) (bits_same a o) a o)
      value_same w v h (any a) o = ap (λ n. flag (nonzero n)) (value_same (bits P a) (bits Q a) (bits_same a o) a o)
      value_same w v h (every a) o =
          let x = value_same (bits P a) (bits Q a) (bits_same a o) a o in
          let y = bits_same a o in
          λ i. flag (nat_eq (x i) (2 ^ y i - 1))
      value_same w v h (pick c a b) o =
          let (d, e) = and_parts (own_expr c) (own_expr a && own_expr b) o in
          let (f, g) = and_parts (own_expr a) (own_expr b) e in
          let x = value_same (bits P c) (bits Q c) (bits_same c d) c d in
          let y = value_same w v h a f in
          let z = value_same w v h b g in
          λ i. chosen (nonzero (x i)) (y i) (z i)

      pub own_same : (e : Expr) → own_expr e ≡ true → own_value P S e ≡ own_value Q T e
      own_same e o = value_same (bits P e) (bits Q e) (bits_same e o) e o

      pub holds_same : (e : Expr) → own_expr e ≡ true → holds P S e ≡ holds Q T e
      holds_same e o = ap nonzero (own_same e o)

      assigned_same : (w v : ℕ) → w ≡ v → (e : Expr) → own_expr e ≡ true → assigned P S w e ≡ assigned Q T v e
      assigned_same w v h e o =
          let m = bits_same e o in
          let x = value_same (max w (bits P e)) (max v (bits Q e)) (λ i. max (h i) (m i)) e o in
          λ i. fit (h i) (x i)

      -- what is written is the same
      pub write_same : (t : Target) (e : Expr) → own_target t ≡ true → own_expr e ≡ true → (U V : Store) → SameStore U V →
          SameStore (write P S t e U) (write Q T t e V)
      write_same (whole x) e h o U V g = set_same x _ _ U V (assigned_same (P.width x) (Q.width x) (same.width x h) e o) g
      write_same (word_at m i) e h o U V g =
          let (a, b) = and_parts (own m) (own_expr i) h in
          word_same m _ _ _ _ _ _ U V (same.words m a) (own_same i b)
          (assigned_same (P.width m) (Q.width m) (same.width m a) e o) g

      pub labelled_same : (w v n m : ℕ) → w ≡ v → n ≡ m → (es : List Expr) → own_exprs es ≡ true →
          labelled P S w n es ≡ labelled Q T v m es
      labelled_same w v n m h g [] o = refl
      labelled_same w v n m h g (e ∷ es) o =
          let (a, b) = and_parts (own_expr e) (own_exprs es) o in
          let x = value_same w v h e a in
          let y = labelled_same w v n m h g es b in
          λ i. nat_eq (g i) (x i) || y i

    pub widest_same : (w v : ℕ) → w ≡ v → (es : List Expr) → own_exprs es ≡ true → widest P w es ≡ widest Q v es
    widest_same w v h [] o = h
    widest_same w v h (e ∷ es) o =
        let (a, b) = and_parts (own_expr e) (own_exprs es) o in
        let x = bits_same e a in
        widest_same (max w (bits P e)) (max v (bits Q e)) (λ i. max (h i) (x i)) es b

    arms_width : (w v : ℕ) → w ≡ v → (arms : Arms) → own_arms arms ≡ true → widest_arm P w arms ≡ widest_arm Q v arms
    arms_width w v h (otherwise s) o = h
    arms_width w v h (arm es s c arms) o =
        let (a, b) = and_parts (own_exprs es) (own_stmt s && own_arms arms) o in
        let (d, e) = and_parts (own_stmt s) (own_arms arms) b in
        arms_width (widest P w es) (widest Q v es) (widest_same w v h es a) arms e

    -- a statement of a block that settles
    mutual
      pub run_same : (s : Stmt) → own_stmt s ≡ true → (S T : Store) → SameStore S T → SameStore (run P s S) (run Q s T)
      run_same skip o S T h = h
      run_same (put t e) o S T h = let (a, b) = and_parts (own_target t) (own_expr e) o in write_same S T h t e a b S T h
      run_same (seq s t) o S T h =
          let (a, b) = and_parts (own_stmt s) (own_stmt t) o in run_same t b (run P s S) (run Q s T) (run_same s a S T h)
      run_same (branch e s t) o S T h =
          let (a, b) = and_parts (own_expr e) (own_stmt s && own_stmt t) o in
          let (c, d) = and_parts (own_stmt s) (own_stmt t) b in
          either_same (holds P S e) (holds Q T e) (run P s S) (run P t S) (run Q s T) (run Q t T) (holds_same S T h e a)
          (λ i. run_same s c S T h) (λ i. run_same t d S T h)
      run_same (cases e arms) o S T h =
          let (a, b) = and_parts (own_expr e) (own_arms arms) o in
          let w = arms_width (bits P e) (bits Q e) (bits_same e a) arms b in
          arms_same arms b (widest_arm P (bits P e) arms) (widest_arm Q (bits Q e) arms)
          (value P S (widest_arm P (bits P e) arms) e) (value Q T (widest_arm Q (bits Q e) arms) e) w
          (value_same S T h (widest_arm P (bits P e) arms) (widest_arm Q (bits Q e) arms) w e a) S T h

      pub arms_same : (arms : Arms) → own_arms arms ≡ true → (w v n m : ℕ) → w ≡ v → n ≡ m → (S T : Store) → SameStore S T →
          SameStore (run_arms P w n arms S) (run_arms Q v m arms T)
      arms_same (otherwise s) o w v n m f g S T h = run_same s o S T h
      arms_same (arm es s c arms) o w v n m f g S T h =
          let (a, b) = and_parts (own_exprs es) (own_stmt s && own_arms arms) o in
          let (d, e) = and_parts (own_stmt s) (own_arms arms) b in
          either_same (labelled P S w n es) (labelled Q T v m es) (run P s S) (run_arms P w n arms S) (run Q s T) (run_arms Q v m arms T)
          (labelled_same S T h w v n m f g es a) (λ i. run_same s d S T h) (λ i. arms_same arms e w v n m f g S T h)

    -- a statement of the clock's block
    module _ (R U : Store) (alike : SameStore R U) where
      mutual
        pub fire_same : (s : Stmt) → own_stmt s ≡ true → (S T : Store) → SameStore S T → SameStore (fire P R s S) (fire Q U s T)
        fire_same skip o S T h = h
        fire_same (put t e) o S T h = let (a, b) = and_parts (own_target t) (own_expr e) o in write_same R U alike t e a b S T h
        fire_same (seq s t) o S T h =
            let (a, b) = and_parts (own_stmt s) (own_stmt t) o in fire_same t b (fire P R s S) (fire Q U s T) (fire_same s a S T h)
        fire_same (branch e s t) o S T h =
            let (a, b) = and_parts (own_expr e) (own_stmt s && own_stmt t) o in
            let (c, d) = and_parts (own_stmt s) (own_stmt t) b in
            either_same (holds P R e) (holds Q U e) (fire P R s S) (fire P R t S) (fire Q U s T) (fire Q U t T) (holds_same R U alike e a)
            (λ i. fire_same s c S T h) (λ i. fire_same t d S T h)
        fire_same (cases e arms) o S T h =
            let (a, b) = and_parts (own_expr e) (own_arms arms) o in
            let w = arms_width (bits P e) (bits Q e) (bits_same e a) arms b in
            fire_arms_same arms b (widest_arm P (bits P e) arms) (widest_arm Q (bits Q e) arms)
            (value P R (widest_arm P (bits P e) arms) e) (value Q U (widest_arm Q (bits Q e) arms) e) w
            (value_same R U alike (widest_arm P (bits P e) arms) (widest_arm Q (bits Q e) arms) w e a) S T h

        fire_arms_same : (arms : Arms) → own_arms arms ≡ true → (w v n m : ℕ) → w ≡ v → n ≡ m → (S T : Store) → SameStore S T →
            SameStore (fire_arms P R w n arms S) (fire_arms Q U v m arms T)
        fire_arms_same (otherwise s) o w v n m f g S T h = fire_same s o S T h
        fire_arms_same (arm es s c arms) o w v n m f g S T h =
            let (a, b) = and_parts (own_exprs es) (own_stmt s && own_arms arms) o in
            let (d, e) = and_parts (own_stmt s) (own_arms arms) b in
            either_same (labelled P R w n es) (labelled Q U v m es) (fire P R s S) (fire_arms P R w n arms S) (fire Q U s T)
            (fire_arms Q U v m arms T) (labelled_same R U alike w v n m f g es a) (λ i. fire_same s d S T h)
            (λ i. fire_arms_same arms e w v n m f g S T h)

    -- wires and blocks that settle, and what settles after them
    pub settled_same : (is : List Item) → own_items is ≡ true → (js ks : List Item) →
        ((S T : Store) → SameStore S T → SameStore (settled P js S) (settled Q ks T)) → (S T : Store) → SameStore S T →
        SameStore (settled P (is ++ js) S) (settled Q (is ++ ks) T)
    settled_same [] o js ks g S T h = g S T h
    settled_same (note s ∷ is) o js ks g S T h = settled_same is o js ks g S T h
    settled_same (gap ∷ is) o js ks g S T h = settled_same is o js ks g S T h
    settled_same (size x n ∷ is) o js ks g S T h = settled_same is (and_parts (own x) (own_items is) o).1 js ks g S T h
    settled_same (constant w x n ∷ is) o js ks g S T h =
        settled_same is (and_parts (own x && own_width w) (own_items is) o).1 js ks g S T h
    settled_same (input w x ∷ is) o js ks g S T h = settled_same is (and_parts (own x && own_width w) (own_items is) o).1 js ks g S T h
    settled_same (output w x ∷ is) o js ks g S T h = settled_same is (and_parts (own x && own_width w) (own_items is) o).1 js ks g S T h
    settled_same (reg w x ∷ is) o js ks g S T h = settled_same is (and_parts (own x && own_width w) (own_items is) o).1 js ks g S T h
    settled_same (memory w x k ∷ is) o js ks g S T h =
        settled_same is (and_parts (own x && (own_width w && own_size k)) (own_items is) o).1 js ks g S T h
    settled_same (wire w x e ∷ is) o js ks g S T h =
        let (a, b) = and_parts (own x && (own_width w && own_expr e)) (own_items is) o in
        let (c, d) = and_parts (own x) (own_width w && own_expr e) a in
        settled_same is b js ks g (write P S (whole x) e S) (write Q T (whole x) e T)
        (write_same S T h (whole x) e c (and_parts (own_width w) (own_expr e) d).1 S T h)
    settled_same (settles s ∷ is) o js ks g S T h =
        let (a, b) = and_parts (own_stmt s) (own_items is) o in settled_same is b js ks g (run P s S) (run Q s T) (run_same s a S T h)
    settled_same (clocked s ∷ is) o js ks g S T h = settled_same is (and_parts (own_stmt s) (own_items is) o).1 js ks g S T h

  -- what isn't own, an own statement leaves as it was
  module _ (P : Scope) (x : String) (g : own x ≡ false) where
    other_kept : (y : String) (n : ℕ) (S : Store) → own y ≡ true → (set_vec y n S).vec x ≡ S.vec x
    other_kept y n S o = ap (λ b. chosen b n (S.vec x)) (foreign own y x o g)

    write_kept : (R : Store) (t : Target) (e : Expr) (S : Store) → own_target t ≡ true → (write P R t e S).vec x ≡ S.vec x
    write_kept R (whole y) e S o = other_kept y _ S o
    write_kept R (word_at m i) e S o = refl

    either_kept : (b : Bool) (S T : Store) (n : ℕ) → S.vec x ≡ n → T.vec x ≡ n → (chosen b S T).vec x ≡ n
    either_kept true S T n e f = e
    either_kept false S T n e f = f

    mutual
      pub fire_kept : (R : Store) (s : Stmt) → own_stmt s ≡ true → (S : Store) → (fire P R s S).vec x ≡ S.vec x
      fire_kept R skip o S = refl
      fire_kept R (put t e) o S = write_kept R t e S (and_parts (own_target t) (own_expr e) o).0
      fire_kept R (seq s t) o S =
          let (a, b) = and_parts (own_stmt s) (own_stmt t) o in fire_kept R t b (fire P R s S) ∙ fire_kept R s a S
      fire_kept R (branch e s t) o S =
          let (a, b) = and_parts (own_expr e) (own_stmt s && own_stmt t) o in
          let (c, d) = and_parts (own_stmt s) (own_stmt t) b in
          either_kept (holds P R e) (fire P R s S) (fire P R t S) (S.vec x) (fire_kept R s c S) (fire_kept R t d S)
      fire_kept R (cases e arms) o S =
          arms_kept R arms (and_parts (own_expr e) (own_arms arms) o).1 (widest_arm P (bits P e) arms)
          (value P R (widest_arm P (bits P e) arms) e) S

      arms_kept : (R : Store) (arms : Arms) → own_arms arms ≡ true → (w n : ℕ) (S : Store) → (fire_arms P R w n arms S).vec x ≡ S.vec x
      arms_kept R (otherwise s) o w n S = fire_kept R s o S
      arms_kept R (arm es s c arms) o w n S =
          let (a, b) = and_parts (own_exprs es) (own_stmt s && own_arms arms) o in
          let (d, e) = and_parts (own_stmt s) (own_arms arms) b in
          either_kept (labelled P R w n es) (fire P R s S) (fire_arms P R w n arms S) (S.vec x) (fire_kept R s d S)
          (arms_kept R arms e w n S)

  -- nor do own items
  pub own_items_leave : (P : Scope) (x : String) → own x ≡ false → (is : List Item) → own_items is ≡ true → (js : List Item) →
      items_leave P x js ≡ true → items_leave P x (is ++ js) ≡ true
  own_items_leave P x g [] o js h = h
  own_items_leave P x g (note s ∷ is) o js h = own_items_leave P x g is o js h
  own_items_leave P x g (gap ∷ is) o js h = own_items_leave P x g is o js h
  own_items_leave P x g (size y n ∷ is) o js h = own_items_leave P x g is (and_parts (own y) (own_items is) o).1 js h
  own_items_leave P x g (constant w y n ∷ is) o js h =
      own_items_leave P x g is (and_parts (own y && own_width w) (own_items is) o).1 js h
  own_items_leave P x g (input w y ∷ is) o js h = own_items_leave P x g is (and_parts (own y && own_width w) (own_items is) o).1 js h
  own_items_leave P x g (output w y ∷ is) o js h = own_items_leave P x g is (and_parts (own y && own_width w) (own_items is) o).1 js h
  own_items_leave P x g (reg w y ∷ is) o js h = own_items_leave P x g is (and_parts (own y && own_width w) (own_items is) o).1 js h
  own_items_leave P x g (memory w y k ∷ is) o js h =
      own_items_leave P x g is (and_parts (own y && (own_width w && own_size k)) (own_items is) o).1 js h
  own_items_leave P x g (wire w y e ∷ is) o js h =
      let (a, b) = and_parts (own y && (own_width w && own_expr e)) (own_items is) o in
      and_from (not (eqt y x)) (items_leave P x (is ++ js)) (not_it x g y (and_parts (own y) (own_width w && own_expr e) a).0)
      (own_items_leave P x g is b js h)
  own_items_leave P x g (settles s ∷ is) o js h =
      let (a, b) = and_parts (own_stmt s) (own_items is) o in
      and_from (leaves x s) (items_leave P x (is ++ js)) (stmt_leaves x g s a) (own_items_leave P x g is b js h)
  own_items_leave P x g (clocked s ∷ is) o js h = own_items_leave P x g is (and_parts (own_stmt s) (own_items is) o).1 js h
