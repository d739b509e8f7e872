-- What has settled stays: each wire and each block that settles, run again where all has settled, changes nothing.
use Rattle.std.proofs.Common.{◌≡◌, ℕ, suc, ◌+◌, ◌*◌, ◌/◌, ◌%◌, ◌^◌, ◌-◌, max, Bool, true, false, not, ◌&&◌, ◌||◌, List, [], ◌∷◌, ◌++◌}
use Rattle.std.proofs.Common.{refl, ap, sym, subst, ◌∙◌, ◌⊎◌, inl, inr}
use Rattle.std.specs.Prelude.{nat_eq, nat_lt}
use Rattle.std.proofs.lemmas.Bool.{and_parts, and_from, or_parts, or_left, or_right, not-true}
use Prim.Native.String.{String}
use lib.Text.{eqt}
use Rattle.verilog_tree.specs.Tree.{Expr, num, sized, const, name, bit, part, word, cat, inverse, two, shift, test, logic, none, any}
use Rattle.verilog_tree.specs.Tree.{every, pick, whole, word_at, Stmt, skip, put, seq, branch, cases, Arms, otherwise, arm, Item, wire}
use Rattle.verilog_tree.specs.Tree.{settles}
use Rattle.verilog_tree.specs.Print.{straight}
use Rattle.verilog_tree.specs.Meaning.{Scope, Store, amount, flag, chosen, fit, bits, two_value, shift_value, test_value, logic_value}
use Rattle.verilog_tree.specs.Meaning.{nonzero, value, holds, assigned, set_vec, write, widest_arm, labelled, run, run_arms, settled, scope}
use Rattle.verilog_tree.specs.WellFormed.{member, outside, reads, all_read, block_reads, arms_read, common, sets_first}
use Rattle.verilog_tree.specs.WellFormed.{first_reads, apart, Kind, a_size, a_constant, an_input, a_register, a_wire, a_bit_input}
use Rattle.verilog_tree.specs.WellFormed.{a_bit_register, a_bit_wire, a_clock, a_memory, Entry, of_kind, register, is_memory}
use Rattle.verilog_tree.specs.WellFormed.{expr_ok, exprs_ok, said_ok, stmt_ok, arms_ok, item_ok, items_ok, declared, driven, settling}
use Rattle.verilog_tree.specs.WellFormed.{in_order, ports_first, items_fit, limits}
use Rattle.verilog_tree.specs.Laws.{Rests, SettlesOnce, SettledStays}
use Rattle.verilog_tree.proofs.Own.{one_name, same_name, off_either}
use Rattle.verilog_tree.proofs.Frames.{leaves, leaves_arms, calm, calm_arms, items_leave, items_calm, run_leaves, run_calm}
use Rattle.verilog_tree.proofs.Frames.{settled_leaves, settled_calm}
use Rattle.verilog_tree.proofs.Once.{head_ok, tail_ok, items_of}

-- ---- names

-- a name holds what it was set to
pub set_here : (x : String) (n : ℕ) (S : Store) → (set_vec x n S).vec x ≡ n
set_here x n S = ap (λ b. chosen b n (S.vec x)) (same_name x)

-- one of two is so
one_or : (a b : Bool) → (a || b) ≡ true → (a ≡ true) ⊎ (b ≡ true)
one_or true b h = inl refl
one_or false b h = inr h

-- a name of either list, and of both
pub member_append : (x : String) (xs ys : List String) → member x (xs ++ ys) ≡ (member x xs || member x ys)
member_append x [] ys = refl
member_append x (y ∷ xs) ys = assoc (eqt y x) (member x xs) (member x ys) (member x (xs ++ ys)) (member_append x xs ys)
  where
    assoc : (a b c d : Bool) → d ≡ (b || c) → (a || d) ≡ ((a || b) || c)
    assoc true b c d e = refl
    assoc false b c d e = e

pick_left : (x y : String) (b : Bool) (xs zs : List String) → (member x zs ≡ true → member x xs ≡ true) →
    member x (chosen b (y ∷ zs) zs) ≡ true → (eqt y x || member x xs) ≡ true
pick_left x y true xs zs f h = go (one_or (eqt y x) (member x zs) h)
  where
    go : (eqt y x ≡ true) ⊎ (member x zs ≡ true) → (eqt y x || member x xs) ≡ true
    go (inl e) = or_left (eqt y x) (member x xs) e
    go (inr e) = or_right (eqt y x) (member x xs) (f e)
pick_left x y false xs zs f h = or_right (eqt y x) (member x xs) (f h)

pick_right : (x y : String) (b : Bool) (ys zs : List String) → member y ys ≡ b → (member x zs ≡ true → member x ys ≡ true) →
    member x (chosen b (y ∷ zs) zs) ≡ true → member x ys ≡ true
pick_right x y true ys zs m f h = go (one_or (eqt y x) (member x zs) h)
  where
    go : (eqt y x ≡ true) ⊎ (member x zs ≡ true) → member x ys ≡ true
    go (inl e) = subst (λ z. member z ys ≡ true) (one_name y x e) m
    go (inr e) = f e
pick_right x y false ys zs m f h = f h

common_left : (x : String) (xs ys : List String) → member x (common xs ys) ≡ true → member x xs ≡ true
common_left x [] ys h = absurd cc
common_left x (y ∷ xs) ys h = pick_left x y (member y ys) xs (common xs ys) (common_left x xs ys) h

common_right : (x : String) (xs ys : List String) → member x (common xs ys) ≡ true → member x ys ≡ true
common_right x [] ys h = absurd cc
common_right x (y ∷ xs) ys h = pick_right x y (member y ys) ys (common xs ys) refl (common_right x xs ys) h

gather : (a b c d : Bool) → d ≡ (b || c) → (a || d) ≡ true → ((a || b) || c) ≡ true
gather true b c d e h = refl
gather false b c d e h = sym e ∙ h

or_more : (a b c : Bool) → (b ≡ true → c ≡ true) → (a || b) ≡ true → (a || c) ≡ true
or_more true b c f h = refl
or_more false b c f h = f h

either_or : (b : Bool) → (not b || b) ≡ true
either_or true = refl
either_or false = refl

-- lists without a name in common
pub apart_from : (x : String) (xs ys : List String) → apart xs ys ≡ true → member x ys ≡ true → outside xs x ≡ true
apart_from x [] ys a m = refl
apart_from x (y ∷ xs) ys a m =
    let (b, c) = and_parts (not (member y ys)) (apart xs ys) a in go (eqt y x) refl b (apart_from x xs ys c m)
  where
    go : (b : Bool) → eqt y x ≡ b → not (member y ys) ≡ true → not (member x xs) ≡ true → not (b || member x xs) ≡ true
    go true e n r =
        let z : true ≡ false = sym m ∙ subst (λ z. member z ys ≡ false) (one_name y x e) (not-true (member y ys) n) in absurd cc
    go false e n r = r

-- ---- stores that agree on some names

pub record Same (p : String → Bool) (S T : Store) : Type 0 where
  pub vec : (x : String) → p x ≡ true → S.vec x ≡ T.vec x
  pub mem : S.mem ≡ T.mem
  pub stray : S.stray ≡ T.stray

-- on fewer names too
fewer : (p q : String → Bool) → ((x : String) → q x ≡ true → p x ≡ true) → (S T : Store) → Same p S T → Same q S T
fewer p q f S T h = record { vec = λ x o. h.vec x (f x o); mem = h.mem; stray = h.stray }

-- some names more
abbrev grown : (String → Bool) → List String → String → Bool
grown p xs x = p x || member x xs

module _ (P : Scope) (p : String → Bool) where
  module _ (S T : Store) (h : Same p S T) where
    -- an expression that reads these alone comes to the same
    value_same : (w : ℕ) (e : Expr) → reads p e ≡ true → value P S w e ≡ value P T w e
    value_same w (num n) o = refl
    value_same w (sized k n) o = refl
    value_same w (const x) o = refl
    value_same w (name x) o = h.vec x o
    value_same w (bit x e) o =
        let (a, b) = and_parts (p x) (reads p e) o in
        let z = value_same (bits P e) e b in
        let u = h.vec x a in
        let s = h.stray in
        λ i. chosen (nat_lt (z i) (P.width x)) (u i / 2 ^ z i % 2) (s i x (z i))
    value_same w (part x k l) o =
        let u = h.vec x o in
        let s = h.stray in
        λ i. chosen (nat_lt (amount P.param k) (P.width x)) (fit (suc (amount P.param k - amount P.param l)) (u i / 2 ^ amount P.param l))
        (s i x (amount P.param k))
    value_same w (word m e) o =
        let (a, b) = and_parts (p m) (reads p e) o in
        let z = value_same (bits P e) e b in
        let u = h.mem in
        let s = h.stray in
        λ i. chosen (nat_lt (z i) (P.words m)) (u i m (z i)) (s i m (z i))
    value_same w (cat a b) o =
        let (c, d) = and_parts (reads p a) (reads p b) o in
        let x = value_same (bits P a) a c in
        let y = value_same (bits P b) b d in
        λ i. x i * 2 ^ bits P b + y i
    value_same w (inverse a) o = let x = value_same w a o in λ i. 2 ^ w - 1 - x i
    value_same w (two q a b) o =
        let (c, d) = and_parts (reads p a) (reads p b) o in
        let x = value_same w a c in
        let y = value_same w b d in
        λ i. two_value q w (x i) (y i)
    value_same w (shift q a b) o =
        let (c, d) = and_parts (reads p a) (reads p b) o in
        let x = value_same w a c in
        let y = value_same (bits P b) b d in
        λ i. shift_value q w (x i) (y i)
    value_same w (test q a b) o =
        let (c, d) = and_parts (reads p a) (reads p b) o in
        let x = value_same (max (bits P a) (bits P b)) a c in
        let y = value_same (max (bits P a) (bits P b)) b d in
        λ i. flag (test_value q (x i) (y i))
    value_same w (logic q a b) o =
        let (c, d) = and_parts (reads p a) (reads p b) o in
        let x = value_same (bits P a) a c in
        let y = value_same (bits P b) b d in
        λ i. flag (logic_value q (nonzero (x i)) (nonzero (y i)))
    value_same w (none a) o = ap (λ n. flag (nat_eq n 0)) (value_same (bits P a) a o)
    value_same w (any a) o = ap (λ n. flag (nonzero n)) (value_same (bits P a) a o)
    value_same w (every a) o = ap (λ n. flag (nat_eq n (2 ^ bits P a - 1))) (value_same (bits P a) a o)
    value_same w (pick c a b) o =
        let (d, e) = and_parts (reads p c) (reads p a && reads p b) o in
        let (f, g) = and_parts (reads p a) (reads p b) e in
        let x = value_same (bits P c) c d in
        let y = value_same w a f in
        let z = value_same w b g in
        λ i. chosen (nonzero (x i)) (y i) (z i)

    holds_same : (e : Expr) → reads p e ≡ true → holds P S e ≡ holds P T e
    holds_same e o = ap nonzero (value_same (bits P e) e o)

    pub assigned_same : (w : ℕ) (e : Expr) → reads p e ≡ true → assigned P S w e ≡ assigned P T w e
    assigned_same w e o = ap (fit w) (value_same (max w (bits P e)) e o)

    labelled_same : (w n m : ℕ) → n ≡ m → (es : List Expr) → all_read p es ≡ true → labelled P S w n es ≡ labelled P T w m es
    labelled_same w n m h [] o = refl
    labelled_same w n m h (e ∷ es) o =
        let (a, b) = and_parts (reads p e) (all_read p es) o in
        let x = value_same w e a in
        let y = labelled_same w n m h es b in
        λ i. nat_eq (h i) (x i) || y i

-- one of two
either_same : (p : String → Bool) (b c : Bool) (S T U V : Store) → b ≡ c → Same p S U → Same p T V → Same p (chosen b S T) (chosen c U V)
either_same p true true S T U V e f g = f
either_same p true false S T U V e f g = absurd cc
either_same p false true S T U V e f g = absurd cc
either_same p false false S T U V e f g = g

-- a vector that is set to the same is one more that agrees
set_grown : (p : String → Bool) (x : String) (n m : ℕ) (S T : Store) → n ≡ m → Same p S T →
    Same (grown p (x ∷ [])) (set_vec x n S) (set_vec x m T)
set_grown p x n m S T e held = record { vec = λ y o. go y (eqt x y) o; mem = held.mem; stray = held.stray }
  where
    go : (y : String) (b : Bool) → (p y || (b || false)) ≡ true → chosen b n (S.vec y) ≡ chosen b m (T.vec y)
    go y true o = e
    go y false o = held.vec y (off_either (p y) o)

module _ (P : Scope) where
  -- a statement that sets no word and reads these names alone keeps the stores in agreement
  module _ (p : String → Bool) where
    mutual
      run_same : (s : Stmt) → block_reads p s ≡ true → calm s ≡ true → (S T : Store) → Same p S T → Same p (run P s S) (run P s T)
      run_same skip o k S T h = h
      run_same (put (whole x) e) o k S T h =
          fewer (grown p (x ∷ [])) p (λ y q. or_left (p y) (member y (x ∷ [])) q) _ _
          (set_grown p x _ _ S T (assigned_same P p S T h (P.width x) e o) h)
      run_same (put (word_at m i) e) o k S T h = absurd cc
      run_same (seq s t) o k S T h =
          let (a, b) = and_parts (block_reads p s) (block_reads p t) o in
          let (c, d) = and_parts (calm s) (calm t) k in
          run_same t b d (run P s S) (run P s T) (run_same s a c S T h)
      run_same (branch e s t) o k S T h =
          let (a, b) = and_parts (reads p e) (block_reads p s && block_reads p t) o in
          let (c, d) = and_parts (block_reads p s) (block_reads p t) b in
          let (f, g) = and_parts (calm s) (calm t) k in
          either_same p (holds P S e) (holds P T e) (run P s S) (run P t S) (run P s T) (run P t T) (holds_same P p S T h e a)
          (run_same s c f S T h) (run_same t d g S T h)
      run_same (cases e arms) o k S T h =
          let (a, b) = and_parts (reads p e) (arms_read p arms) o in
          arms_same arms b k (widest_arm P (bits P e) arms) (value P S (widest_arm P (bits P e) arms) e)
          (value P T (widest_arm P (bits P e) arms) e) (value_same P p S T h (widest_arm P (bits P e) arms) e a) S T h

      arms_same : (arms : Arms) → arms_read p arms ≡ true → calm_arms arms ≡ true → (w n m : ℕ) → n ≡ m → (S T : Store) → Same p S T →
          Same p (run_arms P w n arms S) (run_arms P w m arms T)
      arms_same (otherwise s) o k w n m e S T h = run_same s o k S T h
      arms_same (arm es s c arms) o k w n m e S T h =
          let (a, b) = and_parts (all_read p es) (block_reads p s && arms_read p arms) o in
          let (d, f) = and_parts (block_reads p s) (arms_read p arms) b in
          let (g, l) = and_parts (calm s) (calm_arms arms) k in
          either_same p (labelled P S w n es) (labelled P T w m es) (run P s S) (run_arms P w n arms S) (run P s T) (run_arms P w m arms T)
          (labelled_same P p S T h w n m e es a) (run_same s d g S T h) (arms_same arms f l w n m e S T h)

  -- the same of all names is the same store
  total : (p : String → Bool) → ((x : String) → p x ≡ true) → (S T : Store) → Same p S T → S ≡ T
  total p a S T h =
      let m = h.mem in let s = h.stray in
      λ i. record { vec = λ x. h.vec x (a x) i; mem = m i; stray = s i }

  -- a block that reads what these are only after it set them comes to the same from stores that agree elsewhere
  module _ (ms : List String) where
    -- assignments one after the other
    straight_same : (s : Stmt) → straight s ≡ true → first_reads ms s ≡ true → (p : String → Bool) →
        ((x : String) → outside ms x ≡ true → p x ≡ true) → (S T : Store) → Same p S T →
        Same (grown p (sets_first s)) (run P s S) (run P s T)
    straight_same skip l o p f S T h = fewer p (grown p []) (λ x q. off_either (p x) q) S T h
    straight_same (put (whole x) e) l o p f S T h =
        set_grown p x _ _ S T (assigned_same P (outside ms) S T (fewer p (outside ms) f S T h) (P.width x) e o) h
    straight_same (put (word_at m i) e) l o p f S T h = absurd cc
    straight_same (seq s t) l o p f S T h =
        let (e, g) = and_parts (straight s) (straight t) l in
        let (a, b) = and_parts (first_reads ms s) (chosen (straight s) (first_reads ms t) true) o in
        let b' = subst (λ c. chosen c (first_reads ms t) true ≡ true) e b in
        let x = straight_same s e a p f S T h in
        let y = straight_same t g b' (grown p (sets_first s)) (λ x q. or_left (p x) (member x (sets_first s)) (f x q))
        (run P s S) (run P s T) x in
        subst (λ c. Same (grown p (chosen c (sets_first s ++ sets_first t) (sets_first s))) (run P t (run P s S)) (run P t (run P s T)))
        (sym e)
        (fewer (grown (grown p (sets_first s)) (sets_first t)) (grown p (sets_first s ++ sets_first t))
        (λ x q. gather (p x) (member x (sets_first s)) (member x (sets_first t)) (member x (sets_first s ++ sets_first t))
        (member_append x (sets_first s) (sets_first t)) q)
        (run P t (run P s S)) (run P t (run P s T)) y)
    straight_same (branch e s t) l o p f S T h = absurd cc
    straight_same (cases e arms) l o p f S T h = absurd cc

    first_same : (s : Stmt) → calm s ≡ true → first_reads ms s ≡ true → (p : String → Bool) →
        ((x : String) → outside ms x ≡ true → p x ≡ true) → ((x : String) → grown p (sets_first s) x ≡ true) → (S T : Store) →
        Same p S T → run P s S ≡ run P s T
    first_same skip k o p f g S T h = total p (λ x. off_either (p x) (g x)) S T h
    first_same (put (whole x) e) k o p f g S T h = total (grown p (x ∷ [])) g _ _ (straight_same (put (whole x) e) refl o p f S T h)
    first_same (put (word_at m i) e) k o p f g S T h = absurd cc
    first_same (seq s t) k o p f g S T h =
        let (a, b) = and_parts (first_reads ms s) (chosen (straight s) (first_reads ms t) true) o in
        let (c, d) = and_parts (calm s) (calm t) k in
        by_straight (straight s) refl b g
        (λ e b g.
        first_same t d b (grown p (sets_first s)) (λ x q. or_left (p x) (member x (sets_first s)) (f x q))
        (λ x. gather (p x) (member x (sets_first s)) (member x (sets_first t)) (member x (sets_first s ++ sets_first t))
        (member_append x (sets_first s) (sets_first t)) (g x))
        (run P s S) (run P s T) (straight_same s e a p f S T h))
        (λ g. ap (run P t) (first_same s c a p f g S T h))
      where
        by_straight : (b : Bool) → straight s ≡ b → chosen b (first_reads ms t) true ≡ true →
            ((x : String) → grown p (chosen b (sets_first s ++ sets_first t) (sets_first s)) x ≡ true) →
            (straight s ≡ true → first_reads ms t ≡ true → ((x : String) → grown p (sets_first s ++ sets_first t) x ≡ true) →
            run P t (run P s S) ≡ run P t (run P s T)) →
            (((x : String) → grown p (sets_first s) x ≡ true) → run P t (run P s S) ≡ run P t (run P s T)) →
            run P t (run P s S) ≡ run P t (run P s T)
        by_straight true e o g y n = y e o g
        by_straight false e o g y n = n g
    first_same (branch e s t) k o p f g S T h =
        let (a, b) = and_parts (reads (outside ms) e) (first_reads ms s && first_reads ms t) o in
        let (c, d) = and_parts (first_reads ms s) (first_reads ms t) b in
        let (l, m) = and_parts (calm s) (calm t) k in
        let x = holds_same P (outside ms) S T (fewer p (outside ms) f S T h) e a in
        let y = first_same s l c p f (λ z. or_more (p z) _ _ (common_left z (sets_first s) (sets_first t)) (g z)) S T h in
        let z = first_same t m d p f (λ z. or_more (p z) _ _ (common_right z (sets_first s) (sets_first t)) (g z)) S T h in
        λ i. chosen (x i) (y i) (z i)
    first_same (cases e arms) k o p f g S T h = ap (run P (cases e arms)) (total p (λ x. off_either (p x) (g x)) S T h)

  either_stray : (b : Bool) (S T : Store) (m : String → ℕ → ℕ) → S.stray ≡ m → T.stray ≡ m → (chosen b S T).stray ≡ m
  either_stray true S T m e g = e
  either_stray false S T m e g = g

  -- what a statement leaves of what is read past an end
  mutual
    run_stray : (s : Stmt) (S : Store) → (run P s S).stray ≡ S.stray
    run_stray skip S = refl
    run_stray (put (whole x) e) S = refl
    run_stray (put (word_at m i) e) S = refl
    run_stray (seq s t) S = run_stray t (run P s S) ∙ run_stray s S
    run_stray (branch e s t) S = either_stray (holds P S e) (run P s S) (run P t S) S.stray (run_stray s S) (run_stray t S)
    run_stray (cases e arms) S =
        arms_stray arms (widest_arm P (bits P e) arms) (value P S (widest_arm P (bits P e) arms) e) S

    arms_stray : (arms : Arms) (w n : ℕ) (S : Store) → (run_arms P w n arms S).stray ≡ S.stray
    arms_stray (otherwise s) w n S = run_stray s S
    arms_stray (arm es s c arms) w n S =
        either_stray (labelled P S w n es) (run P s S) (run_arms P w n arms S) S.stray (run_stray s S) (arms_stray arms w n S)

  settled_stray : (is : List Item) (S : Store) → (settled P is S).stray ≡ S.stray
  settled_stray [] S = refl
  settled_stray (wire w x e ∷ is) S = settled_stray is (write P S (whole x) e S)
  settled_stray (settles s ∷ is) S = settled_stray is (run P s S) ∙ run_stray s S
  settled_stray (i ∷ is) S = settled_stray is S

-- ---- what a tree that is well formed gives

-- a block writes vectors alone, those that it sets first
pub record Block (s : Stmt) : Type 0 where
  pub calm : calm s ≡ true
  pub first : first_reads (sets_first s) s ≡ true
  pub mine : (x : String) → outside (sets_first s) x ≡ true → leaves x s ≡ true

-- each block of a list
abbrev pub Blocks : List Item → Type 0
Blocks [] = Unit {0}
Blocks (settles s ∷ is) = Block s × Blocks is
Blocks (i ∷ is) = Blocks is

-- a name of one kind is of no other
two_here : (b c d e g : Bool) → (c ≡ true → d ≡ false) → (e ≡ true → g ≡ true → ⊥) → chosen b c e ≡ true → chosen b d g ≡ true → ⊥
two_here true c d e g f ih h k = let z : true ≡ false = sym k ∙ f h in absurd cc
two_here false c d e g f ih h k = ih h k

two_kinds : (p q : Kind → Bool) → ((k : Kind) → p k ≡ true → q k ≡ false) → (E : List Entry) (x : String) → of_kind p E x ≡ true →
    of_kind q E x ≡ true → ⊥
two_kinds p q f [] x h g = let z : false ≡ true = h in absurd cc
two_kinds p q f (e ∷ E) x h g = two_here (eqt e.name x) (p e.kind) (q e.kind) _ _ (f e.kind) (two_kinds p q f E x) h g

-- no memory is a register
no_register : (k : Kind) → is_memory k ≡ true → register k ≡ false
no_register a_size h = refl
no_register a_constant h = refl
no_register an_input h = refl
no_register a_register h = absurd cc
no_register a_wire h = refl
no_register a_bit_input h = refl
no_register a_bit_register h = absurd cc
no_register a_bit_wire h = refl
no_register a_clock h = refl
no_register a_memory h = refl

module _ (E : List Entry) (ms : List String) where
  of_seq : (x : String) (c : Bool) (xs ys : List String) (k : Bool) → (member x xs ≡ true → k ≡ true) → (member x ys ≡ true → k ≡ true) →
      member x (chosen c (xs ++ ys) xs) ≡ true → k ≡ true
  of_seq x true xs ys k f g m = go (one_or (member x xs) (member x ys) (sym (member_append x xs ys) ∙ m))
    where
      go : (member x xs ≡ true) ⊎ (member x ys ≡ true) → k ≡ true
      go (inl m) = f m
      go (inr m) = g m
  of_seq x false xs ys k f g m = f m

  -- what is set first are registers
  pub sets_registers : (s : Stmt) → stmt_ok E ms s ≡ true → (x : String) → member x (sets_first s) ≡ true → of_kind register E x ≡ true
  sets_registers skip h x m = absurd cc
  sets_registers (put (whole y) e) h x m =
      let (a, b) = and_parts (of_kind register E y && member y ms) (expr_ok E e) h in
      subst (λ z. of_kind register E z ≡ true) (one_name y x (off_either (eqt y x) m)) (and_parts (of_kind register E y) (member y ms) a).0
  sets_registers (put (word_at y i) e) h x m = absurd cc
  sets_registers (seq s t) h x m =
      let (a, b) = and_parts (stmt_ok E ms s) (stmt_ok E ms t) h in
      of_seq x (straight s) (sets_first s) (sets_first t) (of_kind register E x) (sets_registers s a x) (sets_registers t b x) m
  sets_registers (branch e s t) h x m =
      let (a, b) = and_parts (expr_ok E e) (stmt_ok E ms s && stmt_ok E ms t) h in
      sets_registers s (and_parts (stmt_ok E ms s) (stmt_ok E ms t) b).0 x (common_left x (sets_first s) (sets_first t) m)
  sets_registers (cases e arms) h x m = absurd cc

  module _ (registers : (x : String) → member x ms ≡ true → of_kind register E x ≡ true) where
    mutual
      calm_of : (s : Stmt) → stmt_ok E ms s ≡ true → calm s ≡ true
      calm_of skip h = refl
      calm_of (put (whole y) e) h = refl
      calm_of (put (word_at m i) e) h =
          let (a, b) = and_parts (of_kind is_memory E m && (member m ms && expr_ok E i)) (expr_ok E e) h in
          let (c, d) = and_parts (of_kind is_memory E m) (member m ms && expr_ok E i) a in
          let (f, g) = and_parts (member m ms) (expr_ok E i) d in
          absurd (two_kinds is_memory register no_register E m c (registers m f))
      calm_of (seq s t) h =
          let (a, b) = and_parts (stmt_ok E ms s) (stmt_ok E ms t) h in and_from (calm s) (calm t) (calm_of s a) (calm_of t b)
      calm_of (branch e s t) h =
          let (a, b) = and_parts (expr_ok E e) (stmt_ok E ms s && stmt_ok E ms t) h in
          let (c, d) = and_parts (stmt_ok E ms s) (stmt_ok E ms t) b in
          and_from (calm s) (calm t) (calm_of s c) (calm_of t d)
      calm_of (cases e arms) h = arms_calm_of arms (and_parts (expr_ok E e) (arms_ok E ms arms) h).1

      arms_calm_of : (arms : Arms) → arms_ok E ms arms ≡ true → calm_arms arms ≡ true
      arms_calm_of (otherwise s) h = calm_of s h
      arms_calm_of (arm es s c arms) h =
          let (a, b) = and_parts (exprs_ok E es && (stmt_ok E ms s && said_ok c)) (arms_ok E ms arms) h in
          let (d, f) = and_parts (exprs_ok E es) (stmt_ok E ms s && said_ok c) a in
          and_from (calm s) (calm_arms arms) (calm_of s (and_parts (stmt_ok E ms s) (said_ok c) f).0) (arms_calm_of arms b)

  module _ (x : String) (o : outside ms x ≡ true) where
    other_than : (y : String) → member y ms ≡ true → not (eqt y x) ≡ true
    other_than y m = go (eqt y x) refl
      where
        go : (b : Bool) → eqt y x ≡ b → not b ≡ true
        go true e =
            let z : true ≡ false = sym m ∙ subst (λ z. member z ms ≡ false) (sym (one_name y x e)) (not-true (member x ms) o) in absurd cc
        go false e = refl

    mutual
      leaves_of : (s : Stmt) → stmt_ok E ms s ≡ true → leaves x s ≡ true
      leaves_of skip h = refl
      leaves_of (put (whole y) e) h =
          let (a, b) = and_parts (of_kind register E y && member y ms) (expr_ok E e) h in
          other_than y (and_parts (of_kind register E y) (member y ms) a).1
      leaves_of (put (word_at m i) e) h = refl
      leaves_of (seq s t) h =
          let (a, b) = and_parts (stmt_ok E ms s) (stmt_ok E ms t) h in
          and_from (leaves x s) (leaves x t) (leaves_of s a) (leaves_of t b)
      leaves_of (branch e s t) h =
          let (a, b) = and_parts (expr_ok E e) (stmt_ok E ms s && stmt_ok E ms t) h in
          let (c, d) = and_parts (stmt_ok E ms s) (stmt_ok E ms t) b in
          and_from (leaves x s) (leaves x t) (leaves_of s c) (leaves_of t d)
      leaves_of (cases e arms) h = arms_leave_of arms (and_parts (expr_ok E e) (arms_ok E ms arms) h).1

      arms_leave_of : (arms : Arms) → arms_ok E ms arms ≡ true → leaves_arms x arms ≡ true
      arms_leave_of (otherwise s) h = leaves_of s h
      arms_leave_of (arm es s c arms) h =
          let (a, b) = and_parts (exprs_ok E es && (stmt_ok E ms s && said_ok c)) (arms_ok E ms arms) h in
          let (d, f) = and_parts (exprs_ok E es) (stmt_ok E ms s && said_ok c) a in
          and_from (leaves x s) (leaves_arms x arms) (leaves_of s (and_parts (stmt_ok E ms s) (said_ok c) f).0) (arms_leave_of arms b)

block_of : (E : List Entry) (ds : List String) (s : Stmt) → item_ok E ds (settles s) ≡ true → Block s
block_of E ds s h =
    let (a, b) = and_parts (apart (sets_first s) ds && first_reads (sets_first s) s) (stmt_ok E (sets_first s) s) h in
    record {
      calm = calm_of E (sets_first s) (sets_registers E (sets_first s) s b) s b;
      first = (and_parts (apart (sets_first s) ds) (first_reads (sets_first s) s) a).1;
      mine = λ x o. leaves_of E (sets_first s) x o s b;
    }

-- the blocks of a module whose items are in order are such
pub blocks_of : (is : List Item) (E : List Entry) (ds : List String) → items_ok E ds is ≡ true → Blocks is
blocks_of [] E ds h = record {}
blocks_of (settles s ∷ is) E ds h =
    (block_of E ds s (head_ok E ds (settles s) is h), blocks_of is E (sets_first s ++ ds) (tail_ok E ds (settles s) is h))
blocks_of (i ∷ is) E ds h = blocks_of is (declared E i) (driven ds i) (tail_ok E ds i is h)

module _ (P : Scope) where
  -- what no item settles, all leave
  rest_leaves : (x : String) (is : List Item) → Blocks is → outside (settling is) x ≡ true → items_leave P x is ≡ true
  rest_leaves x [] b o = refl
  rest_leaves x (wire w y e ∷ is) b o =
      let (c, d) = or_parts (eqt y x) (member x (settling is)) (not-true _ o) in
      and_from (not (eqt y x)) (items_leave P x is) (ap not c) (rest_leaves x is b (ap not d))
  rest_leaves x (settles s ∷ is) (b, bs) o =
      let (c, d) = or_parts (member x (sets_first s)) (member x (settling is))
      (sym (member_append x (sets_first s) (settling is)) ∙ not-true _ o) in
      and_from (leaves x s) (items_leave P x is) (b.mine x (ap not c)) (rest_leaves x is bs (ap not d))
  rest_leaves x (i ∷ is) b o = rest_leaves x is b o

  all_calm : (is : List Item) → Blocks is → items_calm P is ≡ true
  all_calm [] b = refl
  all_calm (settles s ∷ is) (b, bs) = and_from (calm s) (items_calm P is) b.calm (all_calm is bs)
  all_calm (i ∷ is) b = all_calm is b

  -- what all below leave
  pub below : (is : List Item) → Blocks is → (S : Store) → Same (outside (settling is)) (settled P is S) S
  below is b S = record {
    vec = λ x o. settled_leaves P x is (rest_leaves x is b o) S;
    mem = settled_calm P is (all_calm is b) S;
    stray = settled_stray P is S;
  }

  set_as_it_is : (x : String) (n : ℕ) (S : Store) → S.vec x ≡ n → set_vec x n S ≡ S
  set_as_it_is x n S e = λ i. record { vec = λ y. go y (eqt x y) refl i; mem = S.mem; stray = S.stray }
    where
      go : (y : String) (b : Bool) → eqt x y ≡ b → chosen b n (S.vec y) ≡ S.vec y
      go y true q = sym e ∙ ap S.vec (one_name x y q)
      go y false q = refl

  -- a wire is its expression where all below it has settled
  wire_rests : (x : String) (e : Expr) (is : List Item) → Blocks is → reads (outside (x ∷ settling is)) e ≡ true →
      outside (settling is) x ≡ true → (S : Store) →
      (settled P is (write P S (whole x) e S)).vec x ≡ assigned P (settled P is (write P S (whole x) e S)) (P.width x) e
  wire_rests x e is b r o S =
      let U = write P S (whole x) e S in
      let h = below is b U in
      h.vec x o ∙ (set_here x (assigned P S (P.width x) e) S ∙
      sym (assigned_same P (outside (x ∷ settling is)) (settled P is U) S (alike h) (P.width x) e r))
    where
      alike : Same (outside (settling is)) (settled P is (write P S (whole x) e S)) (write P S (whole x) e S) →
          Same (outside (x ∷ settling is)) (settled P is (write P S (whole x) e S)) S
      alike h = record {
        vec = λ y q.
            let (c, d) = or_parts (eqt x y) (member y (settling is)) (not-true _ q) in
            h.vec y (ap not d) ∙ ap (λ b. chosen b (assigned P S (P.width x) e) (S.vec y)) c;
        mem = h.mem;
        stray = h.stray;
      }

  -- a block that was run changes nothing
  twice : (s : Stmt) → Block s → (S : Store) → run P s (run P s S) ≡ run P s S
  twice s b S =
      first_same P (sets_first s) s b.calm b.first (outside (sets_first s)) (λ x o. o) (λ x. either_or (member x (sets_first s)))
      (run P s S) S record { vec = λ x o. run_leaves P x s (b.mine x o) S; mem = run_calm P s b.calm S; stray = run_stray P s S }

  -- nor does it where all below it has settled
  block_rests : (s : Stmt) (is : List Item) → Block s → Blocks is → block_reads (outside (settling is)) s ≡ true →
      ((x : String) → member x (settling is) ≡ true → outside (sets_first s) x ≡ true) → (S : Store) →
      run P s (settled P is (run P s S)) ≡ settled P is (run P s S)
  block_rests s is b bs r a S =
      let h = below is bs (run P s S) in
      let k = run_same P (outside (settling is)) s r b.calm (settled P is (run P s S)) (run P s S) h in
      let z = twice s b S in
      total P (λ x. true) (λ x. refl) _ _ record {
        vec = λ x q. go h.vec k.vec z x (member x (settling is)) refl;
        mem = run_calm P s b.calm (settled P is (run P s S));
        stray = run_stray P s (settled P is (run P s S));
      }
    where
      go : ((x : String) → outside (settling is) x ≡ true → (settled P is (run P s S)).vec x ≡ (run P s S).vec x) →
          ((x : String) → outside (settling is) x ≡ true → (run P s (settled P is (run P s S))).vec x ≡ (run P s (run P s S)).vec x) →
          run P s (run P s S) ≡ run P s S → (x : String) (c : Bool) → member x (settling is) ≡ c →
          (run P s (settled P is (run P s S))).vec x ≡ (settled P is (run P s S)).vec x
      go h k z x true m = run_leaves P x s (b.mine x (a x m)) (settled P is (run P s S))
      go h k z x false m = k x (ap not m) ∙ (ap (λ (Q : Store). Q.vec x) z ∙ sym (h x (ap not m)))

  rests : (is : List Item) → Blocks is → in_order is ≡ true → (S : Store) → Rests P is (settled P is S)
  rests [] b o S = record {}
  rests (wire w x e ∷ is) b o S =
      let (c, d) = and_parts (reads (outside (x ∷ settling is)) e && outside (settling is) x) (in_order is) o in
      let (f, g) = and_parts (reads (outside (x ∷ settling is)) e) (outside (settling is) x) c in
      (wire_rests x e is b f g S, rests is b d (write P S (whole x) e S))
  rests (settles s ∷ is) (b, bs) o S =
      let (c, d) = and_parts (block_reads (outside (settling is)) s && not (block_reads (λ x. member x (sets_first s)) s))
      (apart (sets_first s) (settling is) && in_order is) o in
      let (f, g) = and_parts (block_reads (outside (settling is)) s) (not (block_reads (λ x. member x (sets_first s)) s)) c in
      let (k, l) = and_parts (apart (sets_first s) (settling is)) (in_order is) d in
      (block_rests s is b bs f (λ x m. apart_from x (sets_first s) (settling is) k m) S, rests is bs l (run P s S))
  rests (i ∷ is) b o S = rests is b o S

  -- where all is at rest, to settle changes nothing
  at_rest : (is : List Item) (S : Store) → Rests P is S → settled P is S ≡ S
  at_rest [] S r = refl
  at_rest (wire w x e ∷ is) S (a, r) =
      ap (settled P is) (set_as_it_is x (assigned P S (P.width x) e) S a) ∙ at_rest is S r
  at_rest (settles s ∷ is) S (a, r) = ap (settled P is) a ∙ at_rest is S r
  at_rest (i ∷ is) S r = at_rest is S r

pub settles_once : SettlesOnce
settles_once is h S =
    let (a, b) = and_parts (ports_first is && items_ok [] [] is) (in_order is && items_fit (limits is) is) h in
    rests (scope is) is (blocks_of is [] [] (items_of is h)) (and_parts (in_order is) (items_fit (limits is) is) b).0 S

pub settled_stays : SettledStays
settled_stays is h S = at_rest (scope is) is (settled (scope is) is S) (settles_once is h S)
