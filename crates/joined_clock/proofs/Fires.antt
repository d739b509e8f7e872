-- What a statement of the clock writes of one name, or of one memory, is told by what that name had before alone; and of statements one
-- after the other of which one alone assigns to it, by that one.
use Rattle.std.proofs.Common.{◌≡◌, ℕ, zero, suc, Bool, true, false, not, ◌&&◌, List, [], ◌∷◌, refl, ap, ◌∙◌}
use Rattle.std.proofs.lemmas.Bool.{and_parts, and_from, not-true}
use Rattle.std.specs.Prelude.{nat_eq, nat_lt}
use Prim.Native.String.{String}
use lib.Text.{eqt}
use Rattle.verilog_tree.specs.Tree.{Target, whole, word_at, Stmt, skip, put, seq, branch, cases, Arms, otherwise, arm}
use Rattle.verilog_tree.specs.Meaning.{Scope, Store, chosen, holds, bits, value, own, assigned, widest_arm, labelled, fire, fire_arms}
use Rattle.circuit_module.specs.Fixed.{block}
use Rattle.verilog_tree.proofs.Leaves.{spares, fire_spares}

-- ---- a vector

both_ways : (b : Bool) (S T U V : Store) (x : String) → S.vec x ≡ U.vec x → T.vec x ≡ V.vec x → (chosen b S T).vec x ≡ (chosen b U V).vec x
both_ways true S T U V x e g = e
both_ways false S T U V x e g = g

both_mems : (b : Bool) (S T U V : Store) (m : String) → S.mem m ≡ U.mem m → T.mem m ≡ V.mem m → (chosen b S T).mem m ≡ (chosen b U V).mem m
both_mems true S T U V m e g = e
both_mems false S T U V m e g = g

either_mem : (b : Bool) (S T : Store) (m : String) (n : ℕ → ℕ) → S.mem m ≡ n → T.mem m ≡ n → (chosen b S T).mem m ≡ n
either_mem true S T m n e g = e
either_mem false S T m n e g = g

-- no word of this memory is assigned to
abbrev pub other_memory : String → Target → Bool
other_memory m (whole y) = true
other_memory m (word_at k i) = not (eqt k m)

abbrev pub keeps_memory : String → Stmt → Bool
keeps_memory m skip = true
keeps_memory m (put t e) = other_memory m t
keeps_memory m (seq s t) = keeps_memory m s && keeps_memory m t
keeps_memory m (branch e s t) = keeps_memory m s && keeps_memory m t
keeps_memory m (cases e arms) = false

-- ---- one statement of some

-- the one at a place
abbrev pub stmt_at : List Stmt → ℕ → Stmt
stmt_at [] k = skip
stmt_at (s ∷ ss) zero = s
stmt_at (s ∷ ss) (suc k) = stmt_at ss k

-- all of these are the case, and all but one
abbrev pub all_true : List Bool → Bool
all_true [] = true
all_true (c ∷ cs) = c && all_true cs

abbrev pub but : List Bool → ℕ → Bool
but [] k = true
but (c ∷ cs) zero = all_true cs
but (c ∷ cs) (suc k) = c && but cs k

-- of each of these statements it holds where that is the case
abbrev pub Gives : (Stmt → Bool) → List Stmt → List Bool → Type 0
Gives p [] cs = Unit {0}
Gives p (s ∷ ss) [] = false ≡ true
Gives p (s ∷ ss) (c ∷ cs) = (c ≡ true → p s ≡ true) × Gives p ss cs

module _ (P : Scope) (R : Store) where
  mutual
    pub fire_same : (x : String) (s : Stmt) (S T : Store) → S.vec x ≡ T.vec x → (fire P R s S).vec x ≡ (fire P R s T).vec x
    fire_same x skip S T h = h
    fire_same x (put (whole y) e) S T h = ap (λ n. chosen (eqt y x) (assigned P R (P.width y) e) n) h
    fire_same x (put (word_at m i) e) S T h = h
    fire_same x (seq s t) S T h = fire_same x t (fire P R s S) (fire P R s T) (fire_same x s S T h)
    fire_same x (branch e s t) S T h =
        both_ways (holds P R e) (fire P R s S) (fire P R t S) (fire P R s T) (fire P R t T) x (fire_same x s S T h) (fire_same x t S T h)
    fire_same x (cases e arms) S T h =
        arms_same x (widest_arm P (bits P e) arms) (value P R (widest_arm P (bits P e) arms) e) arms S T h

    arms_same : (x : String) (w n : ℕ) (arms : Arms) (S T : Store) → S.vec x ≡ T.vec x →
        (fire_arms P R w n arms S).vec x ≡ (fire_arms P R w n arms T).vec x
    arms_same x w n (otherwise s) S T h = fire_same x s S T h
    arms_same x w n (arm es s c arms) S T h =
        both_ways (labelled P R w n es) (fire P R s S) (fire_arms P R w n arms S) (fire P R s T) (fire_arms P R w n arms T) x
        (fire_same x s S T h) (arms_same x w n arms S T h)

  mutual
    pub memory_same : (m : String) (s : Stmt) (S T : Store) → S.mem m ≡ T.mem m → (fire P R s S).mem m ≡ (fire P R s T).mem m
    memory_same m skip S T h = h
    memory_same m (put (whole y) e) S T h = h
    memory_same m (put (word_at k i) e) S T h = λ p. λ j.
        chosen (eqt k m && (nat_eq (own P R i) j && nat_lt (own P R i) (P.words k))) (assigned P R (P.width k) e) (h p j)
    memory_same m (seq s t) S T h = memory_same m t (fire P R s S) (fire P R s T) (memory_same m s S T h)
    memory_same m (branch e s t) S T h =
        both_mems (holds P R e) (fire P R s S) (fire P R t S) (fire P R s T) (fire P R t T) m (memory_same m s S T h)
        (memory_same m t S T h)
    memory_same m (cases e arms) S T h =
        arms_memory m (widest_arm P (bits P e) arms) (value P R (widest_arm P (bits P e) arms) e) arms S T h

    arms_memory : (m : String) (w n : ℕ) (arms : Arms) (S T : Store) → S.mem m ≡ T.mem m →
        (fire_arms P R w n arms S).mem m ≡ (fire_arms P R w n arms T).mem m
    arms_memory m w n (otherwise s) S T h = memory_same m s S T h
    arms_memory m w n (arm es s c arms) S T h =
        both_mems (labelled P R w n es) (fire P R s S) (fire_arms P R w n arms S) (fire P R s T) (fire_arms P R w n arms T) m
        (memory_same m s S T h) (arms_memory m w n arms S T h)

  pub memory_kept : (m : String) (s : Stmt) → keeps_memory m s ≡ true → (S : Store) → (fire P R s S).mem m ≡ S.mem m
  memory_kept m skip h S = refl
  memory_kept m (put (whole y) e) h S = refl
  memory_kept m (put (word_at k i) e) h S = λ p. λ j.
      chosen (not-true (eqt k m) h p && (nat_eq (own P R i) j && nat_lt (own P R i) (P.words k))) (assigned P R (P.width k) e) (S.mem m j)
  memory_kept m (seq s t) h S =
      let (a, b) = and_parts (keeps_memory m s) (keeps_memory m t) h in memory_kept m t b (fire P R s S) ∙ memory_kept m s a S
  memory_kept m (branch e s t) h S =
      let (a, b) = and_parts (keeps_memory m s) (keeps_memory m t) h in
      either_mem (holds P R e) (fire P R s S) (fire P R t S) m (S.mem m) (memory_kept m s a S) (memory_kept m t b S)
  memory_kept m (cases e arms) h S = absurd cc

  -- ---- one after the other

  abbrev pub fires : List Stmt → Store → Store
  fires [] S = S
  fires (s ∷ ss) S = fires ss (fire P R s S)

  abbrev pub all_spare : String → List Stmt → Bool
  all_spare x [] = true
  all_spare x (s ∷ ss) = spares x s && all_spare x ss

  abbrev pub all_keep : String → List Stmt → Bool
  all_keep m [] = true
  all_keep m (s ∷ ss) = keeps_memory m s && all_keep m ss

  pub fires_kept : (x : String) (ss : List Stmt) → all_spare x ss ≡ true → (S : Store) → (fires ss S).vec x ≡ S.vec x
  fires_kept x [] h S = refl
  fires_kept x (s ∷ ss) h S =
      let (a, b) = and_parts (spares x s) (all_spare x ss) h in fires_kept x ss b (fire P R s S) ∙ fire_spares P R x s a S

  -- what each of these keeps, where that is the case, and what all but one keep
  pub all_given : (x : String) (ss : List Stmt) (cs : List Bool) → Gives (spares x) ss cs → all_true cs ≡ true → (S : Store) →
      (fires ss S).vec x ≡ S.vec x
  all_given x [] cs g h S = refl
  all_given x (s ∷ ss) [] g h S = absurd cc
  all_given x (s ∷ ss) (c ∷ cs) g h S =
      let (a, b) = and_parts c (all_true cs) h in all_given x ss cs g.1 b (fire P R s S) ∙ fire_spares P R x s (g.0 a) S

  pub one_given : (x : String) (ss : List Stmt) (cs : List Bool) → Gives (spares x) ss cs → (k : ℕ) → but cs k ≡ true → (S T : Store) →
      S.vec x ≡ T.vec x → (fires ss S).vec x ≡ (fire P R (stmt_at ss k) T).vec x
  one_given x [] cs g k h S T e = e
  one_given x (s ∷ ss) [] g k h S T e = absurd cc
  one_given x (s ∷ ss) (c ∷ cs) g zero h S T e = all_given x ss cs g.1 h (fire P R s S) ∙ fire_same x s S T e
  one_given x (s ∷ ss) (c ∷ cs) g (suc k) h S T e =
      let (a, b) = and_parts c (but cs k) h in one_given x ss cs g.1 k b (fire P R s S) T (fire_spares P R x s (g.0 a) S ∙ e)

  all_memory : (m : String) (ss : List Stmt) (cs : List Bool) → Gives (keeps_memory m) ss cs → all_true cs ≡ true → (S : Store) →
      (fires ss S).mem m ≡ S.mem m
  all_memory m [] cs g h S = refl
  all_memory m (s ∷ ss) [] g h S = absurd cc
  all_memory m (s ∷ ss) (c ∷ cs) g h S =
      let (a, b) = and_parts c (all_true cs) h in all_memory m ss cs g.1 b (fire P R s S) ∙ memory_kept m s (g.0 a) S

  pub one_memory : (m : String) (ss : List Stmt) (cs : List Bool) → Gives (keeps_memory m) ss cs → (k : ℕ) → but cs k ≡ true →
      (S T : Store) → S.mem m ≡ T.mem m → (fires ss S).mem m ≡ (fire P R (stmt_at ss k) T).mem m
  one_memory m [] cs g k h S T e = e
  one_memory m (s ∷ ss) [] g k h S T e = absurd cc
  one_memory m (s ∷ ss) (c ∷ cs) g zero h S T e = all_memory m ss cs g.1 h (fire P R s S) ∙ memory_same m s S T e
  one_memory m (s ∷ ss) (c ∷ cs) g (suc k) h S T e =
      let (a, b) = and_parts c (but cs k) h in one_memory m ss cs g.1 k b (fire P R s S) T (memory_kept m s (g.0 a) S ∙ e)

-- a block of statements that spare a name
pub block_spares : (P : Scope) (R : Store) (x : String) (ss : List Stmt) → all_spare P R x ss ≡ true → spares x (block ss) ≡ true
block_spares P R x [] h = refl
block_spares P R x (s ∷ []) h = (and_parts (spares x s) true h).0
block_spares P R x (s ∷ t ∷ ss) h =
    let (a, b) = and_parts (spares x s) (all_spare P R x (t ∷ ss)) h in and_from (spares x s) (spares x (block (t ∷ ss))) a
    (block_spares P R x (t ∷ ss) b)

pub block_keeps : (P : Scope) (R : Store) (m : String) (ss : List Stmt) → all_keep P R m ss ≡ true → keeps_memory m (block ss) ≡ true
block_keeps P R m [] h = refl
block_keeps P R m (s ∷ []) h = (and_parts (keeps_memory m s) true h).0
block_keeps P R m (s ∷ t ∷ ss) h =
    let (a, b) = and_parts (keeps_memory m s) (all_keep P R m (t ∷ ss)) h in
    and_from (keeps_memory m s) (keeps_memory m (block (t ∷ ss))) a (block_keeps P R m (t ∷ ss) b)

-- a block is its statements one after the other
pub block_fires : (P : Scope) (R : Store) (ss : List Stmt) (S : Store) → fire P R (block ss) S ≡ fires P R ss S
block_fires P R [] S = refl
block_fires P R (s ∷ []) S = refl
block_fires P R (s ∷ t ∷ ss) S = block_fires P R (t ∷ ss) (fire P R s S)
