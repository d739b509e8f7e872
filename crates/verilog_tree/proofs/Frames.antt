-- What a statement doesn't assign to, it leaves as it was.
use Rattle.std.proofs.Common.{◌≡◌, ℕ, Bool, true, false, not, ◌&&◌, List, [], ◌∷◌, refl, ◌∙◌}
use Rattle.std.proofs.lemmas.Bool.{and_parts}
use Prim.Native.String.{String}
use lib.Text.{eqt}
use Rattle.verilog_tree.specs.Tree.{Expr, Target, whole, word_at, Stmt, skip, put, seq, branch, cases, Arms, otherwise, arm}
use Rattle.verilog_tree.specs.Tree.{Item, wire, settles}
use Rattle.verilog_tree.specs.Meaning.{Scope, Store, chosen, holds, bits, value, widest_arm, labelled, write}
use Rattle.verilog_tree.specs.Meaning.{run, run_arms, settled}

abbrev not_target : String → Target → Bool
not_target x (whole y) = not (eqt y x)
not_target x (word_at m i) = true

abbrev no_word : Target → Bool
no_word (whole y) = true
no_word (word_at m i) = false

-- x isn't assigned to
abbrev mutual
  pub leaves : String → Stmt → Bool
  leaves x skip = true
  leaves x (put t e) = not_target x t
  leaves x (seq s t) = leaves x s && leaves x t
  leaves x (branch e s t) = leaves x s && leaves x t
  leaves x (cases e arms) = leaves_arms x arms

  pub leaves_arms : String → Arms → Bool
  leaves_arms x (otherwise s) = leaves x s
  leaves_arms x (arm es s c arms) = leaves x s && leaves_arms x arms

-- no memory is assigned to
abbrev mutual
  pub calm : Stmt → Bool
  calm skip = true
  calm (put t e) = no_word t
  calm (seq s t) = calm s && calm t
  calm (branch e s t) = calm s && calm t
  calm (cases e arms) = calm_arms arms

  pub calm_arms : Arms → Bool
  calm_arms (otherwise s) = calm s
  calm_arms (arm es s c arms) = calm s && calm_arms arms

pub other_name : (b : Bool) (n m : ℕ) → not b ≡ true → chosen b n m ≡ m
other_name true n m h = absurd cc
other_name false n m h = refl

either_way : {A : Type 0} (b : Bool) (x y z : A) → x ≡ z → y ≡ z → chosen b x y ≡ z
either_way true x y z e g = e
either_way false x y z e g = g

pub either_store : (b : Bool) (S T : Store) (x : String) (n : ℕ) → S.vec x ≡ n → T.vec x ≡ n → (chosen b S T).vec x ≡ n
either_store true S T x n e g = e
either_store false S T x n e g = g

either_mem : (b : Bool) (S T : Store) (m : String → ℕ → ℕ) → S.mem ≡ m → T.mem ≡ m → (chosen b S T).mem ≡ m
either_mem true S T m e g = e
either_mem false S T m e g = g

module _ (P : Scope) where
  write_leaves : (x : String) (R : Store) (t : Target) (e : Expr) (S : Store) → not_target x t ≡ true → (write P R t e S).vec x ≡ S.vec x
  write_leaves x R (whole y) e S h = other_name (eqt y x) _ (S.vec x) h
  write_leaves x R (word_at m i) e S h = refl

  write_calm : (R : Store) (t : Target) (e : Expr) (S : Store) → no_word t ≡ true → (write P R t e S).mem ≡ S.mem
  write_calm R (whole y) e S h = refl
  write_calm R (word_at m i) e S h = absurd cc

  mutual
    pub run_leaves : (x : String) (s : Stmt) → leaves x s ≡ true → (S : Store) → (run P s S).vec x ≡ S.vec x
    run_leaves x skip h S = refl
    run_leaves x (put t e) h S = write_leaves x S t e S h
    run_leaves x (seq s t) h S =
        let (a, b) = and_parts (leaves x s) (leaves x t) h in run_leaves x t b (run P s S) ∙ run_leaves x s a S
    run_leaves x (branch e s t) h S =
        let (a, b) = and_parts (leaves x s) (leaves x t) h in
        either_store (holds P S e) (run P s S) (run P t S) x (S.vec x) (run_leaves x s a S) (run_leaves x t b S)
    run_leaves x (cases e arms) h S =
        arms_leave x arms h (widest_arm P (bits P e) arms) (value P S (widest_arm P (bits P e) arms) e) S

    pub arms_leave : (x : String) (arms : Arms) → leaves_arms x arms ≡ true → (w n : ℕ) (S : Store) →
        (run_arms P w n arms S).vec x ≡ S.vec x
    arms_leave x (otherwise s) h w n S = run_leaves x s h S
    arms_leave x (arm es s c arms) h w n S =
        let (a, b) = and_parts (leaves x s) (leaves_arms x arms) h in
        either_store (labelled P S w n es) (run P s S) (run_arms P w n arms S) x (S.vec x) (run_leaves x s a S) (arms_leave x arms b w n S)

  mutual
    pub run_calm : (s : Stmt) → calm s ≡ true → (S : Store) → (run P s S).mem ≡ S.mem
    run_calm skip h S = refl
    run_calm (put t e) h S = write_calm S t e S h
    run_calm (seq s t) h S = let (a, b) = and_parts (calm s) (calm t) h in run_calm t b (run P s S) ∙ run_calm s a S
    run_calm (branch e s t) h S =
        let (a, b) = and_parts (calm s) (calm t) h in
        either_mem (holds P S e) (run P s S) (run P t S) S.mem (run_calm s a S) (run_calm t b S)
    run_calm (cases e arms) h S = arms_calm arms h (widest_arm P (bits P e) arms) (value P S (widest_arm P (bits P e) arms) e) S

    pub arms_calm : (arms : Arms) → calm_arms arms ≡ true → (w n : ℕ) (S : Store) → (run_arms P w n arms S).mem ≡ S.mem
    arms_calm (otherwise s) h w n S = run_calm s h S
    arms_calm (arm es s c arms) h w n S =
        let (a, b) = and_parts (calm s) (calm_arms arms) h in
        either_mem (labelled P S w n es) (run P s S) (run_arms P w n arms S) S.mem (run_calm s a S) (arms_calm arms b w n S)

  -- items
  abbrev pub items_leave : String → List Item → Bool
  items_leave x [] = true
  items_leave x (wire w y e ∷ is) = not (eqt y x) && items_leave x is
  items_leave x (settles s ∷ is) = leaves x s && items_leave x is
  items_leave x (i ∷ is) = items_leave x is

  abbrev pub items_calm : List Item → Bool
  items_calm [] = true
  items_calm (settles s ∷ is) = calm s && items_calm is
  items_calm (i ∷ is) = items_calm is

  pub settled_leaves : (x : String) (is : List Item) → items_leave x is ≡ true → (S : Store) → (settled P is S).vec x ≡ S.vec x
  settled_leaves x [] h S = refl
  settled_leaves x (wire w y e ∷ is) h S =
      let (a, b) = and_parts (not (eqt y x)) (items_leave x is) h in
      settled_leaves x is b (write P S (whole y) e S) ∙ write_leaves x S (whole y) e S a
  settled_leaves x (settles s ∷ is) h S =
      let (a, b) = and_parts (leaves x s) (items_leave x is) h in settled_leaves x is b (run P s S) ∙ run_leaves x s a S
  settled_leaves x (i ∷ is) h S = settled_leaves x is h S

  pub settled_calm : (is : List Item) → items_calm is ≡ true → (S : Store) → (settled P is S).mem ≡ S.mem
  settled_calm [] h S = refl
  settled_calm (wire w y e ∷ is) h S = settled_calm is h (write P S (whole y) e S)
  settled_calm (settles s ∷ is) h S =
      let (a, b) = and_parts (calm s) (items_calm is) h in settled_calm is b (run P s S) ∙ run_calm s a S
  settled_calm (i ∷ is) h S = settled_calm is h S
