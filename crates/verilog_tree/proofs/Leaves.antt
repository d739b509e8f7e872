-- What a statement of the clock without cases doesn't assign to, it leaves as it was.
use Rattle.std.proofs.Common.{◌≡◌, ℕ, Bool, true, false, not, ◌&&◌, refl, ◌∙◌}
use Rattle.std.proofs.lemmas.Bool.{and_parts}
use Prim.Native.String.{String}
use lib.Text.{eqt}
use Rattle.verilog_tree.specs.Tree.{Expr, Target, whole, word_at, Stmt, skip, put, seq, branch, cases}
use Rattle.verilog_tree.specs.Meaning.{Scope, Store, chosen, holds, write, fire}
use Rattle.verilog_tree.proofs.Frames.{either_store}
use Rattle.verilog_tree.proofs.Frames.{other_name}

abbrev misses : String → Target → Bool
misses x (whole y) = not (eqt y x)
misses x (word_at m i) = true

-- x isn't assigned to
abbrev pub spares : String → Stmt → Bool
spares x skip = true
spares x (put t e) = misses x t
spares x (seq s t) = spares x s && spares x t
spares x (branch e s t) = spares x s && spares x t
spares x (cases e arms) = false

module _ (P : Scope) (R : Store) (x : String) where
  write_spares : (t : Target) (e : Expr) (S : Store) → misses x t ≡ true → (write P R t e S).vec x ≡ S.vec x
  write_spares (whole y) e S h = other_name (eqt y x) _ (S.vec x) h
  write_spares (word_at m i) e S h = refl

  pub fire_spares : (s : Stmt) → spares x s ≡ true → (S : Store) → (fire P R s S).vec x ≡ S.vec x
  fire_spares skip h S = refl
  fire_spares (put t e) h S = write_spares t e S h
  fire_spares (seq s t) h S =
      let (a, b) = and_parts (spares x s) (spares x t) h in fire_spares t b (fire P R s S) ∙ fire_spares s a S
  fire_spares (branch e s t) h S =
      let (a, b) = and_parts (spares x s) (spares x t) h in
      either_store (holds P R e) (fire P R s S) (fire P R t S) x (S.vec x) (fire_spares s a S) (fire_spares t b S)
  fire_spares (cases e arms) h S = absurd cc
