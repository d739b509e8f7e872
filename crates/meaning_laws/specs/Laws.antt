-- What holds of the equations, and of terms without `fix`. A program is a closed term of type `nat`.
use Rattle.std.specs.Prelude.{◌≡◌, ◌↔◌, ℕ, List, []}
use Rattle.pcf_values.specs.declared.val.Val.{Val}
use Rattle.pcf_values.specs.Terms.{TyTree, nat, TermTree}
use Rattle.pcf_values.specs.Typing.{HasType}
use Rattle.cbn_meaning.specs.Substitution.{subst_at}
use Rattle.cbn_meaning.specs.Environments.{Closed}
use Rattle.cbn_meaning.specs.Meaning.{Means}
use Rattle.net_build.specs.NetOf.{net_of}
use Rattle.adequacy_laws.specs.Questions.{Length}
use Rattle.adequacy_laws.specs.Adequacy.{OfEveryProgram}
use Rattle.meaning_laws.specs.Put.{put}
use Rattle.meaning_laws.specs.Contexts.{Context, fill}
use Rattle.meaning_laws.specs.Equations.{Equals, Rewrites}
use Rattle.meaning_laws.specs.NoFix.{NoFix}

-- a closed term that is put is what the meaning puts
abbrev pub ClosedPut : Type 0
ClosedPut = (m n : TermTree) (k : ℕ) → Closed n → put m k n ≡ subst_at m k n

-- a term with a type where no variable has one is closed
abbrev pub TypedClosed : Type 0
TypedClosed = (m : TermTree) (t : TyTree) → HasType [] m t → Closed m

-- where the left side of an equation stands in a closed term, of any type or of none, the right side gives the same values
abbrev pub InEveryContext : Type 0
InEveryContext = (l r : TermTree) → Equals l r → (c : Context) → Closed (fill c l) →
    (v : Val) → Means (fill c l) v ↔ Means (fill c r) v

-- and the same type, where types are given to the free variables
abbrev pub KeepTypes : Type 0
KeepTypes = (l r : TermTree) → Equals l r → (c : Context) (g : List TyTree) (t : TyTree) → HasType g (fill c l) t →
    HasType g (fill c r) t

-- both programs mean the same values, and both nets have the same
pub record SamePrograms (m n : TermTree) : Type 0 where
  pub typed : HasType [] n nat
  pub means : (v : Val) → Means m v ↔ Means n v
  pub nets : (v : Val) → ((k : ℕ) × Length (net_of m) v k) ↔ ((k : ℕ) × Length (net_of n) v k)

-- so it is after one equation
abbrev pub KeepPrograms : Type 0
KeepPrograms = (l r : TermTree) → Equals l r → (c : Context) → HasType [] (fill c l) nat → SamePrograms (fill c l) (fill c r)

-- and after any number of them
abbrev pub RewritesKeep : Type 0
RewritesKeep = (m n : TermTree) → Rewrites m n → HasType [] m nat → SamePrograms m n

-- a program without `fix` means a value
abbrev pub NoFixValue : Type 0
NoFixValue = OfEveryProgram (λ m. NoFix m → (v : Val) × Means m v)

-- and its net has it, and a length
abbrev pub NoFixLength : Type 0
NoFixLength = OfEveryProgram (λ m. NoFix m → (v : Val) × (n : ℕ) × Means m v × Length (net_of m) v n)
