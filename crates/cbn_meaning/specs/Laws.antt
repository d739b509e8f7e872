-- The laws of the meaning, over every term.
use Rattle.std.specs.Prelude.{◌≡◌, ◌↔◌, ℕ, suc, List, [], ◌∷◌, Some}
use Rattle.pcf_values.specs.declared.val.Val.{Val}
use Rattle.pcf_values.specs.declared.val.Val.TheVariants.{Number, Overflow}
use Rattle.pcf_values.specs.Terms.{TyTree, nat, TermTree, num, lam, pair}
use Rattle.pcf_values.specs.Typing.{HasType}
use Rattle.cbn_meaning.specs.Substitution.{subst_at}
use Rattle.cbn_meaning.specs.Meaning.{Res, value, closure, paired, eval, Means}
use Rattle.cbn_meaning.specs.HeadSteps.{Head}
use Rattle.cbn_meaning.specs.Derivations.{Ev, HasEv, Steps}

-- more depth keeps a result
abbrev pub MoreDepth : Type 0
MoreDepth = (d : ℕ) (m : TermTree) (r : Res) → eval d m ≡ Some r → eval (suc d) m ≡ Some r

-- a term has one value at most
abbrev pub OneValue : Type 0
OneValue = (m : TermTree) (v w : Val) → Means m v → Means m w → v ≡ w

-- a term means what it means after a step at its head
abbrev pub HeadStep : Type 0
HeadStep = (m n : TermTree) → Head m n → (v : Val) → Means m v ↔ Means n v

-- a derivation of so many rules is an evaluation of that depth
abbrev pub DerivedEvaluates : Type 0
DerivedEvaluates = (s : ℕ) (m : TermTree) (r : Res) → Ev s m r → eval s m ≡ Some r

-- and what evaluates at some depth has a derivation
abbrev pub EvaluatesDerived : Type 0
EvaluatesDerived = (d : ℕ) (m : TermTree) (r : Res) → eval d m ≡ Some r → HasEv m r

-- a term has one derivation's size and one result at most
abbrev pub OneDerivation : Type 0
OneDerivation = (s z : ℕ) (m : TermTree) (r q : Res) → Ev s m r → Ev z m q → (s ≡ z) × (r ≡ q)

-- a step at the head keeps all results, and each has a smaller derivation afterwards
abbrev pub HeadStepDerived : Type 0
HeadStepDerived = (m n : TermTree) → Head m n → Steps m n

-- the closed result has the type; a number is one below 2 ^ 64
abbrev pub ResultHasType : Res → TyTree → Type 0
ResultHasType (value (Number n)) t = HasType [] (num n) t
ResultHasType (value Overflow) t = t ≡ nat
ResultHasType (closure a m) t = HasType [] (lam a m) t
ResultHasType (paired m n) t = HasType [] (pair m n) t

-- what a closed term comes to has the type that the term has
abbrev pub ResultKeepsType : Type 0
ResultKeepsType = (d : ℕ) (m : TermTree) (t : TyTree) (r : Res) → HasType [] m t → eval d m ≡ Some r → ResultHasType r t

-- a step at the head of a closed term keeps its type
abbrev pub HeadStepKeepsType : Type 0
HeadStepKeepsType = (m n : TermTree) (t : TyTree) → HasType [] m t → Head m n → HasType [] n t

-- a closed term put for the nearest binder's variable keeps the type
abbrev pub SubstKeepsType : Type 0
SubstKeepsType = (g : List TyTree) (m n : TermTree) (a t : TyTree) → HasType (a ∷ g) m t → HasType [] n a →
    HasType g (subst_at m 0 n) t
