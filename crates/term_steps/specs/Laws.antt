-- What the steps are worth: statements over every term, each the contract of a function.
use Rattle.std.specs.Prelude.{◌≡◌, ◌↔◌, ◌⊎◌, ℕ, [], Some, None, is_some, Option, List, ◌++◌}
use Rattle.pcf_values.specs.declared.val.Val.{Val}
use Rattle.pcf_values.specs.Terms.{TyTree, nat, TermTree}
use Rattle.pcf_values.specs.Typing.{HasType}
use Rattle.cbn_meaning.specs.Meaning.{Means}
use Rattle.cbn_meaning.specs.HeadSteps.{Head}
use Rattle.pcf_values.specs.Named.{NamedTree}
use Rattle.pcf_types.specs.Resolution.{Resolves}
use Rattle.term_steps.specs.Steps.{spelled, spell, step, steps, Ends}
use Rattle.term_steps.specs.Rules.{Reduces}
use Rattle.pcf_reader.specs.Printed.{term_text}
use Rattle.term_steps.specs.Redex.{redex}
use Rattle.term_steps.specs.Names.{named_spelled, named_step}

-- a step keeps the values that the term means
abbrev pub StepKeepsMeaning : Type 0
StepKeepsMeaning = (m n : TermTree) → step m ≡ Some n → (v : Val) → Means m v ↔ Means n v

-- a step of a closed term keeps its type
abbrev pub StepKeepsType : Type 0
StepKeepsType = (m n : TermTree) (t : TyTree) → HasType [] m t → step m ≡ Some n → HasType [] n t

-- a step at the head of a term is its step
abbrev pub HeadIsStep : Type 0
HeadIsStep = (m n : TermTree) → Head m n → step m ≡ Some n

-- a term means a value exactly when its steps end at a term that spells it
abbrev pub EndsAtValue : Type 0
EndsAtValue = (m : TermTree) (v : Val) → Means m v ↔ Ends m v

-- a closed term of type nat spells a value or has a step
abbrev pub TypedMoves : Type 0
TypedMoves = (m : TermTree) → HasType [] m nat → ((v : Val) × (spelled m ≡ Some v)) ⊎ ((n : TermTree) × (step m ≡ Some n))

-- a closed term of type nat means no value exactly when it has steps of every number
abbrev pub NoValueNoEnd : Type 0
NoValueNoEnd = (m : TermTree) → HasType [] m nat → ((v : Val) → Means m v → ⊥) ↔ ((k : ℕ) → (n : TermTree) × (steps k m ≡ Some n))

-- each value is spelled by the term that is written for it, and what spells a value means it
pub record OverflowSpelled : Type 0 where
  pub written : (v : Val) → spelled (spell v) ≡ Some v
  pub meant : (m : TermTree) (v : Val) → spelled m ≡ Some v → Means m v
  pub stays : (m : TermTree) (v : Val) → spelled m ≡ Some v → step m ≡ None

-- neither, or both and the tree stands for the term
abbrev pub Agree : Option NamedTree → Option TermTree → Type 0
Agree None None = Unit {0}
Agree (Some t) (Some m) = Resolves [] t m
Agree None (Some m) = ⊥
Agree (Some t) None = ⊥

-- The step of a closed tree stands for the step of the term that the tree stands for, and there is none where that one has none; both
-- spell the same value.
abbrev pub NamesAgree : Type 0
NamesAgree = (t : NamedTree) (m : TermTree) → Resolves [] t m → Agree (named_step t) (step m) × (named_spelled t ≡ spelled m)

-- the rules of inference rewrite a term to another exactly when that one is its step
abbrev pub RulesAreStep : Type 0
RulesAreStep = (m n : TermTree) → Reduces m n ↔ (step m ≡ Some n)

-- a term is rewritten in one way at most
abbrev pub OneWay : Type 0
OneWay = (m n p : TermTree) → Reduces m n → Reduces m p → n ≡ p

-- the text x stands in the text y behind the text z
abbrev pub StandsBehind : List ℕ → List ℕ → List ℕ → Type 0
StandsBehind z x y = (after : List ℕ) × (y ≡ z ++ (x ++ after))

-- the part's own spelling stands there
abbrev pub Shows : Option (List ℕ × NamedTree) → List ℕ → Type 0
Shows None y = Unit {0}
Shows (Some r) y = StandsBehind r.0 (term_text r.1) y

-- the spelling of the part that is rewritten next stands in the spelling of the whole, behind the text that is told
abbrev pub RedexShown : Type 0
RedexShown = (t : NamedTree) → Shows (redex t) (term_text t)

-- there is such a part exactly where there is a step
abbrev pub RedexThere : Type 0
RedexThere = (t : NamedTree) → is_some (redex t) ≡ is_some (named_step t)
