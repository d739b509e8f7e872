-- What the translation by continuations is worth, and what holds of the meaning by value and of the faults.
use Rattle.std.specs.Prelude.{◌≡◌, ◌↔◌, ◌⊎◌, ◌+◌, ◌*◌, ◌<◌, ◌≤◌, ℕ, suc, [], Some, Ok}
use Rattle.pcf_values.specs.declared.val.Val.{Val}
use Rattle.pcf_values.specs.Terms.{TyTree, nat, TermTree, size, height}
use Rattle.pcf_values.specs.Typing.{HasType}
use Rattle.pcf_values.specs.Named.{NamedTree}
use Rattle.pcf_types.specs.Checking.{type_of}
use Rattle.cbn_meaning.specs.Meaning.{Res, Means}
use Rattle.cbv_terms.specs.declared.fault.ByValueFault.{ByValueFault}
use Rattle.cbv_terms.specs.ByValue.{eval_by_value, MeansByValue}
use Rattle.cbv_terms.specs.Translation.{translated}
use Rattle.cbv_terms.specs.Accepted.{HasTranslation, Accepted}
use Rattle.cbv_terms.specs.Faults.{IsFirstFault, IsFaultless}

-- a closed term of type nat means a value by value exactly where its translation means it by name
abbrev pub SameValues : Type 0
SameValues = (m : TermTree) → HasType [] m nat → HasTranslation m → (v : Val) → MeansByValue m v ↔ Means (translated m) v

-- the translation is a closed term of type nat
abbrev pub TranslatedIsTyped : Type 0
TranslatedIsTyped = (m : TermTree) → HasType [] m nat → HasTranslation m → HasType [] (translated m) nat

-- it has at most ten nodes for one, and three more
abbrev pub TranslatedSize : Type 0
TranslatedSize = (m : TermTree) → size (translated m) ≤ 10 * size m + 3

-- and that of an accepted term is lower than 2,600, as every program is that is read
abbrev pub TranslatedHeight : Type 0
TranslatedHeight = (m : TermTree) → Accepted m → height (translated m) < 2600

-- more depth keeps a result
abbrev pub MoreDepth : Type 0
MoreDepth = (d : ℕ) (m : TermTree) (r : Res) → eval_by_value d m ≡ Some r → eval_by_value (suc d) m ≡ Some r

-- a term has one value at most
abbrev pub OneValue : Type 0
OneValue = (m : TermTree) (v w : Val) → MeansByValue m v → MeansByValue m w → v ≡ w

-- a program has no fault exactly where its term is accepted
abbrev pub FaultlessIsAccepted : Type 0
FaultlessIsAccepted = (tree : NamedTree) (m : TermTree) (t : TyTree) → type_of [] tree ≡ Ok (m, t) → IsFaultless tree ↔ Accepted m

-- a program has no fault or a first one
abbrev pub SomeFirstFault : Type 0
SomeFirstFault = (tree : NamedTree) → IsFaultless tree ⊎ ((f : ByValueFault) × IsFirstFault tree f)

-- and one first fault at most
abbrev pub OneFirstFault : Type 0
OneFirstFault = (tree : NamedTree) (f g : ByValueFault) → IsFirstFault tree f → IsFirstFault tree g → f ≡ g
