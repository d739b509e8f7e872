-- All operators at once, by computation: a proof that names none, and that stays as it is where there is one more.
use Rattle.std.proofs.Common.{◌≡◌, List, [], ◌∷◌, map, get_or, ap}
use Rattle.pcf_values.specs.declared.operator.Operator.{Operator}
use Rattle.pcf_values.specs.declared.operator.Operator.TheVariants.{Plus, Minus, Times}

abbrev pub operators : List Operator
operators = Plus ∷ Minus ∷ Times ∷ []

-- What comes to the same for all that are listed comes to the same for each. A lemma whose last argument is an operator is mostly
-- `for_each _ _ refl`.
pub for_each : {A : Type 0} (f g : Operator → A) → map f operators ≡ map g operators → (op : Operator) → f op ≡ g op
for_each f g e Plus = ap (λ xs. get_or xs 0 (f Plus)) e
for_each f g e Minus = ap (λ xs. get_or xs 1 (f Minus)) e
for_each f g e Times = ap (λ xs. get_or xs 2 (f Times)) e
