-- The names of operators and of parts: by each its own form is found, and none has a line feed.
use Rattle.std.proofs.Common.{◌≡◌, ℕ, true, List, ◌++◌, Some, refl}
use Rattle.pcf_values.specs.declared.operator.Operator.{Operator}
use Rattle.pcf_values.specs.declared.side.Side.{Side}
use Rattle.pcf_values.specs.declared.side.Side.TheVariants.{Left, Right}
use Rattle.pcf_values.proofs.Operators.{for_each}
use Rattle.text_lines.proofs.Lines.{no_feed}
use Rattle.net_text.specs.declared.form.Form.TheVariants as form
use Rattle.net_text.specs.Listing.{operator_name, part_name}
use Rattle.net_text.specs.NodeText.{all_forms, form_among}

-- an operator's form is found by its name
pub operator_found : (operator : Operator) (rest : List ℕ)
    → form_among all_forms (operator_name operator ++ rest) ≡ Some (form.Binary operator, rest)
operator_found operator rest = before rest operator
  where
    before : (rest : List ℕ) (operator : Operator)
        → form_among all_forms (operator_name operator ++ rest) ≡ Some (form.Binary operator, rest)
    before rest = for_each _ _ refl

-- so is that of what takes the part on a side
pub part_found : (side : Side) (rest : List ℕ) → form_among all_forms (part_name side ++ rest) ≡ Some (form.Proj side, rest)
part_found Left rest = refl
part_found Right rest = refl

-- an operator's name has no line feed
pub operator_fine : (operator : Operator) → no_feed (operator_name operator) ≡ true
operator_fine = for_each _ _ refl

-- nor has a part's
pub part_fine : (side : Side) → no_feed (part_name side) ≡ true
part_fine Left = refl
part_fine Right = refl
