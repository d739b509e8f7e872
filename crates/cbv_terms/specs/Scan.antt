-- What private contracts see of the walk that looks for faults: the least place of each kind.
use Rattle.std.specs.Prelude.{◌≤◌, ℕ, min, nat_le, if◌then◌else◌, Bool, true, false, Option, Some, None}
use Rattle.cbv_terms.specs.declared.fault.ByValueFault.{ByValueFault}
use Rattle.cbv_terms.specs.declared.fault.ByValueFault.TheVariants.{ByValueFix, ByValuePair}
use Rattle.cbv_terms.specs.declared.refusal.Least.{Least}

-- the least place that has the property, or none where no place has it
abbrev pub IsLeast : (ℕ → Type 0) → Option ℕ → Type 0
IsLeast P None = (at : ℕ) → P at → ⊥
IsLeast P (Some a) = P a × ((b : ℕ) → P b → a ≤ b)

-- the least places of faults of each kind that have the property
pub record Finds (F : ByValueFault → Type 0) (found : Least) : Type 0 where
  pub fixes : IsLeast (λ at. F (ByValueFix at)) found.fixes
  pub pairs : IsLeast (λ at. F (ByValuePair at)) found.pairs

-- the lesser of the places that there are
abbrev pub lesser : Option ℕ → Option ℕ → Option ℕ
lesser None b = b
lesser (Some a) None = Some a
lesser (Some a) (Some b) = Some (min a b)

-- the place where this holds
abbrev pub where_holds : Bool → ℕ → Option ℕ
where_holds true at = Some at
where_holds false at = None

-- of the faults at these places the first one: the one at the least place, and at one place the `fix`
abbrev pub first_of : Option ℕ → Option ℕ → Option ByValueFault
first_of None None = None
first_of (Some a) None = Some (ByValueFix a)
first_of None (Some b) = Some (ByValuePair b)
first_of (Some a) (Some b) = if nat_le a b then Some (ByValueFix a) else Some (ByValuePair b)
