-- What a list of origins has at a place.
use Rattle.std.proofs.Common.{◌≡◌, ◌<◌, ◌≤◌, ℕ, zero, suc, List, [], ◌∷◌, length, map, get_or, Option, None, Some, refl, sym, ap, arith}
use Rattle.std.specs.Prelude.{nat_lt, IfSome}
use Rattle.std.specs.Option.{option_map, is_some}
use Rattle.std.proofs.lemmas.Bool.{ltb-true, ltb-false}
use denote.Bor.{Bor}
use Rattle.joined_module.specs.Rows.{from_at}
use Rattle.joined_data.specs.Views.{origin_view, origin_if}
use Rattle.joined_data.specs.declared.rows.Origin.{Origin}

past : (xs : List Origin) (n : ℕ) → length xs ≤ n → from_at (map origin_view xs) n ≡ None
past [] n h = refl
past (x ∷ xs) zero h = absurd (omega (arith, h))
past (x ∷ xs) (suc n) h = past xs n (omega (arith, h))

within : (xs : List Origin) (n : ℕ) (y : Origin) → n < length xs → y ≡ get_or xs n y → Some (origin_view y) ≡ from_at (map origin_view xs) n
within [] n y h e = absurd (omega (arith, h))
within (x ∷ xs) zero y h e = ap (λ z. Some (origin_view z)) e
within (x ∷ xs) (suc n) y h e = within xs n y (omega (arith, h)) e

-- read at once or one after another, it is the same
pub read_at : (xs : List Origin) (n : ℕ) (o : Option (Bor Origin)) → is_some o ≡ nat_lt n (length xs) →
    IfSome o (λ x. x.now ≡ get_or xs n x.now) → origin_if (option_map (λ s. s.now) o) ≡ from_at (map origin_view xs) n
read_at xs n None h g = sym (past xs n (ltb-false n (length xs) (sym h)))
read_at xs n (Some y) h g = within xs n y.now (ltb-true n (length xs) (sym h)) g
