-- Numbers in decimal, as digits without leading zeros; 0 is `0`. They may have any length.
use Rattle.std.specs.Prelude.{◌≡◌, ℕ, ◌<◌, true, List, length, get_or}
use Rattle.std.specs.Str.{all_ascii_digits}
use Rattle.std.specs.Str.Parse.{digits_value}

-- These bytes are this number in decimal, without leading zeros; 0 is `0`.
pub record Spells (ds : List ℕ) (n : ℕ) : Type 0 where
  pub some : 0 < length ds
  pub digits : all_ascii_digits ds ≡ true
  pub plain : get_or ds 0 0 ≡ 48 → length ds ≡ 1
  pub value : digits_value 10 ds ≡ n
