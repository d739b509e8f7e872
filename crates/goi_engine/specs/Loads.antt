-- What one turn of loading does to the bytes that were loaded before it.
-- The bytes loaded are always a prefix of the file, where the file is told; a turn that gives none is at the end of the file.
use Rattle.std.specs.Prelude.{◌≡◌, ℕ, ◌+◌, ◌≤◌, List, length, take, Option, IfSome}

-- n more bytes were loaded
pub record Loads (limit : ℕ) (old new : List ℕ) (n : ℕ) : Type 0 where
  pub more : length new ≡ length old + n
  pub within : length new ≤ limit + 1

-- they were loaded behind a prefix of a file; none only at its end
pub record GoesOn (known : Option (List ℕ)) (old new : List ℕ) (n : ℕ) : Type 0 where
  pub prefix : IfSome known (λ bytes. old ≡ take (length old) bytes → new ≡ take (length new) bytes)
  pub end : IfSome known (λ bytes. n ≡ 0 → length bytes ≤ length old)
