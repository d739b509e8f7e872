-- The digits with which a text begins, and the number that is read from them.
-- Digits are taken from the front of a text as far as they reach, so a number is always followed by another byte or by nothing.
use Rattle.std.specs.Prelude.{ℕ, ◌^◌, min, Bool, true, ◌&&◌, List, [], ◌∷◌, length, get_or, nat_eq, nat_lt, if◌then◌else◌}
use Rattle.std.specs.Char.{is_ascii_digit}

-- the digits with which a text begins
abbrev pub digits_in : List ℕ → List ℕ
digits_in [] = []
digits_in (b ∷ bs) = if is_ascii_digit b then b ∷ digits_in bs else []

-- what stands behind them
abbrev pub behind : List ℕ → List ℕ
behind [] = []
behind (b ∷ bs) = if is_ascii_digit b then behind bs else b ∷ bs

-- digits don't begin with a 0, but for 0 itself
abbrev pub is_plain : List ℕ → Bool
is_plain ds = if nat_eq (get_or ds 0 0) 48 then nat_eq (length ds) 1 else true

-- digits are a number, without leading zeros
abbrev pub is_number : List ℕ → Bool
is_number ds = nat_lt 0 (length ds) && is_plain ds

-- no number above this is told from it: it is above each limit of a format
abbrev pub capped : ℕ → ℕ
capped n = min n (2 ^ 40)
