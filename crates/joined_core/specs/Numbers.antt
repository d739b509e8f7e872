-- Keys as numbers: the statements of `law_key_numbers`.
-- A module keeps a number in place of a key. Here it is the place of the key's first row in the list, so that there are no more numbers
-- than rows.
use Rattle.std.specs.Prelude.{◌≡◌, ◌<◌, ℕ, suc, List, [], ◌∷◌, length, Option, Some, None, nat_eq, ◌&&◌, if◌then◌else◌}
use Rattle.joined_core.specs.Rows.{Key, Seen, JoinedRow}
use Rattle.joined_core.specs.Same.{same_key, same_seen}
use Rattle.joined_core.specs.Listed.{Entry, find}

-- the number of a key; that of a key without a row is the length of the list
abbrev pub key_number : List Entry → Key → ℕ
key_number [] k = 0
key_number (x ∷ xs) k = if same_key x.key k then 0 else suc (key_number xs k)

-- the first row of this number and of what is seen, where f has the numbers of keys
abbrev pub find_number : (Key → ℕ) → List Entry → ℕ → Seen → Option JoinedRow
find_number f [] n e = None
find_number f (x ∷ xs) n e = if nat_eq (f x.key) n && same_seen x.seen e then Some x.row else find_number f xs n e

-- keys that have a row have different numbers
abbrev pub NumbersDiffer : Type 0
NumbersDiffer = (entries : List Entry) (j k : Key) → key_number entries j < length entries →
    key_number entries j ≡ key_number entries k → j ≡ k

-- so a row is found by the number alone
abbrev pub NumbersFind : Type 0
NumbersFind = (entries : List Entry) (k : Key) (e : Seen) →
    find_number (key_number entries) entries (key_number entries k) e ≡ find entries k e
