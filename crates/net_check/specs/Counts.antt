-- How the code counts: never, once, or more often.
use Rattle.std.specs.Prelude.{◌≡◌, ◌<◌, ℕ, zero, suc, List, [], ◌∷◌, length, Option, Some, None, nat_lt, if◌then◌else◌, slice_get}
use Rattle.std.specs.Prelude.{slice_set, slice_index}
use Rattle.net_build.specs.declared.node.Node.{Node}
use Rattle.net_build.specs.Nets.{premises, conclusions}
use Rattle.net_build.specs.Sound.{named}

abbrev pub capped : ℕ → ℕ
capped zero = 0
capped (suc zero) = 1
capped (suc (suc n)) = 2

abbrev pub once_more : ℕ → ℕ
once_more zero = 1
once_more (suc n) = 2

-- each of these wires counts once more; what lies past the list is left out
abbrev pub bumped : List ℕ → List ℕ → List ℕ
bumped [] counts = counts
bumped (w ∷ ws) counts = bumped ws (slice_set counts w (once_more (slice_index counts w)))

-- for each wire, how often these nodes name it on a side
pub record Counted (side : Node → List ℕ) (count : ℕ) (nodes : List Node) (counts : List ℕ) : Type 0 where
  pub size : length counts ≡ count
  pub entry : (w : ℕ) → w < count → slice_get counts w ≡ Some (capped (named side nodes w))

-- the least place at which one of two counts isn't 1, where there is one
abbrev pub IsLeastOdd : List ℕ → List ℕ → Option ℕ → Type 0
IsLeastOdd xs ys None = (n : ℕ) → n < length xs → (slice_get xs n ≡ Some 1) × (slice_get ys n ≡ Some 1)
IsLeastOdd xs ys (Some n) =
    (n < length xs) × ((m : ℕ) → m < n → (slice_get xs m ≡ Some 1) × (slice_get ys m ≡ Some 1)) × ¬
    ((slice_get xs n ≡ Some 1) × (slice_get ys n ≡ Some 1))

-- the lesser of a number and one that is there
abbrev pub lesser : ℕ → Option ℕ → Option ℕ
lesser w None = Some w
lesser w (Some n) = if nat_lt w n then Some w else Some n

-- the least of a number and the wires of a list past the first so many
abbrev pub lesser_of : ℕ → List ℕ → Option ℕ → Option ℕ
lesser_of count [] o = o
lesser_of count (w ∷ ws) o = lesser_of count ws (if nat_lt w count then o else lesser w o)

-- the same of all wires that the nodes name
abbrev pub past_from : ℕ → List Node → Option ℕ → Option ℕ
past_from count [] o = o
past_from count (n ∷ ns) o = past_from count ns (lesser_of count (premises n) (lesser_of count (conclusions n) o))
