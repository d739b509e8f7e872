-- What contracts see of the two ends of a meter.
-- A meter is known by the name of its table, which no other meter has. Of what was published and of what was read the whole lists are
-- kept, so that a clause can say of which list another one is made; the code keeps the last number alone. Nothing here says when a
-- number was published or read.
use Rattle.std.specs.Prelude.{◌≡◌, ℕ, ◌<◌, List, [], ◌∷◌, ◌++◌, length, slice_index, All, Contains}
use Rattle.std.specs.List.Sorted.{IsNonDecreasing}
use Rattle.atomic_table.specs.Seated.{TableId}

-- the writer of a meter: what it published, and the readings of each reader that it settled
pub record Publisher : Type 0 where
  pub meter : TableId
  pub published : List ℕ
  pub settled : List (List ℕ)

-- a reader of a meter: its readings
pub record Listener : Type 0 where
  pub meter : TableId
  pub readings : List ℕ

-- the numbers begin with 0 and never go down
pub record RisesFromZero (numbers : List ℕ) : Type 0 where
  pub some_number : 0 < length numbers
  pub begins : slice_index numbers 0 ≡ 0
  pub rises : IsNonDecreasing numbers

-- these readings never go down, and each of them is among what was published
abbrev pub AreReadingsOf : List ℕ → List ℕ → Type 0
AreReadingsOf published readings = IsNonDecreasing readings × All (Contains published) readings

-- what is true of every writer: what it published rises from 0, and of it are the readings of each reader that it settled
pub record Faithful (w : Publisher) : Type 0 where
  pub rises : RisesFromZero w.published
  pub settled : All (AreReadingsOf w.published) w.settled

-- the writer of a new meter, and its first reader
abbrev pub first_publisher : TableId → Publisher
first_publisher meter = record { meter = meter; published = 0 ∷ []; settled = [] }

abbrev pub first_listener : TableId → Listener
first_listener meter = record { meter = meter; readings = 0 ∷ [] }

-- the reader after it read a number
abbrev pub with_reading : Listener → ℕ → Listener
with_reading l n = record l { readings = l.readings ++ n ∷ [] }

-- the writer after it published a number
abbrev pub with_number : Publisher → ℕ → Publisher
with_number p n = record p { published = p.published ++ n ∷ [] }

-- the writer after it settled a reader with these readings
abbrev pub with_settled : Publisher → List ℕ → Publisher
with_settled p readings = record p { settled = p.settled ++ readings ∷ [] }
