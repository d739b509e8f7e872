-- What a call gives back to a caller that isn't written in Rattle: a status, a text in the caller's buffer, and how long that text is.
-- A text that doesn't fit isn't cut: nothing of it is written, and its length is told, so that the caller can come again with more room.
use Rattle.std.specs.Prelude.{◌≡◌, ◌⊎◌, ◌<◌, ◌≤◌, ℕ, List, ◌++◌, length, drop}

-- the status, the length that is told, and the buffer before and after the call
pub record Back : Type 0 where
  pub status : ℕ
  pub needed : ℕ
  pub old : List ℕ
  pub new : List ℕ

abbrev pub back : ℕ → ℕ → List ℕ → List ℕ → Back
back status needed old new = record { status = status; needed = needed; old = old; new = new }

-- the text stands at the front of the buffer, and what lay behind it stays
pub record Put (status : ℕ) (text : List ℕ) (b : Back) : Type 0 where
  pub status_is : b.status ≡ status
  pub needed : b.needed ≡ length text
  pub fits : length text ≤ length b.old
  pub new : b.new ≡ text ++ drop (length text) b.old

-- the text is longer than the buffer, which stays as it was
pub record NoRoom (text : List ℕ) (b : Back) : Type 0 where
  pub status_is : b.status ≡ 4
  pub needed : b.needed ≡ length text
  pub lacks : length b.old < length text
  pub new : b.new ≡ b.old

-- the text is given back with this status, or there is no room for it
abbrev pub Gives : ℕ → List ℕ → Back → Type 0
Gives status text b = Put status text b ⊎ NoRoom text b

-- nothing is given back but this status
pub record Nothing (status : ℕ) (b : Back) : Type 0 where
  pub status_is : b.status ≡ status
  pub needed : b.needed ≡ 0
  pub new : b.new ≡ b.old

-- the call ends with this status, or there was no room or no memory
abbrev pub Comes : ℕ → Back → Type 0
Comes status b = (b.status ≡ status) ⊎ (b.status ≡ 4) ⊎ (b.status ≡ 6)
