-- What reads and writes give, and when a count of faults has risen.
--
-- A file is the list of its bytes, and a name is the list of its own. What isn't known of a device is left out: bytes are
-- an `Option`, absent where nobody can tell them.
--
-- A count is kept in 64 bits. It stands still at the last number of these, so that no count wraps. There nobody can see
-- a further rise, and so a count that stands at its last number counts as risen.
use Rattle.std.specs.Prelude.{◌≡◌, ℕ, ◌+◌, ◌-◌, ◌^◌, ◌≤◌, min, take, List, [], ◌∷◌, ◌++◌, Option, None, Some}
use Rattle.std.specs.Option.{option_map}

-- the count after one more, which stands still at the last number of 64 bits
abbrev pub count_after : ℕ → ℕ
count_after n = min (n + 1) (2 ^ 64 - 1)

-- a count has risen, or stands at its last number
abbrev pub Rose : ℕ → ℕ → Type 0
Rose before now = count_after before ≤ now

-- a read: of which file, from which offset on, with room for how many bytes, and which bytes it gave, which are absent where it failed
pub record Reading : Type 0 where
  pub name : List ℕ
  pub at : ℕ
  pub room : ℕ
  pub gave : Option (List ℕ)

-- a write: which piece was offered, and how many bytes of it were taken, which is none where it failed
pub record Writing : Type 0 where
  pub piece : List ℕ
  pub taken : Option ℕ

-- the reads and the writes that a device made, the last of each first
pub record Turns : Type 0 where
  pub reads : List Reading
  pub writes : List Writing

-- none of either
abbrev pub no_turns : Turns
no_turns = record { reads = []; writes = [] }

-- a device came from its first state to this one by these reads or writes and no others, the last of them first; `one` says what one of
-- them makes of a state
abbrev pub CameBy : {S A : Type 0} → (S → A → S → Type 0) → S → List A → S → Type 0
CameBy one first [] now = now ≡ first
CameBy {S = S} one first (a ∷ log) now = (mid : S) × CameBy one first log mid × one mid a now

-- known bytes, with more at their end
abbrev pub with_more : Option (List ℕ) → List ℕ → Option (List ℕ)
with_more known more = option_map (λ bytes. bytes ++ more) known

-- bytes, and behind them those that a read gave
abbrev pub with_given : List ℕ → Option (List ℕ) → List ℕ
with_given bytes None = bytes
with_given bytes (Some more) = bytes ++ more

-- the bytes that these reads gave, in the order in which they gave them; the last of the reads stands first
abbrev pub given : List Reading → List ℕ
given [] = []
given (r ∷ log) = with_given (given log) r.gave

-- bytes, and behind them those that were taken of a piece
abbrev pub with_taken : List ℕ → List ℕ → Option ℕ → List ℕ
with_taken bytes piece None = bytes
with_taken bytes piece (Some n) = bytes ++ take n piece

-- the bytes that these writes took, in the order in which they took them; the last of the writes stands first
abbrev pub handed : List Writing → List ℕ
handed [] = []
handed (w ∷ log) = with_taken (handed log) w.piece w.taken
