-- The runs that a log is kept as: so many moves of one ticket by one worker, in the order of the log. A list of runs stands for the list of
-- the moves that it has, one by one. Room is 8 bytes a run, of which a count has 24 bits, so a run has a greatest count. That neighbours
-- differ, or the first of them is full, is what makes the runs of a log the only ones of its moves (`OneWayToRun`).
use Rattle.std.specs.Prelude.{◌≡◌, ℕ, ◌+◌, ◌<◌, ◌≤◌, List, [], ◌∷◌, ◌++◌, length, replicate}
use Rattle.schedule_log.specs.declared.entry.Entry.{Entry}

-- so many moves of one ticket, all by one worker
pub record MovesSeen : Type 0 where
  pub ticket : ℕ
  pub worker : ℕ
  pub count : ℕ

-- how many moves a run has at most
abbrev pub most_count : ℕ
most_count = 16777215

-- the move that a run is of
abbrev pub move_of : MovesSeen → Entry
move_of r = record { ticket = r.ticket; worker = r.worker }

-- the moves of runs, one by one
abbrev pub spread : List MovesSeen → List Entry
spread [] = []
spread (r ∷ rs) = replicate r.count (move_of r) ++ spread rs

-- the first of these runs, if there is one, is of another move than this run (ticket or worker differ), or this run is full
abbrev pub Differs : MovesSeen → List MovesSeen → Type 0
Differs r [] = Unit {0}
Differs r (q ∷ rs) = move_of r ≡ move_of q → r.count ≡ most_count

-- runs that stand side by side differ in ticket or worker, or the first of them is full
abbrev pub Apart : List MovesSeen → Type 0
Apart [] = Unit {0}
Apart (r ∷ rs) = Differs r rs × Apart rs

-- a run has a move, and no more than fit
abbrev pub Fair : MovesSeen → Type 0
Fair r = (1 ≤ r.count) × (r.count ≤ most_count)

-- each run has a move, and no more than fit
abbrev pub Each : List MovesSeen → Type 0
Each [] = Unit {0}
Each (r ∷ rs) = Fair r × Each rs

-- The move at this place is one of the run r, which is one of the runs and begins at the place b.
pub record IsHeld (rs : List MovesSeen) (place : ℕ) (r : MovesSeen) (b : ℕ) : Type 0 where
  pub before : List MovesSeen
  pub after : List MovesSeen
  pub runs_are : rs ≡ before ++ r ∷ after
  pub begins : b ≡ length (spread before)
  pub from : b ≤ place
  pub below : place < b + r.count
