-- What may be said of the bytes of a file by what it holds, and which reads load one.
-- What files hold may be known beforehand, as of files in memory. Of the files of the system it shows in the reads alone. So contracts
-- speak of whatever files hold that all reads fit. That may leave out a file: then its bytes are some bytes, and what is said of it is said
-- of those.
use Rattle.std.specs.Prelude.{◌≡◌, ℕ, ◌+◌, ◌<◌, ◌≤◌, IsTrue, List, [], ◌∷◌, length, All, Option, None, Some}
use Rattle.goi_world.specs.Outside.{Reading, CameBy, given}
use Rattle.goi_world.specs.Seen.{FilesState, holding}

-- whatever the files hold that all that was read of them fits, this is so of them as they are seen before and after
abbrev pub Whatever : {S : Type 0} → (S → FilesState) → (S → (List ℕ → Option (List ℕ)) → Type 0) → S → S →
    (FilesState → FilesState → Type 0) → Type 0
Whatever seen fits old new P = (told : List ℕ → Option (List ℕ)) → fits new told → P (holding told (seen old)) (holding told (seen new))

-- the told bytes are so, or some bytes where none are told
abbrev pub Possibly : Option (List ℕ) → (List ℕ → Type 0) → Type 0
Possibly None P = (bytes : List ℕ) × P bytes
Possibly (Some bytes) P = P bytes

-- there is a file of this name, and its bytes are so: those that are told, or some where none are
abbrev pub OfFile : FilesState → List ℕ → (List ℕ → Type 0) → Type 0
OfFile files name P = (IsTrue (files.lacks name) → ⊥) × Possibly (files.told name) P

-- the file of this name is told, and its bytes are so
abbrev pub OfTold : FilesState → List ℕ → (List ℕ → Type 0) → Type 0
OfTold files name P = (bytes : List ℕ) × (files.told name ≡ Some bytes) × P bytes

-- a read of this file, of no place past one byte more than its limit
pub record ReadsWithin (name : List ℕ) (limit : ℕ) (r : Reading) : Type 0 where
  pub named : r.name ≡ name
  pub within : r.at + r.room ≤ limit + 1

-- the reads, the last of them first, are of places that go on, each behind the one before it and all of them before this place
abbrev pub Onwards : ℕ → List Reading → Type 0
Onwards place [] = Unit {0}
Onwards place (r ∷ log) = (r.at < place) × Onwards r.at log

-- each of these reads, the last of them first, begins where those before it came to
abbrev pub Joined : List Reading → Type 0
Joined [] = Unit {0}
Joined (r ∷ log) = (r.at ≡ length (given log)) × Joined log

-- a file of at most so many bytes was loaded: by reads of it alone, no more than one a byte and one, at places that go on and leave none
-- out, none of them past one byte more than the limit
pub record LoadedBy {S : Type 0} (one : S → Reading → S → Type 0) (name : List ℕ) (limit : ℕ) (old new : S) : Type 0 where
  pub log : List Reading
  pub came : CameBy one old log new
  pub few : length log ≤ limit + 1
  pub each : All (ReadsWithin name limit) log
  pub onwards : Onwards (limit + 1) log
  pub joined : Joined log
