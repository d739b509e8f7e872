-- How contracts tell of a read, of a write, and of what is seen: each as a record of its parts; and when reads fit what files hold.
use Rattle.std.specs.Prelude.{◌≡◌, ℕ, ◌-◌, ◌<◌, ◌≤◌, IsTrue, List, [], ◌∷◌, length, take, drop, refl, Option, None, Some, is_none, IfSome}
use Rattle.std.specs.Prelude.{Bool, Result, Ok, Err}
use Rattle.goi_world.specs.Outside.{Reading, Writing}
use Rattle.goi_world.specs.Seen.{FilesState, SinkState}

-- the bytes that a read gave, by what it answered and by what stands in the buffer then
abbrev pub given_by : {E : Type 0} → Result ℕ E → List ℕ → Option (List ℕ)
given_by (Ok n) buf = Some (take n buf)
given_by (Err e) buf = None

-- the read of this file from there on, with so much room, which gave this
abbrev pub read_of : List ℕ → ℕ → ℕ → Option (List ℕ) → Reading
read_of name at room gave = record { name = name; at = at; room = room; gave = gave }

-- the same by what it answered and by what stands in the buffer then
abbrev pub reading : {E : Type 0} → List ℕ → ℕ → ℕ → Result ℕ E → List ℕ → Reading
reading name at room answer buf = read_of name at room (given_by answer buf)

-- how many bytes a write took, by what it answered
abbrev pub taken_by : {E : Type 0} → Result ℕ E → Option ℕ
taken_by (Ok n) = Some n
taken_by (Err e) = None

-- the write of this piece with this answer
abbrev pub writing : {E : Type 0} → List ℕ → Result ℕ E → Writing
writing piece answer = record { piece = piece; taken = taken_by answer }

-- a piece stands in a file from an offset on; it is empty only at the file's end or without room
pub record IsPiece (bytes : List ℕ) (at room : ℕ) (piece : List ℕ) : Type 0 where
  pub same : piece ≡ take (length piece) (drop at bytes)
  pub within : length piece ≤ length bytes - at
  pub end : length piece ≡ 0 → 0 < room → length bytes ≤ at

-- a read fits files of which this is told: it gave a piece of the file's bytes, where those are told, or it failed
abbrev pub Fits : (List ℕ → Option (List ℕ)) → Reading → Type 0
Fits told r = IfSome r.gave (λ piece. IfSome (told r.name) (λ bytes. IsPiece bytes r.at r.room piece))

-- and so does each of these reads
abbrev pub AllFit : (List ℕ → Option (List ℕ)) → List Reading → Type 0
AllFit told [] = Unit {0}
AllFit told (r ∷ log) = Fits told r × AllFit told log

-- what there is none of isn't told
pub untold : (o : Option (List ℕ)) → IsTrue (is_none o) → o ≡ None
untold None h = refl
untold (Some x) h = cc

-- what is seen of files, from its parts
abbrev pub files_seen : (List ℕ → Option (List ℕ)) → (List ℕ → Bool) → ℕ → Bool → FilesState
files_seen told lacks faults steady = record { told = told; lacks = lacks; faults = faults; steady = steady }

-- what is seen of a sink, from its parts
abbrev pub sink_seen : Option (List ℕ) → ℕ → ℕ → SinkState
sink_seen written faults spare = record { written = written; faults = faults; spare = spare }
