-- How a text is written to a sink, and by which writes.
-- It is written whole, and the count of faults stays; or a prefix of it is, and the count rose, which can't happen where the sink is sure
-- to take all of it. Each write offers all that is left of the text, and nothing is offered behind a write that failed.
use Rattle.std.specs.Prelude.{◌≡◌, ℕ, ◌+◌, ◌<◌, List, [], ◌∷◌, length, take, drop, Option, None, Some}
use Rattle.goi_world.specs.Outside.{Rose, Writing, CameBy, with_more}
use Rattle.goi_world.specs.Seen.{SinkState}

-- what came of a sink: what is seen of it before and after, and the writes that were made between, the last of them first
pub record SinkTurn : Type 0 where
  pub old : SinkState
  pub new : SinkState
  pub log : List Writing

abbrev pub sink_turn : SinkState → SinkState → List Writing → SinkTurn
sink_turn old new log = record { old = old; new = new; log = log }

-- a sink came from its first state to the second by some writes and no others, and this is so of them
abbrev pub ByWrites : {S : Type 0} → (S → SinkState) → (S → Writing → S → Type 0) → S → S → (SinkTurn → Type 0) → Type 0
ByWrites seen one first now P = (log : List Writing) × CameBy one first log now × P (sink_turn (seen first) (seen now) log)

-- ---- writes

-- how many bytes a write took
abbrev pub count_of : Option ℕ → ℕ
count_of (Some n) = n
count_of None = 0

-- how many bytes these writes took
abbrev pub count_taken : List Writing → ℕ
count_taken [] = 0
count_taken (w ∷ log) = count_taken log + count_of w.taken

-- each of these writes, the last of them first, offers all of the text that those before it didn't take, and that is something
abbrev pub Offers : List ℕ → List Writing → Type 0
Offers text [] = Unit {0}
Offers text (w ∷ log) = (w.piece ≡ drop (count_taken log) text) × (count_taken log < length text) × Offers text log

-- none of these writes failed
abbrev pub AllTake : List Writing → Type 0
AllTake [] = Unit {0}
AllTake (w ∷ log) = ((n : ℕ) × (w.taken ≡ Some n)) × AllTake log

-- the last of these writes failed, and none before it did
abbrev pub LastFails : List Writing → Type 0
LastFails [] = ⊥
LastFails (w ∷ log) = (w.taken ≡ None) × AllTake log

-- ---- texts

-- no write was made, and nothing else came of the sink
pub record Untouched (t : SinkTurn) : Type 0 where
  pub none : t.log ≡ []
  pub same : t.new ≡ t.old

-- the whole text was written, and nothing failed
pub record Wrote (text : List ℕ) (t : SinkTurn) : Type 0 where
  pub offers : Offers text t.log
  pub takes : AllTake t.log
  pub whole : count_taken t.log ≡ length text
  pub written : t.new.written ≡ with_more t.old.written text
  pub faults : t.new.faults ≡ t.old.faults

-- a prefix of the text was written, and then the sink failed, and nothing more was offered
pub record Broke (text : List ℕ) (t : SinkTurn) : Type 0 where
  pub offers : Offers text t.log
  pub fails : LastFails t.log
  pub prefix : t.new.written ≡ with_more t.old.written (take (count_taken t.log) text)
  pub rose : Rose t.old.faults t.new.faults
  pub short : t.old.spare < length text
