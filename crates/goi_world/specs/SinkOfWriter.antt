-- What is known of a sink over a writer of std: the writes that were made, with the pieces that were handed over and how much of each was
-- taken, and a count of faults, which stands still at its last number.
use Rattle.std.specs.Prelude.{ℕ, List, [], ◌∷◌, Option, None, Some}
use Rattle.goi_world.specs.Outside.{Writing, count_after, handed}
use Rattle.goi_world.specs.Seen.{SinkState}
use Rattle.goi_world.specs.Told.{sink_seen}

-- the writes, the last of them first, and how many failed
pub record SinkOfWriter : Type 0 where
  pub past : List Writing
  pub faults : ℕ

-- before the first write
abbrev pub unwritten : SinkOfWriter
unwritten = record { past = []; faults = 0 }

-- the count of faults after a write that took so many bytes, or failed
abbrev pub faults_after : ℕ → Option ℕ → ℕ
faults_after faults (Some n) = faults
faults_after faults None = count_after faults

-- a write more
abbrev pub one_write : SinkOfWriter → Writing → SinkOfWriter
one_write sink w = record { past = w ∷ sink.past; faults = faults_after sink.faults w.taken }

-- what is seen of it: what was written is what the writer took, and no write is certain
abbrev pub writer_sink_seen : SinkOfWriter → SinkState
writer_sink_seen sink = sink_seen (Some (handed sink.past)) sink.faults 0
