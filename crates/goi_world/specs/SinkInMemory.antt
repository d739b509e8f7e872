-- A sink in memory, and what a write to it does.
--
-- It holds the bytes that were written, beside its room, the numbers of the calls that fail and two counts.
use Rattle.std.specs.Prelude.{◌≡◌, ℕ, ◌-◌, min, Bool, ◌&&◌, ◌||◌, not, List, [], ◌++◌, length, take, Option, None, Some, ◌==◌}
use Rattle.std.specs.Prelude.{if◌then◌else◌}
use Rattle.goi_world.specs.Outside.{count_after, Writing}
use Rattle.goi_world.specs.Failing.{listed, none_listed}
use Rattle.goi_world.specs.Seen.{SinkState}
use Rattle.goi_world.specs.Told.{sink_seen}

-- the bytes so far, for how many there is room in all, how many a write takes at most, which calls fail, and how many calls
-- and faults there were
pub record SinkInMemory : Type 0 where
  pub bytes : List ℕ
  pub room : ℕ
  pub most : ℕ
  pub fails : List ℕ
  pub calls : ℕ
  pub faults : ℕ

-- the sink before the first call
abbrev pub new_sink : ℕ → ℕ → List ℕ → SinkInMemory
new_sink room most fails = record { bytes = []; room = room; most = most; fails = fails; calls = 0; faults = 0 }

-- the room that is left
abbrev pub room_left : SinkInMemory → ℕ
room_left s = s.room - length s.bytes

-- a write of this piece fails: its call is listed, or there are bytes to be written and no room is left
abbrev pub write_fails : SinkInMemory → List ℕ → Bool
write_fails s piece = listed s.fails (count_after s.calls) || ((room_left s == 0) && not (length piece == 0))

-- how many bytes a write takes that doesn't fail: the whole piece, or what there is room for or a write takes at most
abbrev pub write_length : SinkInMemory → List ℕ → ℕ
write_length s piece = min (length piece) (min (room_left s) s.most)

-- the sink after a write of this piece: a call more, and either a fault more or the front of the piece that was taken
abbrev pub after_write : SinkInMemory → List ℕ → SinkInMemory
after_write s piece =
    if write_fails s piece
    then record s { calls = count_after s.calls; faults = count_after s.faults }
    else record s { calls = count_after s.calls; bytes = s.bytes ++ take (write_length s piece) piece }

-- how many bytes a write of this piece takes, which is none where it fails
abbrev pub write_takes : SinkInMemory → List ℕ → Option ℕ
write_takes s piece = if write_fails s piece then None else Some (write_length s piece)

-- one state became another by this write
pub record WroteOnce (s : SinkInMemory) (w : Writing) (now : SinkInMemory) : Type 0 where
  pub after : now ≡ after_write s w.piece
  pub takes : w.taken ≡ write_takes s w.piece

-- so many bytes are sure to be taken: the room that is left, where no call is listed to fail
abbrev pub sure_room : SinkInMemory → ℕ
sure_room s = if none_listed s.fails then room_left s else 0

-- what is seen of it
abbrev pub memory_sink_seen : SinkInMemory → SinkState
memory_sink_seen s = sink_seen (Some s.bytes) s.faults (sure_room s)
