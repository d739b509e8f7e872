-- What a read or a write adds to what a device did.
use Rattle.std.specs.Prelude.{◌∷◌}
use Rattle.goi_world.specs.Outside.{Turns}
use Rattle.goi_world.specs.Told.{reading, writing}
use Rattle.goi_world.specs.declared.past.Turn.{Turn}
use Rattle.goi_world.specs.declared.past.Turn.TheVariants.{Read, Wrote}

-- the reads and writes with one more
abbrev pub with_turn : Turns → Turn → Turns
with_turn turns (Read name at room answer buf) = record turns { reads = reading name.now at room answer buf.now ∷ turns.reads }
with_turn turns (Wrote piece answer) = record turns { writes = writing piece.now answer ∷ turns.writes }
