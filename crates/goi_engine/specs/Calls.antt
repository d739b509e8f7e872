-- Everything outside, in a call of the top call: what is seen of it before and after, and when nothing of it failed.
use Rattle.goi_world.specs.Outside.{Rose}
use Rattle.goi_world.specs.Seen.{FilesState}
use Rattle.goi_engine.specs.Writes.{SinkTurn}

-- what is seen of the files before it and after it, and what came of both sinks
pub record Call : Type 0 where
  pub old : FilesState
  pub new : FilesState
  pub out : SinkTurn
  pub err : SinkTurn

abbrev pub call : FilesState → FilesState → SinkTurn → SinkTurn → Call
call old new out err = record { old = old; new = new; out = out; err = err }

-- no device failed
pub record NoneFailed (c : Call) : Type 0 where
  pub files : Rose c.old.faults c.new.faults → ⊥
  pub out : Rose c.out.old.faults c.out.new.faults → ⊥
  pub err : Rose c.err.old.faults c.err.new.faults → ⊥
