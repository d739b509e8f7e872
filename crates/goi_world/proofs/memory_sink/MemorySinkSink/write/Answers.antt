use Rattle.std.proofs.Common.{rules}
use Rattle.goi_world.proofs.memory_sink.MemorySinkSink.write.Goals as goal

pub returns-clause-after : goal.returns-clause-after
returns-clause-after c = search rules
