use Rattle.std.proofs.Common.{rules}
use Rattle.goi_engine.proofs.answer.not_loaded.Goals as goal

pub returns-in-Memory-clause-memory : goal.returns-in-Memory-clause-memory
returns-in-Memory-clause-memory c = search rules
