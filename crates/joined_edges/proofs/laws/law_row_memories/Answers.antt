use Rattle.joined_edges.proofs.Row.{row_memories}
use Rattle.joined_edges.proofs.laws.law_row_memories.Goals as goal

pub returns : goal.returns
returns c = row_memories
