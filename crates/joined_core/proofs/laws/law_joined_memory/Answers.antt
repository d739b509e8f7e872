use Rattle.joined_core.proofs.Memory.{room_alone}
use Rattle.joined_core.proofs.laws.law_joined_memory.Goals as goal

pub returns : goal.returns
returns c = room_alone
