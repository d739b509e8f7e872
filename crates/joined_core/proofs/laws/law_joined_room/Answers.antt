use Rattle.joined_core.proofs.Room.{room_exactly, room_same}
use Rattle.joined_core.proofs.laws.law_joined_room.Goals as goal

pub returns-clause-exactly : goal.returns-clause-exactly
returns-clause-exactly c = room_exactly

pub returns-clause-same : goal.returns-clause-same
returns-clause-same c = room_same
