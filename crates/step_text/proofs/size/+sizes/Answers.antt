use Rattle.std.proofs.Common.{arith}
use Rattle.pcf_values.specs.Views.{named_of}
use Rattle.step_text.proofs.Sizes.{some_node}
use Rattle.step_text.proofs.size.+sizes.Goals as goal

pub room_beside-returns-then-room-eq0 : goal.room_beside-returns-then-room-eq0
room_beside-returns-then-room-eq0 t c =
    let few = some_node (named_of c.args.term.now) in
    let no_room = c.if-room-eq0.true in
    omega (arith, few, no_room)
