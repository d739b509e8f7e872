use Rattle.std.proofs.Common.{map, refl}
use Rattle.token_stacks.proofs.Writing.{boxes_said}
use Rattle.token_stacks.proofs.Said.{ok_map}
use Rattle.token_stacks.specs.Signatures.{S}
use Rattle.token_stacks.proofs.print.push_boxes.Goals as goal

pub push_stack-requires-clause-stack : goal.push_stack-requires-clause-stack
push_stack-requires-clause-stack c = (map S c.args.boxes.now, (c.args.boxes.now, c.words.ensures, refl))

pub returns : goal.returns
returns c =
    ok_map c.push_stack.result (boxes_said _ _ c.args.boxes.now)
    (c.push_stack.ensures (map S c.args.boxes.now) (c.args.boxes.now, c.words.ensures, refl))
