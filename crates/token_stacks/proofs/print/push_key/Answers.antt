use Rattle.std.proofs.Common.{length, map, refl, ap}
use Rattle.token_stacks.proofs.Writing.{key_said}
use Rattle.token_stacks.proofs.Said.{ok_map}
use Rattle.token_stacks.specs.Signatures.{S}
use Rattle.token_stacks.proofs.print.push_key.Goals as goal

pub push_stack-requires-clause-stack : goal.push_stack-requires-clause-stack
push_stack-requires-clause-stack c = (map S c.args.boxes.now, (c.args.boxes.now, c.words-words.ensures, refl))

pub returns : goal.returns
returns c =
    ok_map c.push_stack.result (key_said _ _ c.args.boxes.now _ (ap length c.words-words.ensures))
    (c.push_stack.ensures (map S c.args.boxes.now) (c.args.boxes.now, c.words-words.ensures, refl))
