use Rattle.token_stacks.proofs.Pieces.{mark_piece_said, part_said, second_part_said}
use Rattle.token_stacks.proofs.print.push_piece.Goals as goal

pub returns-in-Mark : goal.returns-in-Mark
returns-in-Mark c = mark_piece_said _ _ _ _ c.args.piece _ c.in-Mark.is (c.push_mark.ensures c.args.todo.now.items)

pub returns-in-Part : goal.returns-in-Part
returns-in-Part c = part_said _ _ _ _ _ c.args.piece c.in-Part.words c.in-Part.deep c.in-Part.is c.requires c.push_part.ensures

pub returns-in-Second : goal.returns-in-Second
returns-in-Second c =
    second_part_said _ _ _ _ _ c.args.piece c.in-Second.words c.in-Second.deep _ c.in-Second.is c.requires c.push_second.ensures
