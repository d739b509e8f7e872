use Rattle.token_stacks.proofs.Parts.{rotated}
use Rattle.token_stacks.proofs.words.turn.Goals as goal

pub returns-clause-swapped : goal.returns-clause-swapped
returns-clause-swapped c =
    rotated _ _ _ _ _ _ _ c.requires.first c.requires.second c.deref_mut.ensures.value c.args.words.now.ok.0 c.rotate.ensures
