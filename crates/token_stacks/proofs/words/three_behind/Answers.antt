use Rattle.token_stacks.proofs.Turned.{behind_three}
use Rattle.token_stacks.proofs.words.three_behind.Goals as goal

pub returns : goal.returns
returns c = behind_three c.args.part.now c.copy_within.new.self c.requires c.copy_within.ensures.after
