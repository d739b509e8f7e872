use Rattle.token_stacks.proofs.Turned.{behind_one}
use Rattle.token_stacks.proofs.words.first_behind.Goals as goal

pub returns : goal.returns
returns c = behind_one c.args.part.now c.copy_within.new.self c.requires c.copy_within.ensures.after
