use Rattle.token_stacks.proofs.Turned.{behind_two}
use Rattle.token_stacks.proofs.words.two_behind.Goals as goal

pub returns : goal.returns
returns c = behind_two c.args.part.now c.copy_within.new.self c.requires c.copy_within.ensures.after
