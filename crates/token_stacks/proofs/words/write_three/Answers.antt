use Rattle.token_stacks.proofs.Parts.{writes_three}
use Rattle.token_stacks.proofs.words.write_three.Goals as goal

pub returns-clause-written : goal.returns-clause-written
returns-clause-written c =
    writes_three _ _ _ _ _
