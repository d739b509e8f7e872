use Rattle.token_stacks.proofs.WordLaws.{words_tell}
use Rattle.token_stacks.proofs.laws.law_words_tell.Goals as goal

pub returns : goal.returns
returns c = words_tell
