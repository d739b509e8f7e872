-- Plain words are taken, and ask for what they give.
use Rattle.goi_words.specs.Commands.{commands}
use Rattle.goi_words.specs.Laws.{PlainWordsAreTaken}
use Rattle.goi_words.proofs.Agreeing.{each}
use Rattle.goi_words.proofs.Plainly.{takes_plain_words}
use Rattle.goi_words.proofs.Table.{all_ready}

-- a command at a time
pub plain_words_are_taken : PlainWordsAreTaken
plain_words_are_taken = each takes_plain_words commands all_ready
