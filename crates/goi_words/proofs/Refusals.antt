-- Words that are refused whatever follows them.
use Rattle.std.proofs.Common.{refl}
use Rattle.clap.proofs.OnLiterals.{clap_on_literals}
use Rattle.goi_words.specs.Asked.{job}
use Rattle.goi_words.specs.Laws.{HelpIsRefused, NoWordsAreRefused}

-- no words, and the program's name alone
pub no_words_are_refused : NoWordsAreRefused
unfolding job clap_on_literals
no_words_are_refused = (refl, refl)

-- a word for help in the command's place
pub help_is_refused : HelpIsRefused
unfolding job clap_on_literals
help_is_refused program rest = (refl, refl, refl)
