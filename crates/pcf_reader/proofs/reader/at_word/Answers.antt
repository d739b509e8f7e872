use Rattle.std.proofs.Common.{refl}
use Rattle.pcf_reader.proofs.Taking.{reads_on, word_list, word_proper, proper_from}
use Rattle.pcf_reader.proofs.reader.at_word.Goals as goal

pub returns-clause-goes : goal.returns-clause-goes
returns-clause-goes c =
    reads_on _ _ _ c.reader_of.ensures
    (word_list _ _ _ c.args.at c.split_word.result.0.now _ (c.split_word.ensures.lexed c.args.at c.args.at) c.keyword.ensures refl)
    (proper_from _ _ c.keyword.ensures (word_proper c.split_word.result.0.now))
