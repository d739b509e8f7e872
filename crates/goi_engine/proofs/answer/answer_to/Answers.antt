use Rattle.std.proofs.Common.{map, string_bytes, sym, subst}
use Rattle.goi_words.specs.Asked.{job}
use Rattle.goi_engine.proofs.Answered.{nothing_read}
use Rattle.goi_engine.proofs.answer.answer_to.Goals as goal

pub returns-in-Err-NoMemory-clause-reads : goal.returns-in-Err-NoMemory-clause-reads
returns-in-Err-NoMemory-clause-reads g c = λ told fits.
    nothing_read g.F.Files.reads told (job (map string_bytes c.args.words.now)) c.args.files.now
