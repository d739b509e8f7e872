use Rattle.std.proofs.Common.{length}
use Rattle.joined_data.proofs.figures.+words_read.Given as goal

abbrev pub decreases-words_read : goal.decreases-words_read
decreases-words_read l = length l.list.now
