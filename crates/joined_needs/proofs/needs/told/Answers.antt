use Rattle.joined_needs.proofs.Counting.{told_of}
use Rattle.joined_needs.proofs.needs.told.Goals as goal

pub returns : goal.returns
returns c = λ ps T k h.
    told_of ps T c.args.budget c.args.counting.now c.ending_of.result c.moves_within.result k c.moves_within.ensures
    (c.ending_of.ensures c.args.counting.now.cycles h)
