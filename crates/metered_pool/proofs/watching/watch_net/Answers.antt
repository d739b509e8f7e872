use Rattle.std.proofs.Common.{length, rules}
use Rattle.metered_pool.proofs.Progressing.{progresses}
use Rattle.metered_pool.proofs.watching.watch_net.Goals as goal

pub returns-clause-progress : goal.returns-clause-progress
returns-clause-progress g c =
    let read = c.in_ok-ended in
    let moves = length read.ended.log.entries in
    progresses moves moves read.readings.items c.push.new.self.items read.ensures.many read.ensures.never_down read.ensures.booked
    (search rules) (search rules)
