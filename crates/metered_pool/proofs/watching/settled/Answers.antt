use Rattle.std.proofs.Common.{ap, subst}
use Rattle.progress_meter.specs.Meters.{RisesFromZero}
use Rattle.metered_pool.proofs.Progressing.{tail_rises, tail_within}
use Rattle.metered_pool.proofs.watching.settled.Goals as goal

pub returns-clause-never_down : goal.returns-clause-never_down
returns-clause-never_down g c =
    tail_rises c.args.writer.published c.args.reader.readings c.args.readings.items c.requires.reader.1 c.settle.ensures.readings

pub returns-clause-booked : goal.returns-clause-booked
returns-clause-booked g c =
    let published = c.args.writer.published in
    let rises = subst RisesFromZero (ap (λ p. p.published) c.settle.ensures.settled) c.settle.ensures.faithful.rises in
    tail_within published c.args.reader.readings c.args.readings.items c.requires.reader.1 rises c.settle.ensures.readings
