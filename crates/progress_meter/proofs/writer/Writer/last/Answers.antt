use Rattle.std.proofs.Common.{subst}
use Rattle.progress_meter.specs.Meters.{Faithful}
use Rattle.progress_meter.proofs.writer.Writer.last.Goals as goal

pub returns-clause-faithful : goal.returns-clause-faithful
returns-clause-faithful c =
    let kept = c.self.invariant.1 in
    subst Faithful c.self.view_is (record { rises = kept.rises; settled = kept.settled })
