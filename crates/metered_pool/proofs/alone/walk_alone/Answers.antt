use Rattle.metered_pool.proofs.Walking.{all_walked, walked_run}
use Rattle.metered_pool.proofs.alone.walk_alone.Goals as goal

pub returns : goal.returns
returns g c =
    let net = c.args.net.now in
    let log = c.walk-walked.new.log.entries in
    let S = c.walk-walked.new.core in
    let walked = c.in_ok-walked.ensures in
    let runs = c.requires.runs in (
      walked_run net log S walked.walked runs c.args.budget walked.within walked.over c.law_one_worker.ensures.finished
          c.law_maps.ensures.led c.answer-answer.result c.answer-answer.ensures,
      all_walked net log S walked.walked runs c.args.budget walked.within walked.over,
      walked.level,
      walked.meter,
    )
