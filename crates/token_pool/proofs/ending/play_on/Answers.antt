use Rattle.std.proofs.Common.{ap, arith}
use Rattle.schedule_log.specs.LogsSeen.{LogSeen}
use Rattle.token_pool.proofs.Finishing.{may_step, plays_on}
use Rattle.token_pool.proofs.ending.play_on.Goals as goal

pub step-requires-clause-reached : goal.step-requires-clause-reached
step-requires-clause-reached c =
    may_step c.args.net.now c.requires.runs c.args.core.now c.args.budget c.args.finisher c.args.log.now.entries c.loop-core.log.entries
    c.loop-core.core c.loop-core.invariant.0 c.requires.small
    (let l = c.len.ensures in let t = c.loop-core-test.true in omega (arith, l, t))

pub loop-core-preserved : goal.loop-core-preserved
loop-core-preserved c =
    let log = c.loop-core.log in
    let l = c.len.ensures in
    let t = c.loop-core-test.true in
    let r = c.loop-core.invariant.1 in
    let same = ap (λ (g : LogSeen). g.room) c.push.ensures in (
      plays_on c.args.net.now c.requires.runs c.args.core.now c.args.budget c.args.finisher c.args.log.now.entries log.entries
          c.loop-core.core c.loop-core.invariant.0 c.in-Some.ticket c.step.new.self c.push.new.self.entries
          c.in-Some.ensures c.in_ok-step-in-Some.ensures.steps (omega (arith, l, t)) (ap (λ (g : LogSeen). g.entries) c.push.ensures),
      omega (arith, r, same),
    )
