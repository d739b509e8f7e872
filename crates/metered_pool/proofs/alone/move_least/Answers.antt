use Rattle.std.proofs.Common.{ap, arith}
use Rattle.schedule_log.specs.LogsSeen.{LogSeen}
use Rattle.metered_pool.proofs.Walking.{after_walk, one_more, walk_reached}
use Rattle.metered_pool.proofs.alone.move_least.Goals as goal

pub step-requires-clause-live : goal.step-requires-clause-live
step-requires-clause-live c =
    let after =
    after_walk c.args.net.now c.requires.runs c.args.log.now.entries c.push_many.new.self.entries c.args.core.now c.walk.new.self
    c.args.ticket _ c.in_ok-made.made c.requires.walked c.requires.least c.in_ok-made.ensures
    (ap (λ (l : LogSeen). l.entries) c.push_many.ensures) in
    after.least.0

pub step-requires-clause-reached : goal.step-requires-clause-reached
step-requires-clause-reached c =
    let after =
    after_walk c.args.net.now c.requires.runs c.args.log.now.entries c.push_many.new.self.entries c.args.core.now c.walk.new.self
    c.args.ticket _ c.in_ok-made.made c.requires.walked c.requires.least c.in_ok-made.ensures
    (ap (λ (l : LogSeen). l.entries) c.push_many.ensures) in
    let k = after.long in
    let l = c.len.ensures in
    let f = c.if-made-left.true in
    let small = c.requires.small in
    walk_reached c.args.net.now c.push_many.new.self.entries c.walk.new.self after.walked (omega (arith, k, l, f, small))

pub returns-in_ok-step-clause-walked : goal.returns-in_ok-step-clause-walked
returns-in_ok-step-clause-walked c =
    let after =
    after_walk c.args.net.now c.requires.runs c.args.log.now.entries c.push_many.new.self.entries c.args.core.now c.walk.new.self
    c.args.ticket _ c.in_ok-made.made c.requires.walked c.requires.least c.in_ok-made.ensures
    (ap (λ (l : LogSeen). l.entries) c.push_many.ensures) in
    one_more c.args.net.now c.push_many.new.self.entries c.walk.new.self after.walked c.requires.runs c.args.ticket c.step.new.self
    c.push.new.self.entries after.least c.in_ok-step.ensures.steps (ap (λ (l : LogSeen). l.entries) c.push.ensures)

pub returns-else-made-left-clause-walked : goal.returns-else-made-left-clause-walked
returns-else-made-left-clause-walked c =
    let after =
    after_walk c.args.net.now c.requires.runs c.args.log.now.entries c.push_many.new.self.entries c.args.core.now c.walk.new.self
    c.args.ticket _ c.in_ok-made.made c.requires.walked c.requires.least c.in_ok-made.ensures
    (ap (λ (l : LogSeen). l.entries) c.push_many.ensures) in
    after.walked
