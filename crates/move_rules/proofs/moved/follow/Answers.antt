use Rattle.std.proofs.Common.{refl, arith}
use Rattle.move_rules.proofs.Walking.{Walking, begins, goes_on, ends_zero, ends_still, reached_still}
use Rattle.move_rules.proofs.moved.follow.Goals as goal
use Rattle.move_rules.proofs.moved.follow.Goals.{else-loop-left-test, then-loop-left-test+in_ok-seen+in-None}

pub loop-left-init : goal.loop-left-init
loop-left-init c =
    begins c.args.net.now c.args.token.now c.args.token.now c.in_ok-trail.trail.items c.args.most refl c.in_ok-trail.ensures.items

pub loop-left-preserved : goal.loop-left-preserved
loop-left-preserved c =
    goes_on c.args.net.now c.args.token.now c.args.token.now c.loop-left.token c.solo_move.new.token c.loop-left.trail.items
    c.push.new.self.items c.in-Some.seen c.loop-left.left c.args.most
    c.loop-left.invariant (omega arith) (rw c.in-Some.is at c.in_ok-seen.ensures.ok) c.in_ok-push-in-Some.ensures.items

pub returns-clause-reached : goal.returns-clause-reached
returns-clause-reached c =
    let w : Walking c.args.net.now c.args.token.now c.args.token.now c.loop-left.token c.loop-left.trail.items c.loop-left.left
    c.args.most = c.loop-left.invariant in
    elim c.loop-left-test.branch [
      | else-loop-left-test b ↦ rw b.token-is w.passed
      | then-loop-left-test+in_ok-seen+in-None b ↦
          reached_still c.args.net.now c.args.token.now c.args.token.now c.loop-left.token c.loop-left-test.token
          c.loop-left.trail.items c.loop-left.left c.args.most w
          (rw b.token-is (rw b.in-None.is at b.in_ok-seen.ensures.ok))
    ]

pub returns-clause-walked : goal.returns-clause-walked
returns-clause-walked c =
    let w : Walking c.args.net.now c.args.token.now c.args.token.now c.loop-left.token c.loop-left.trail.items c.loop-left.left
    c.args.most = c.loop-left.invariant in
    elim c.loop-left-test.branch [
      | else-loop-left-test b ↦ rw b.token-is
          (ends_zero c.args.net.now c.args.token.now c.args.token.now c.loop-left.token c.loop-left.trail.items c.loop-left.left
          c.args.most w (omega arith))
      | then-loop-left-test+in_ok-seen+in-None b ↦
          ends_still c.args.net.now c.args.token.now c.args.token.now c.loop-left.token c.loop-left-test.token
          c.loop-left.trail.items c.loop-left.left c.args.most w
          (rw b.token-is (rw b.in-None.is at b.in_ok-seen.ensures.ok))
    ]
