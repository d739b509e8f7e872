use Rattle.std.proofs.Common.{◌-◌, reverse, take, Some, sym, ap, ◌∙◌, arith}
use Rattle.net_marks.specs.Passing.{rest, pass}
use Rattle.net_marks.proofs.Walking.{comes, passed_on, stays}
use Rattle.net_marks.proofs.walk.pass.Goals as goal

pub loop-walk-preserved : goal.loop-walk-preserved
loop-walk-preserved c =
    let ns = c.args.net.now.nodes in
    let k = c.loop-walk.walk.left in
    let here = comes ns k (Some c.in-Some.node) (omega (arith, c.loop-walk-test.true)) c.loop-walk.invariant.0 c.in-Some.ensures in
    let outer = c.in-Some-pass_one.around in
    let inner = c.in-Some-pass_one.place in
    let want = c.in-Some-pass_one.want in
    let new = c.pass_one.new.walk.marks.items in (
      omega (arith, c.pass_one.ensures.left, c.loop-walk.invariant.0),
      ap (λ k. pass outer inner want (reverse (take (k - 1) ns)) new) c.pass_one.ensures.left
          ∙ passed_on c.loop-walk.outer c.loop-walk.inner c.loop-walk.next (outer, inner, want) c.in-Some.node (reverse (take k ns))
          (reverse (take (k - 1) ns)) c.loop-walk.walk.marks.items new here c.in-Some-pass_one.ensures.passed
          ∙ c.loop-walk.invariant.1,
    )

pub returns-in-None-clause-passed : goal.returns-in-None-clause-passed
returns-in-None-clause-passed c =
    let ns = c.args.net.now.nodes in
    let k = c.loop-walk.walk.left in
    let here = comes ns k (Some c.in-Some.node) (omega (arith, c.loop-walk-test.true)) c.loop-walk.invariant.0 c.in-Some.ensures in
    let new = c.pass_one.new.walk.marks.items in
    sym c.loop-walk.invariant.1
    ∙ stays c.loop-walk.outer c.loop-walk.inner c.loop-walk.next c.in-Some.node (reverse (take k ns)) (reverse (take (k - 1) ns))
    c.loop-walk.walk.marks.items new here c.in-None.ensures.passed
    ∙ ap (λ k. rest c.loop-walk.inner c.loop-walk.next (reverse (take k ns)) new) (sym c.pass_one.ensures.left)
