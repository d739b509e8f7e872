use Rattle.std.proofs.Common.{arith, refl, subst, rules}
use Rattle.std.proofs.lemmas.List.{take_all}
use Rattle.std.proofs.lemmas.List.Elements.{All-more}
use Rattle.std.specs.List.{All}
use Rattle.move_rules.specs.Walks.{Stands}
use Rattle.interleave_core.proofs.adopting.stands.Goals as goal

pub loop-i-preserved : goal.loop-i-preserved
loop-i-preserved c = All-more (Stands c.args.net.now) c.args.trail.now c.loop-i.i _ c.loop-i-test.true c.loop-i.invariant
    (c.is_node.ensures.0 (search rules))

pub returns : goal.returns
returns c = (
  (λ h. subst (All (Stands c.args.net.now)) (take_all c.loop-i.i c.args.trail.now (omega arith)) c.loop-i.invariant),
  λ h. refl,
)
