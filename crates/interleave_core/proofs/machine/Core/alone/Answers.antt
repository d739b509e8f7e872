use Rattle.std.proofs.Common.{◌≤◌, sym, subst}
use Rattle.std.specs.FinMap.{len}
use Rattle.move_rules.specs.Views.{token_of}
use Rattle.interleave_laws.specs.Maps.{MapState}
use Rattle.interleave_core.proofs.Owned.{alone_few}
use Rattle.interleave_core.proofs.machine.Core.alone.Goals as goal

pub invariant_of-result : goal.invariant_of-result
invariant_of-result c =
    subst (λ (S : MapState). len S.tokens ≤ S.next) (sym c.in_ok-parts.ensures) (alone_few (token_of c.args.token))
