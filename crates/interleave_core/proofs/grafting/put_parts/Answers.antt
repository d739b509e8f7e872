use Rattle.std.proofs.Common.{rules}
use Rattle.interleave_core.proofs.Grafted.{dropped}
use Rattle.interleave_core.proofs.grafting.put_parts.Goals as goal

pub returns-in-Err-clause-tokens_stay : goal.returns-in-Err-clause-tokens_stay
returns-in-Err-clause-tokens_stay c =
    dropped c.args.live.now c.put_new.new.live c.drop_from.new.live c.args.next c.requires.low c.in_ok-put_new.ensures.ok.old
    c.drop_from.ensures.below c.drop_from.ensures.from

pub returns-in-Ok-clause-joined : goal.returns-in-Ok-clause-joined
returns-in-Ok-clause-joined c = search rules
