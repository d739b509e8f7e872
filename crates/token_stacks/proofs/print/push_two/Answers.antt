use Rattle.std.proofs.Common.{refl}
use Rattle.token_stacks.proofs.Said.{if_map, writes_as, halves}
use Rattle.token_stacks.proofs.print.push_two.Goals as goal

pub returns : goal.returns
returns c s u e =
    let h = halves c.args.rest.now s u e c.split_at.result.0.now c.split_at.result.1.now c.split_at.ensures.front c.split_at.ensures.back in
    if_map c.push_both.result (λ z. writes_as _ _ _ _ refl h.few) (c.push_both.ensures s u h.front h.back)
