use Rattle.std.proofs.Common.{subst, arith}
use Rattle.interleave_laws.specs.Tickets.{IsLive}
use Rattle.token_pool.proofs.Branching.{own_few}
use Rattle.token_pool.proofs.branches.stop_of.Goals as goal

pub name_of-requires : goal.name_of-requires
name_of-requires g c =
    let live = subst (λ B. IsLive B c.in-Some.own) c.after.ensures c.in-Some.ensures.0 in
    let few = own_few g.N.OnNet.net c.requires.runs c.args.branch.now c.requires.branch c.in-Some.own live in
    let long = c.len.ensures in
    let short = c.if-len-held.false in
    let room = c.requires.room in
    omega (arith, few, long, short, room)
