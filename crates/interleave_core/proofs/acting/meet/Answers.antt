use Rattle.interleave_core.proofs.Stepping.{join_stands}
use Rattle.interleave_core.proofs.acting.meet.Goals as goal

pub join-requires : goal.join-requires
join-requires c = record {
  stands =
      join_stands c.args.net.now c.args.parts.now.live c.args.parts.now.joins c.args.parts.now.next c.args.parts.now.answer c.args.ticket
      c.requires.able c.args.at c.args.operator c.args.side c.args.v c.args.c c.requires.met;
}
