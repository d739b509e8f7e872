use Rattle.interleave_core.proofs.Adopted.{adopted_counts, adopted_moves}
use Rattle.interleave_core.proofs.machine.Core.adopt.Goals as goal

pub invariant_of-self : goal.invariant_of-self
invariant_of-self c =
    let p = c.self.inside.parts in
    let e = c.adopt_in.ensures in
    adopted_counts c.args.net.now p.live c.adopt_in.new.live p.joins p.next p.answer c.args.ticket c.args.moved c.args.most
    c.adopt_in.result e.accepted e.after e.stays c.self.invariant

pub returns-clause-steps : goal.returns-clause-steps
returns-clause-steps c =
    let p = c.self.inside.parts in
    let e = c.adopt_in.ensures in
    adopted_moves c.args.net.now p.live c.adopt_in.new.live p.joins p.next p.answer c.args.ticket c.args.moved c.args.most c.requires.sound
    c.args.self.now c.self.view_is c.adopt_in.result e.accepted e.reached e.count e.after
