use Rattle.interleave_core.proofs.Stepping.{last_steps, last_name}
use Rattle.interleave_core.proofs.acting.end.Goals as goal

pub returns-clause-name : goal.returns-clause-name
returns-clause-name c =
    let p = c.args.parts.now in
    last_name c.args.net.now p.live p.joins p.next p.answer c.args.ticket c.args.at c.args.v c.requires.met

pub returns-clause-steps : goal.returns-clause-steps
returns-clause-steps c =
    let p = c.args.parts.now in
    last_steps c.args.net.now p.live p.joins p.next p.answer c.args.ticket c.args.at c.args.v c.take.new.self c.requires.met
    c.take.ensures.rest
