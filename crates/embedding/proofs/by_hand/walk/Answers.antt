use Rattle.embedding.proofs.Walking.{idle, spent, taken}
use Rattle.embedding.proofs.by_hand.walk.Goals as goal

pub returns-in-None : goal.returns-in-None
returns-in-None c =
    let at = c.loop-moves in
    taken c.args.net.now at.core at.moves c.come_to.result.answer c.come_to.result.moves c.come_to.ensures.answer c.come_to.ensures.moves
    (idle c.law_maps.ensures.led c.law_progress.ensures.idle c.args.net.now c.requires.sound at.core at.moves at.invariant.0 at.invariant.1
    c.in-None.ensures)

pub returns : goal.returns
returns c =
    let at = c.loop-moves in
    taken c.args.net.now at.core at.moves c.come_to-2.result.answer c.come_to-2.result.moves c.come_to-2.ensures.answer
    c.come_to-2.ensures.moves
    (spent c.args.net.now at.core at.moves at.invariant.0 c.loop-moves-test.false at.invariant.1)
