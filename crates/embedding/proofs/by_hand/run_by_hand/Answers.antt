use Rattle.embedding.proofs.Walking.{walks_text}
use Rattle.embedding.proofs.by_hand.run_by_hand.Goals as goal

pub returns-clause-walked : goal.returns-clause-walked
returns-clause-walked c =
    walks_text c.args.bytes.now c.in_ok-net.net c.in_ok-net.ensures.net c.in_ok-walked.field-0.answer
    c.in_ok-walked.field-0.moves c.in_ok-walked.ensures
