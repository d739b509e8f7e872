use Rattle.goi_tasks.specs.NetFiles.{FaultyListing}
use Rattle.goi_tasks.proofs.Replayed.{stops_by}
use Rattle.goi_tasks.proofs.Texts.{listed_net, stops_unlisted}
use Rattle.goi_tasks.proofs.net_file.net_of_listing.Goals as goal

pub returns-in_err-program-clause-fault : goal.returns-in_err-program-clause-fault
returns-in_err-program-clause-fault c =
    stops_by c.from_residual.result _ (FaultyListing c.args.bytes.now) c.from_residual.ensures.1
    (stops_unlisted c.args.bytes.now _ c.in_err-program.ensures.answer)

pub returns-clause-net : goal.returns-clause-net
returns-clause-net c =
    let is = c.in_ok-program.ensures.answer in
    listed_net c.law_never_stuck.ensures.runs c.law_tells.ensures.moves c.args.bytes.now c.in_ok-program.program.0
    c.in_ok-program.net is.0.0 is.1
