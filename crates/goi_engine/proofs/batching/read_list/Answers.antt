use Rattle.goi_engine.proofs.Lists.{lines_fit, list_stopped}
use Rattle.goi_engine.proofs.batching.read_list.Goals as goal

pub returns-in-Ok-clause-fit : goal.returns-in-Ok-clause-fit
returns-in-Ok-clause-fit c = lines_fit c.args.bytes.now c.in-Ok.lines.items c.in-Ok.ensures

pub returns-in-Err-clause-none : goal.returns-in-Err-clause-none
returns-in-Err-clause-none c =
    list_stopped c.args.bytes.now c.in-Err.fault c.stop_of.result c.stopped.result c.in-Err.ensures c.stop_of.ensures c.stopped.ensures
