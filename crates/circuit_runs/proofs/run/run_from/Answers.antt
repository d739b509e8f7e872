use Rattle.std.proofs.Common.{map}
use Rattle.verilog_tree.specs.Views.{item_of}
use Rattle.verilog_run.specs.Held.{held}
use Rattle.circuit_runs.proofs.Edges.{goes_on, none_goes}
use Rattle.circuit_runs.proofs.run.run_from.Goals as goal

pub loop-k-preserved : goal.loop-k-preserved
loop-k-preserved c =
    let old = held c.loop-k.store in
    goes_on (map item_of c.args.items.now) c.loop-k.k old (held c.edge.new.store) c.loop-k.invariant.0 c.loop-k.invariant.1
    (none_goes c.in_ok-told.field-0 old c.in_ok-told.ensures.none c.in-None.is) c.in_ok-edge-in-None.ensures
