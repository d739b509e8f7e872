use Rattle.std.proofs.Common.{map, ap, ◌∙◌}
use Rattle.verilog_tree.specs.Meaning.{edge_in}
use Rattle.verilog_tree.specs.Views.{item_of}
use Rattle.verilog_run.specs.Held.{held}
use Rattle.verilog_run.specs.Writes.{after_all}
use Rattle.verilog_run.proofs.edges.settled_edge.Goals as goal

pub returns : goal.returns
returns c =
    c.in_ok-write_all.ensures ∙ ap (λ ws. after_all ws (held c.args.store.now)) c.deref.ensures.value ∙ c.in_ok-writes.ensures
    ∙ ap (λ P. edge_in P (map item_of c.args.items.now) (held c.args.store.now)) c.requires
