use Rattle.std.proofs.Common.{◌≡◌, ◌∙◌, suc, map, ap, arith}
use Rattle.verilog_tree.specs.Views.{item_of}
use Rattle.verilog_run.specs.Held.{held}
use Rattle.verilog_waves.specs.Course.{before, behind}
use Rattle.verilog_waves.specs.Views.{shown_of}
use Rattle.verilog_waves.proofs.Going.{behind_later}
use Rattle.verilog_waves.proofs.Vectors.{edge_told}
use Rattle.verilog_waves.proofs.waves.push_made.Goals as goal

pub returns-then-k-gt0 : goal.returns-then-k-gt0
returns-then-k-gt0 c =
    let is = map item_of c.args.items.now in
    let k = c.args.k in
    let S = held c.args.store.now in
    edge_told c.push_edge.result (map shown_of c.args.names.now) k (held c.args.found.now) (before is k) S (behind is k) S
    (before is (suc k)) c.args.text.now.items c.push_edge.new.text.items c.push_edge.ensures c.requires.found
    (c.requires.state ∙ behind_later is k (omega arith)) c.requires.state

pub returns : goal.returns
returns c =
    let is = map item_of c.args.items.now in
    let k = c.args.k in
    let z : 0 ≡ k = omega arith in
    edge_told c.push_edge-2.result (map shown_of c.args.names.now) k (held c.args.found.now) (before is k) (held c.in_ok-up.up)
    (behind is k) (held c.args.store.now) (before is (suc k)) c.args.text.now.items c.push_edge-2.new.text.items c.push_edge-2.ensures
    c.requires.found (c.in_ok-up.ensures ∙ ap (behind is) z) c.requires.state
