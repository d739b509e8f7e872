use Rattle.std.proofs.Common.{refl, arith}
use Rattle.verilog_tree.specs.Meaning.{param_in}
use Rattle.verilog_tree.specs.Views.{item_of}
use Rattle.verilog_run.specs.Entries.{rows}
use Rattle.verilog_run.proofs.Noting.{begins, goes_on, ends}
use Rattle.verilog_run.proofs.scene.note_params.Goals as goal

pub loop-i-init : goal.loop-i-init
loop-i-init c = (omega arith, begins item_of param_in (rows c.args.table.now) c.args.items.now c.requires (λ x. refl))

pub loop-i-preserved : goal.loop-i-preserved
loop-i-preserved c = (
  omega arith,
  goes_on item_of param_in (rows c.loop-i.table) _ c.args.items.now c.loop-i.i c.index-items-i.result (omega arith)
      c.loop-i.invariant.0 c.index-items-i.is c.in_ok-note_param.ensures c.loop-i.invariant.1,
)

pub returns : goal.returns
returns c = ends item_of param_in (rows c.loop-i.table) c.args.items.now c.loop-i.i (omega arith) c.loop-i.invariant.1
