use Rattle.verilog_tree.specs.Names.{text_of}
use Rattle.verilog_run.specs.Entries.{rows}
use Rattle.verilog_run.proofs.Noting.{put_told}
use Rattle.verilog_run.proofs.scene.note.Goals as goal

pub returns : goal.returns
returns c = put_told _ (rows c.args.table.now) (text_of c.args.name.now) c.args.number c.in_ok-put_at.ensures
