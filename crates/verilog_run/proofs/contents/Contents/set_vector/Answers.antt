use Rattle.verilog_tree.specs.Names.{text_of}
use Rattle.verilog_run.specs.Entries.{rows}
use Rattle.verilog_run.proofs.Putting.{vector_put}
use Rattle.verilog_run.proofs.contents.Contents.set_vector.Goals as goal

pub returns : goal.returns
returns c = vector_put _ _ (rows c.args.self.now.words) (text_of c.args.name.now) c.args.number c.in_ok-put_at.ensures
