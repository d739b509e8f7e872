use Rattle.verilog_tree.specs.Names.{text_of}
use Rattle.verilog_run.proofs.Putting.{put_row}
use Rattle.verilog_run.proofs.table.put_in.Goals as goal

pub returns : goal.returns
returns c =
    put_row c.args.table.now.lists.items c.args.k c.index_mut.result.now c.put.new.cells (text_of c.args.name.now) c.args.at
    c.args.number c.requires.there c.requires.own c.index_mut.ensures.value c.in_ok-put.ensures
