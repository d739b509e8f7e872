use Rattle.std.proofs.Common.{refl}
use Rattle.verilog_tree.specs.Names.{text_of}
use Rattle.verilog_run.proofs.Putting.{put_cell}
use Rattle.verilog_run.proofs.cells.put.Goals as goal

pub returns-in_ok-put_number-in-Some : goal.returns-in_ok-put_number-in-Some
returns-in_ok-put_number-in-Some c =
    put_cell c.args.cells.now.items c.deref.result.now c.in-Some.k c.index_mut.result.now _ (text_of c.args.name.now) c.args.at
    c.args.number c.deref.ensures.value c.in-Some.ensures.within c.index_mut.ensures.value refl c.in-Some.ensures.some
    c.in_ok-put_number-in-Some.ensures
