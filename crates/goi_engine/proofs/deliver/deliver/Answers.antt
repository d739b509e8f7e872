use Rattle.goi_engine.proofs.Writing.{refused_by}
use Rattle.goi_engine.proofs.deliver.deliver.Goals as goal

pub returns-in-BadWords : goal.returns-in-BadWords
returns-in-BadWords g c =
    rw c.in-BadWords.is
    (refused_by g.O.Sink.seen g.O.Sink.writes c.args.out.now g.E.Sink.seen g.E.Sink.writes c.args.err.now _ 2 _ _
    c.tell-in-BadWords.ensures)

pub returns-in-NotRead : goal.returns-in-NotRead
returns-in-NotRead g c =
    rw c.in-NotRead.is
    (refused_by g.O.Sink.seen g.O.Sink.writes c.args.out.now g.E.Sink.seen g.E.Sink.writes c.args.err.now _ 3 _ _ c.tell-in-NotRead.ensures)

pub returns-in-NoMemory : goal.returns-in-NoMemory
returns-in-NoMemory g c =
    rw c.in-NoMemory.is
    (refused_by g.O.Sink.seen g.O.Sink.writes c.args.out.now g.E.Sink.seen g.E.Sink.writes c.args.err.now _ 6 _ _
    c.tell_no_memory.ensures)
