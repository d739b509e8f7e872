use Rattle.std.proofs.Common.{length, inr}
use Rattle.text_lines.proofs.Ends.{not_end}
use Rattle.batch_lists.proofs.ListRead.{ends_early, ends_late, line_fault, reads_more}
use Rattle.batch_lists.proofs.list.+read_rest.Goals as goal

pub returns-then-bytes-eq0 : goal.returns-then-bytes-eq0
returns-then-bytes-eq0 t c = inr (ends_early (length c.args.jobs.now.items) c.args.n c.args.bytes.now c.requires.few c.if-bytes-eq0.true)

pub returns-then-more-gt0 : goal.returns-then-more-gt0
returns-then-more-gt0 t c =
    inr (ends_late (length c.args.jobs.now.items) c.args.n c.args.bytes.now c.cut_line.result.0.now c.cut_line.result.1.now c.requires.few
    c.cut_line.ensures.first (c.is_end.ensures.0 c.if-is_end.true) c.if-more-gt0.true)

pub returns-in-Ok : goal.returns-in-Ok
returns-in-Ok t c =
    reads_more c.args.bytes.now c.cut_line.result.0.now c.cut_line.result.1.now c.args.n c.args.jobs.now.items c.read_job.new.jobs.items
    c.read_rest.new.jobs.items c.read_rest.result c.cut_line.ensures.first c.in-Ok.ensures c.read_rest.ensures

pub returns-in-Err : goal.returns-in-Err
returns-in-Err t c =
    line_fault (length c.args.jobs.now.items) c.args.n c.args.bytes.now c.cut_line.result.0.now c.cut_line.result.1.now c.in-Err.fault
    c.requires.few c.cut_line.ensures.first (not_end c.is_end.result c.cut_line.result.0.now c.is_end.ensures c.if-is_end.false)
    c.in-Err.ensures
