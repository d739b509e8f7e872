use Rattle.std.proofs.Common.{refl, arith}
use Rattle.text_lines.proofs.Ends.{not_end}
use Rattle.schedule_log.proofs.Turns.{count_goes, count_fails, count_late}
use Rattle.schedule_log.proofs.count.count_moves.Goals as goal

pub returns-then-more-gt0 : goal.returns-then-more-gt0
returns-then-more-gt0 c =
    count_late c.args.version c.loop-rest.last c.loop-rest.moves c.loop-rest.n _ c.loop-rest.rest.now _ c.cut_line.result.1.now _
    c.cut_line.ensures.first (c.is_end.ensures.0 c.if-is_end.true) c.if-more-gt0.true refl c.loop-rest.invariant.count

pub returns-in-Err : goal.returns-in-Err
returns-in-Err c =
    count_fails c.args.version c.loop-rest.last c.loop-rest.moves c.loop-rest.n c.loop-rest.rest.now _ c.cut_line.result.1.now _ _
    c.cut_line.ensures.first (not_end c.is_end.result _ c.is_end.ensures c.if-is_end.false) c.in-Err.ensures.fault
    c.loop-rest.invariant.count

pub loop-rest-preserved : goal.loop-rest-preserved
loop-rest-preserved c = record {
  few = c.in-Ok.ensures.few;
  line = omega (arith, c.cut_line.ensures.shorter, c.loop-rest.invariant.line);
  count = count_goes c.args.version c.loop-rest.last c.loop-rest.moves c.loop-rest.n _ c.loop-rest.rest.now _ c.cut_line.result.1.now
      (record { ticket = c.in-Ok.run'.ticket; count = c.in-Ok.run'.count }) _ c.cut_line.ensures.first
      (not_end c.is_end.result _ c.is_end.ensures c.if-is_end.false) c.in-Ok.ensures.run refl c.loop-rest.invariant.count;
}
