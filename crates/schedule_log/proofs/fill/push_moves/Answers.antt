use Rattle.std.proofs.Common.{refl, arith}
use Rattle.text_lines.proofs.Ends.{not_end}
use Rattle.schedule_log.proofs.Filling.{filled, fault_leaves, run_left, fills_turn}
use Rattle.schedule_log.proofs.fill.push_moves.Goals as goal

pub returns-in-Err-clause-entries : goal.returns-in-Err-clause-entries
returns-in-Err-clause-entries c =
    filled c.loop-rest.log c.loop-rest.moves c.args.log.now.room _ _
    (fault_leaves c.args.version c.loop-rest.last c.loop-rest.moves c.loop-rest.n c.loop-rest.rest.now _ c.cut_line.result.1.now
    c.in-Err._fault c.cut_line.ensures.first (not_end c.is_end.result _ c.is_end.ensures c.if-is_end.false) c.in-Err.ensures.fault)
    c.loop-rest.invariant.fills

pub push_many-requires : goal.push_many-requires
push_many-requires c = record {
  worker = omega arith;
  room = (fills_turn c.loop-rest.log c.loop-rest.moves c.args.log.now.room _ _ _ _
      (run_left c.args.version c.loop-rest.last c.loop-rest.moves c.loop-rest.n _ c.loop-rest.rest.now _ c.cut_line.result.1.now _
      c.cut_line.ensures.first (not_end c.is_end.result _ c.is_end.ensures c.if-is_end.false) c.in-Ok.ensures.run refl)
      c.loop-rest.invariant.fills).room_left;
}

pub loop-rest-preserved : goal.loop-rest-preserved
loop-rest-preserved c = record {
  few = c.in-Ok.ensures.few;
  line = omega (arith, c.cut_line.ensures.shorter, c.loop-rest.invariant.line);
  fills = (fills_turn c.loop-rest.log c.loop-rest.moves c.args.log.now.room _ _ _ _
      (run_left c.args.version c.loop-rest.last c.loop-rest.moves c.loop-rest.n _ c.loop-rest.rest.now _ c.cut_line.result.1.now _
      c.cut_line.ensures.first (not_end c.is_end.result _ c.is_end.ensures c.if-is_end.false) c.in-Ok.ensures.run refl)
      c.loop-rest.invariant.fills).goes_on c.push_many.new.self c.push_many.ensures;
}
