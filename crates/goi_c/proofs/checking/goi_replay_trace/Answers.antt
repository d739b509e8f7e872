use Rattle.std.proofs.Common.{Some, arith}
use Rattle.goi_c.specs.Calls.{part}
use Rattle.goi_c.proofs.Called.{called}
use Rattle.goi_c.proofs.Owned.{owned}
use Rattle.goi_c.proofs.Walked.{walks_settle}
use Rattle.goi_c.proofs.checking.goi_replay_trace.Goals as goal

pub returns-clause-calls : goal.returns-clause-calls
returns-clause-calls c =
    let h = c.replay_walk-walked in
    record {
      right = λ asked. called _ _ h.result _ h.ensures.report h.ensures.fault c.give_result.ensures;
      wrong = λ n.
          absurd (n (
            omega (arith, c.if-from-gt-SCHEDULE_MOVES.false),
            (omega (arith, c.if-most-lt1.false), omega (arith, c.if-most-gt-TRACED_MOVES.false)),
          ));
    }

pub returns-clause-own : goal.returns-clause-own
returns-clause-own c = λ asked.
    let h = c.replay_walk-walked in
    let text = c.args.text.now in
    let schedule = c.args.schedule.now in
    owned _ _ _ (walks_settle text schedule (Some (part c.args.from c.args.most)) _ _ (c.law_tasks_settled.ensures.replays text schedule)) _
    (called _ _ h.result _ h.ensures.report h.ensures.fault c.give_result.ensures)
