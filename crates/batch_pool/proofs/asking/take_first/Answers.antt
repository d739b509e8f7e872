use Rattle.std.proofs.Common.{◌≡◌, ◌≤◌, ◌∙◌, length, rules}
use Rattle.batch_pool.specs.Asking.{HasTicket}
use Rattle.batch_pool.proofs.Asked.{on_err, comes_first, gives_first, comes_waiting, comes_over, ends_over, ends_waiting, ticket_there}
use Rattle.batch_pool.proofs.Asked.{serving_there, passed_stay}
use Rattle.batch_pool.proofs.Counts.{counted_same}
use Rattle.batch_pool.proofs.asking.take_first.Goals as goal
use Rattle.batch_pool.proofs.asking.take_first.Goals.{in-Waits, in-Over, then-over, else-over}

pub loop-job-init : goal.loop-job-init
loop-job-init c =
    comes_first c.args.pools.now.items c.args.worker c.args.passed.now c.args.spare.now c.requires.serving c.requires.free
    c.requires.counted

pub ask_next-requires-clause-serving : goal.ask_next-requires-clause-serving
ask_next-requires-clause-serving c =
    serving_there c.args.pools.now.items c.loop-job.pools.items c.args.worker c.loop-job.invariant.same c.requires.serving

pub ask_next-requires-clause-spared : goal.ask_next-requires-clause-spared
ask_next-requires-clause-spared c = c.loop-job.invariant.counted.spared

pub returns-in_err-piece-clause-err : goal.returns-in_err-piece-clause-err
returns-in_err-piece-clause-err c =
    on_err c.from_residual.result (c.ask_next.new.pools.items ≡ c.args.pools.now.items)
    (c.in_err-piece.ensures.err ∙ c.loop-job.invariant.same)

pub returns-in_err-piece-clause-counted : goal.returns-in_err-piece-clause-counted
returns-in_err-piece-clause-counted c =
    counted_same c.loop-job.pools.items c.ask_next.new.pools.items c.loop-job.passed c.loop-job.spare c.ask_next.new.spare
    c.loop-job.invariant.counted c.in_err-piece.ensures.err c.in_err-piece.ensures.spared

pub returns-in-Token-clause-counted : goal.returns-in-Token-clause-counted
returns-in-Token-clause-counted c = record {
  over = passed_stay c.args.pools.now.items c.loop-job.pools.items c.args.worker c.loop-job.job c.loop-job.over c.loop-job.passed
      c.loop-job.spare c.loop-job.invariant c.in_ok-piece.field-0 c.ask_next.new.pools.items c.in_ok-piece.ensures.ok;
  spared = c.in_ok-piece.ensures.spared;
}

pub returns-clause-counted : goal.returns-clause-counted
returns-clause-counted c = c.loop-job.invariant.counted

pub returns-in_err-piece-clause-ample : goal.returns-in_err-piece-clause-ample
returns-in_err-piece-clause-ample c =
    on_err c.from_residual.result (HasTicket c.args.pools.now.items c.args.worker)
    (ticket_there c.args.pools.now.items c.loop-job.pools.items c.args.worker c.loop-job.invariant.same c.in_err-piece.ensures.ample)

pub returns-in-Token-clause-ok : goal.returns-in-Token-clause-ok
returns-in-Token-clause-ok c =
    gives_first c.args.pools.now.items c.loop-job.pools.items c.args.worker c.loop-job.job c.loop-job.over c.loop-job.passed
    c.loop-job.spare c.loop-job.invariant c.in_ok-piece.field-0 c.in-Token.piece c.ask_next.new.pools.items c.in-Token.is
    c.in_ok-piece.ensures.ok

pub loop-job-preserved : goal.loop-job-preserved
loop-job-preserved c = elim c.match-branch-2.branch [
  | in-Waits w ↦ comes_waiting c.args.pools.now.items c.loop-job.pools.items c.args.worker c.loop-job.job c.loop-job.over
      c.loop-job.passed c.loop-job.spare c.loop-job.invariant c.requires.serving c.requires.free c.in_ok-piece.field-0
      c.ask_next.new.pools.items c.match-branch-2.over c.match-branch-2.passed c.ask_next.new.spare w.in-Waits.is w.over-is w.passed-is
      c.in_ok-piece.ensures.spared c.in_ok-piece.ensures.ok
  | in-Over w ↦ comes_over c.args.pools.now.items c.loop-job.pools.items c.args.worker c.loop-job.job c.loop-job.over
      c.loop-job.passed c.loop-job.spare c.loop-job.invariant c.requires.serving c.requires.free c.in_ok-piece.field-0
      c.ask_next.new.pools.items c.match-branch-2.over c.match-branch-2.passed c.ask_next.new.spare w.in-Over.is w.over-is
      (w.passed-is ∙ w.pass.ensures) c.in_ok-piece.ensures.spared c.in_ok-piece.ensures.ok
]

pub returns-clause-ok : goal.returns-clause-ok
returns-clause-ok c =
    let l : length c.args.pools.now.items ≤ c.loop-job.job = search rules in
    elim c.if-over.branch [
      | then-over w ↦ ends_over c.args.pools.now.items c.loop-job.pools.items c.args.worker c.loop-job.job c.loop-job.over
          c.loop-job.passed c.loop-job.spare c.if-over.result c.loop-job.invariant l w.if-over.true w.result-is
      | else-over w ↦ ends_waiting c.args.pools.now.items c.loop-job.pools.items c.args.worker c.loop-job.job c.loop-job.over
          c.loop-job.passed c.loop-job.spare c.if-over.result c.loop-job.invariant l w.if-over.false w.result-is
    ]
