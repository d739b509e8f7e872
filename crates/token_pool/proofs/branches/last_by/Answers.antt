use Rattle.std.proofs.Common.{true, false, length, Some, refl, sym, ap, ◌∙◌, arith}
use Rattle.std.proofs.lemmas.Bool.{eq-eqb, ne_eqb}
use Rattle.token_pool.proofs.Own.{told_last}
use Rattle.token_pool.proofs.branches.last_by.Goals as goal

pub returns-then-worker : goal.returns-then-worker
returns-then-worker c =
    ap Some c.ticket.ensures ∙
    told_last c.args.worker (length c.runs-runs.result.now) c.runs-runs.result.now c.args.log.now.entries _ c.index-runs-count.result true
    c.runs-runs.ensures.each c.runs-runs.ensures.value refl (omega (arith, c.if-count-eq0.false)) c.index-runs-count.is
    (eq-eqb c.index-runs-count.result.worker c.args.worker (sym c.worker.ensures.value ∙ c.if-worker.true))

pub returns-else-worker : goal.returns-else-worker
returns-else-worker c =
    told_last c.args.worker (length c.runs-runs.result.now) c.runs-runs.result.now c.args.log.now.entries _ c.index-runs-count.result false
    c.runs-runs.ensures.each c.runs-runs.ensures.value refl (omega (arith, c.if-count-eq0.false)) c.index-runs-count.is
    (ne_eqb c.index-runs-count.result.worker c.args.worker (λ e. c.if-worker.false (c.worker.ensures.value ∙ e)))
