use Rattle.std.proofs.Common.{[], ◌∷◌, ◌++◌, None, ap, ◌∙◌}
use Rattle.std.proofs.lemmas.List.{replicate_more}
use Rattle.batch_pool.proofs.apart.no_ends.Goals as goal

pub loop-job-preserved : goal.loop-job-preserved
loop-job-preserved c =
    c.in_ok-push.ensures.items ∙ ap (λ places. places ++ None ∷ []) c.loop-job.invariant ∙ replicate_more c.loop-job._job-index None
