-- The runs of a batch: one for each job, in turn, and each is a run of that job's net within that job's budget alone.
-- Which other jobs there are is nowhere in what is said of a job's run.
use Rattle.std.specs.Prelude.{◌≡◌, ℕ, List, [], ◌∷◌}
use Rattle.token_pool.specs.declared.ending.Ended.{Ended}
use Rattle.net_runs.specs.IsRun.{IsRun, IsFirstWorkers}
use Rattle.batch_pool.specs.declared.job.BatchJob.{BatchJob}

-- what was run is this job by so many workers, and one worker alone books all moves under its own number
pub record IsRunOf (job : BatchJob) (workers : ℕ) (e : Ended) : Type 0 where
  pub run : IsRun job.net workers job.budget e.answer e.log.entries
  pub alone : workers ≡ 1 → IsFirstWorkers job.net job.budget e.log.entries

-- each job has its run, in turn
abbrev pub AreRuns : List BatchJob → ℕ → List Ended → Type 0
AreRuns [] workers [] = Unit {0}
AreRuns [] workers (e ∷ ends) = ⊥
AreRuns (job ∷ jobs) workers [] = ⊥
AreRuns (job ∷ jobs) workers (e ∷ ends) = IsRunOf job workers e × AreRuns jobs workers ends
