-- What is made of a batch when its workers are gone: one end for each job, as by that job's own pool alone.
-- The jobs and the number of workers are told once more, and each pool goes on only where it is one of its job; a job without a pool is
-- run from its start. So each end is one of its own job, whatever batch came back.
use Rattle.std.specs.Prelude.{ℕ, List, [], ◌∷◌, Option, Some, None}
use Rattle.token_pool.specs.Pools.{Pool}
use Rattle.token_pool.specs.declared.ending.Ended.{Ended}
use Rattle.token_pool.specs.Ending.{Suits, Finishes, Replays}
use Rattle.batch_pool.specs.declared.job.BatchJob.{BatchJob}
use Rattle.batch_pool.specs.Batches.{job_started}

-- the job's end from this pool
pub record EndsFrom (p : Pool) (job : BatchJob) (workers : ℕ) (e : Ended) : Type 0 where
  -- the pool goes on where it is one of this job and so many workers
  pub same : Suits p job.net job.budget workers → Finishes p e
  -- and any other is put aside for a new one
  pub other : (Suits p job.net job.budget workers → ⊥) → Finishes (job_started workers job) e

-- the job's end, from this pool if there is one, and else from its start
abbrev pub EndsAs : Option Pool → BatchJob → ℕ → Ended → Type 0
EndsAs None job workers e = Finishes (job_started workers job) e
EndsAs (Some p) job workers e = EndsFrom p job workers e

-- the first of a list, if there is one
abbrev pub first_of : {A : Type 0} → List A → Option A
first_of [] = None
first_of (x ∷ xs) = Some x

-- those behind it
abbrev pub behind_first : {A : Type 0} → List A → List A
behind_first [] = []
behind_first (x ∷ xs) = xs

-- each job has its end, in turn, and each end replays on its job's net
abbrev pub EndsEach : List Pool → List BatchJob → ℕ → List Ended → Type 0
EndsEach pools [] workers [] = Unit {0}
EndsEach pools [] workers (e ∷ ends) = ⊥
EndsEach pools (job ∷ jobs) workers [] = ⊥
EndsEach pools (job ∷ jobs) workers (e ∷ ends) =
    EndsAs (first_of pools) job workers e × Replays job.net job.budget workers e × EndsEach (behind_first pools) jobs workers ends
