-- How the jobs are run where each is one worker's, for the contracts of the calls inside.
-- A run by one worker alone is pinned to the last move: its moves are the one worker's, and each is booked under that worker's number.
use Rattle.std.specs.Prelude.{◌≡◌, ◌<◌, ◌≤◌, ℕ, List, [], ◌∷◌, length, set, Option, Some, None, slice_get}
use Rattle.interleave_laws.specs.OneWorker.{one}
use Rattle.schedule_log.specs.Logs.{by}
use Rattle.token_pool.specs.declared.ending.Ended.{Ended}
use Rattle.net_runs.specs.IsRun.{IsRun}
use Rattle.batch_pool.specs.declared.job.BatchJob.{BatchJob}
use Rattle.batch_pool.specs.declared.apart.RanJob.{RanJob}
use Rattle.batch_pool.specs.Ending.{first_of, behind_first}

-- worker w alone ran this job to this end, which is a run of every number of workers of whom it is one
pub record IsRunBy (w : ℕ) (job : BatchJob) (e : Ended) : Type 0 where
  pub run : (workers : ℕ) → w < workers → IsRun job.net workers job.budget e.answer e.log.entries
  pub log : e.log.entries ≡ by w (one job.net job.budget)

-- worker w alone ran the job of that number
pub record IsRanBy (jobs : List BatchJob) (w : ℕ) (r : RanJob) : Type 0 where
  pub job : BatchJob
  pub there : slice_get jobs r.job ≡ Some job
  pub run : IsRunBy w job r.end

-- and w is one of the workers from the one number to below the other
pub record IsRanIn (jobs : List BatchJob) (from to : ℕ) (r : RanJob) : Type 0 where
  pub worker : ℕ
  pub first : from ≤ worker
  pub last : worker < to
  pub run : IsRanBy jobs worker r

-- what worker w brings for job n: its run, or nothing where there is no such job
abbrev pub Brings : List BatchJob → ℕ → ℕ → Option RanJob → Type 0
Brings jobs w n None = length jobs ≤ n
Brings jobs w n (Some r) = (r.job ≡ n) × IsRanBy jobs w r

-- the places with these ends in those of their jobs, the first of several ends of a job
abbrev pub with_ends : List RanJob → List (Option Ended) → List (Option Ended)
with_ends [] places = places
with_ends (r ∷ rans) places = set (with_ends rans places) r.job (Some r.end)

-- the end of a job is the one in its place, if there is one, and else that of its run by worker 0
abbrev pub EndsBy : Option (Option Ended) → BatchJob → Ended → Type 0
EndsBy (Some (Some f)) job e = e ≡ f
EndsBy (Some None) job e = IsRunBy 0 job e
EndsBy None job e = IsRunBy 0 job e

-- each job has its end, in turn
abbrev pub EndsEachBy : List (Option Ended) → List BatchJob → List Ended → Type 0
EndsEachBy places [] [] = Unit {0}
EndsEachBy places [] (e ∷ ends) = ⊥
EndsEachBy places (job ∷ jobs) [] = ⊥
EndsEachBy places (job ∷ jobs) (e ∷ ends) = EndsBy (first_of places) job e × EndsEachBy (behind_first places) jobs ends
