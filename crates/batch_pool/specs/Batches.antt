-- A batch: several jobs behind one lock, and what is true of it whenever nobody is inside a call.
-- Jobs are numbered from 0. Each has a pool of its own, with its own net, budget, log and state, and nothing in one pool is ever of
-- another. All that the jobs share are the workers: each has its place in every pool, and holds a ticket in one of them at most. Whether
-- the batch was stopped is told by a flag of its own; the flags of the pools are never set.
use Rattle.std.specs.Prelude.{◌≡◌, ◌≤◌, ℕ, Bool, true, false, List, length, map, Some, slice_get}
use Rattle.std.specs.List.{All}
use Rattle.pcf_values.specs.Most.{most_workers}
use Rattle.interleave_laws.specs.Runs.{Runs}
use Rattle.token_pool.specs.declared.entries.Held.{Held}
use Rattle.token_pool.specs.Pools.{Pool, Holds, Good, started}
use Rattle.batch_pool.specs.declared.job.BatchJob.{BatchJob}
use Rattle.batch_lists.specs.Limits.{most_jobs, most_job_budget}

-- what workers share
pub record Batch : Type 0 where
  -- the pool of each job, in turn
  pub pools : List Pool
  pub workers : ℕ
  pub stopped : Bool

-- job j has this pool
abbrev pub IsPool : List Pool → ℕ → Pool → Type 0
IsPool pools j p = slice_get pools j ≡ Some p

-- worker w holds h in job j
abbrev pub HoldsIn : List Pool → ℕ → ℕ → Held → Type 0
HoldsIn pools w j h = (p : Pool) × IsPool pools j p × Holds p.held w h

-- worker w holds nothing in any job
abbrev pub HoldsNowhere : List Pool → ℕ → Type 0
HoldsNowhere pools w = (j : ℕ) (h : Held) → HoldsIn pools w j h → ⊥

-- what is true of every batch
pub record BatchGood (b : Batch) : Type 0 where
  pub few_jobs : length b.pools ≤ most_jobs
  pub some_workers : 1 ≤ b.workers
  pub few_workers : b.workers ≤ most_workers
  -- each job's pool is a good one: among more, its state is the one that its own log leads to
  pub good : (j : ℕ) (p : Pool) → IsPool b.pools j p → Good p
  -- it has a place for each worker of the batch
  pub served : (j : ℕ) (p : Pool) → IsPool b.pools j p → p.workers ≡ b.workers
  -- its own flag isn't set
  pub running : (j : ℕ) (p : Pool) → IsPool b.pools j p → p.stopped ≡ false
  -- a worker holds a ticket in one job at most
  pub apart : (w i j : ℕ) (g h : Held) → HoldsIn b.pools w i g → HoldsIn b.pools w j h → i ≡ j

-- a job that may stand in a batch: its net runs, and its budget is within the limit
pub record JobFits (job : BatchJob) : Type 0 where
  pub runs : Runs job.net
  pub some_moves : 1 ≤ job.budget
  pub few_moves : job.budget ≤ most_job_budget

-- jobs that so many workers may share
pub record BatchFits (jobs : List BatchJob) (workers : ℕ) : Type 0 where
  pub each : All JobFits jobs
  pub few_jobs : length jobs ≤ most_jobs
  pub some_workers : 1 ≤ workers
  pub few_workers : workers ≤ most_workers

-- the pool in which a job's run begins
abbrev pub job_started : ℕ → BatchJob → Pool
job_started workers job = started job.net job.budget workers

-- the batch in which the runs of these jobs begin
abbrev pub batch_started : List BatchJob → ℕ → Batch
batch_started jobs workers = record { pools = map (job_started workers) jobs; workers = workers; stopped = false }

-- the batch, stopped
abbrev pub batch_halted : Batch → Batch
batch_halted b = record b { stopped = true }
