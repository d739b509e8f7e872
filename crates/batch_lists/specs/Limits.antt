-- The limits of a batch as numbers, each inclusive, under the names that definitions and contracts use.
use Rattle.std.specs.Prelude.{ℕ}

-- the most jobs of a batch
abbrev pub most_jobs : ℕ
most_jobs = 64

-- the most moves that a job may be allowed
abbrev pub most_job_budget : ℕ
most_job_budget = 100000

-- the most bytes of a list of jobs
abbrev pub most_list_bytes : ℕ
most_list_bytes = 1048576
