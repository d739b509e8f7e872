-- What the programs of a list came to before the run: each is a job of its own net and budget, or is refused with the line of its fault.
use Rattle.std.specs.Prelude.{◌≡◌, List, [], ◌∷◌}
use Rattle.batch_pool.specs.declared.job.BatchJob.{BatchJob}
use Rattle.batch_pool.specs.Batches.{JobFits}
use Rattle.goi_tasks.specs.declared.fault.Fault.{Fault}
use Rattle.program_runs.specs.declared.calling.Calling.TheVariants.{ByName}
use Rattle.program_runs.specs.Nets.{IsNetFor}
use Rattle.program_runs.specs.Programs.{number}
use Rattle.goi_tasks.specs.Programs.{FaultyText}
use Rattle.goi_tasks.specs.Refusals.{fault_line}
use Rattle.goi_batches.specs.declared.judged.Judged.{Judged}
use Rattle.goi_batches.specs.declared.judged.Judged.TheVariants.{Runs, Refused}
use Rattle.goi_batches.specs.Sections.{Listed}

-- the job of this program
pub record IsJobOf (p : Listed) (job : BatchJob) : Type 0 where
  pub net : IsNetFor ByName p.bytes job.net
  pub budget : job.budget ≡ p.budget
  pub fits : JobFits job

-- what this program came to
abbrev pub IsJudged : Listed → Judged → Type 0
IsJudged p (Runs job) = IsJobOf p job
IsJudged p (Refused line) = (f : Fault) × FaultyText number p.bytes f × (line.items ≡ fault_line f)

-- what these programs came to, in turn
abbrev pub AreJudged : List Listed → List Judged → Type 0
AreJudged [] [] = Unit {0}
AreJudged [] (j ∷ js) = ⊥
AreJudged (p ∷ ps) [] = ⊥
AreJudged (p ∷ ps) (j ∷ js) = IsJudged p j × AreJudged ps js
