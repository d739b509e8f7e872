-- What a call comes to over the files of the system and two writers, by the bytes that were read and the bytes that were taken.
-- No bytes are told beforehand. `given` of the reads is what the system gave, in order; `handed` of the writes is what the writers took.
use Rattle.std.specs.Prelude.{◌≡◌, ◌⊎◌, ℕ, List, [], Some, false}
use Rattle.goi_world.specs.Outside.{given, handed}
use Rattle.goi_world.specs.FilesOnDisk.{FilesOnDisk}
use Rattle.goi_world.specs.SinkOfWriter.{SinkOfWriter}
use Rattle.goi_words.specs.Asked.{job}
use Rattle.goi_jobs.specs.Jobs.{text, call}
use Rattle.goi_jobs.specs.Tasks.{nothing_shown}
use Rattle.goi_jobs.specs.declared.task.Task.TheVariants.{Run}
use Rattle.program_runs.specs.declared.calling.Calling.TheVariants.{ByName}
use Rattle.goi_engine.specs.Headline.{Outcome}
use Rattle.goi_engine.specs.CallHeadline.{CallOutcome}

-- of a run by name: the writers took what the run of the bytes that were read comes to
abbrev pub SystemRuns : List (List ℕ) → FilesOnDisk → SinkOfWriter → SinkOfWriter → ℕ → Type 0
SystemRuns words files out err status =
    (file : List ℕ) (workers budget : ℕ) → job words ≡ Some (text file workers (Run budget ByName nothing_shown)) →
    (status ≡ 0) ⊎ (status ≡ 5) ⊎ (status ≡ 1) → Outcome (given files.past) budget status (handed out.past) (handed err.past)

-- and of a call: what the call of their function comes to
abbrev pub SystemCalls : List (List ℕ) → FilesOnDisk → SinkOfWriter → SinkOfWriter → ℕ → Type 0
SystemCalls words files out err status =
    (file numbers : List ℕ) (workers budget : ℕ) → job words ≡ Some (call file numbers workers budget false false) →
    (status ≡ 0) ⊎ (status ≡ 5) ⊎ (status ≡ 1) → CallOutcome (given files.past) numbers budget status (handed out.past) (handed err.past)
