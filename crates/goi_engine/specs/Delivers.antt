-- What is written of an answer, and the status that tells it.
use Rattle.std.specs.Prelude.{◌≡◌, ◌⊎◌, ℕ, List}
use Rattle.goi_engine.specs.declared.answer.Answer.{Answer}
use Rattle.goi_engine.specs.declared.answer.Answer.TheVariants.{Prints, Refused, BadWords, NotRead, NoMemory}
use Rattle.goi_engine.specs.Writes.{SinkTurn, Untouched, Wrote, Broke}
use Rattle.goi_tasks.specs.Outputs.{Output}
use Rattle.goi_tasks.specs.Seen.{output_of}
use Rattle.goi_tasks.specs.Refusals.{words_line, read_line, memory_line, write_line}

-- an output was delivered: the report was written whole to `out` and its notes to `err`; or `out` failed, and then the line that says so
-- was written, or `err` failed too; or `err` failed at the notes
abbrev pub Reported : Output → SinkTurn → SinkTurn → ℕ → Type 0
Reported o out err status =
    ((status ≡ o.status) × Wrote o.report out × Wrote o.notes err)
    ⊎ ((status ≡ 4) × Broke o.report out × (Wrote write_line err ⊎ Broke write_line err))
    ⊎ ((status ≡ 4) × Wrote o.report out × Broke o.notes err)

-- the line of a refusal was written whole with its status, or `err` failed; nothing came to `out`
abbrev pub RefusedAs : ℕ → List ℕ → SinkTurn → SinkTurn → ℕ → Type 0
RefusedAs own line out err status = Untouched out × (((status ≡ own) × Wrote line err) ⊎ ((status ≡ 4) × Broke line err))

-- an answer was delivered to `out` and `err`
abbrev pub Delivered : Answer → SinkTurn → SinkTurn → ℕ → Type 0
Delivered (Prints report) out err status = Reported (output_of report) out err status
Delivered (Refused refusal) out err status = RefusedAs refusal.status refusal.line.items out err status
Delivered BadWords out err status = RefusedAs 2 words_line out err status
Delivered NotRead out err status = RefusedAs 3 read_line out err status
Delivered NoMemory out err status = RefusedAs 6 memory_line out err status
