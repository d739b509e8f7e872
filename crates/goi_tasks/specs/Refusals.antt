-- Which line stands for each refusal, and with which status it ends.
-- A fault is spelled with its place, as in `Unexpected(0)`, where it has one; that of a ticket with its ticket too, as in `NotLive(29,9)`.
use Rattle.std.specs.Prelude.{◌≡◌, ℕ, ◌≤◌, List, ◌++◌, length, codes, decimal}
use Rattle.pcf_reader.specs.declared.fault.ReadFault.{ReadFault}
use Rattle.pcf_reader.specs.declared.fault.ReadFault.TheVariants as read
use Rattle.pcf_types.specs.declared.fault.TypeFault.{TypeFault}
use Rattle.pcf_types.specs.declared.fault.TypeFault.TheVariants as typing
use Rattle.schedule_log.specs.declared.fault.ScheduleFault.{ScheduleFault}
use Rattle.schedule_log.specs.declared.fault.ScheduleFault.TheVariants as schedule
use Rattle.replay_check.specs.declared.fault.ReplayFault.{ReplayFault}
use Rattle.replay_check.specs.declared.fault.ReplayFault.TheVariants as replay
use Rattle.cbv_terms.specs.declared.fault.ByValueFault.{ByValueFault}
use Rattle.cbv_terms.specs.declared.fault.ByValueFault.TheVariants as by_value
use Rattle.net_check.specs.declared.fault.NetFault.{NetFault}
use Rattle.net_check.specs.declared.fault.NetFault.TheVariants as unsound
use Rattle.net_text.specs.declared.fault.NetTextFault.{NetTextFault}
use Rattle.net_text.specs.declared.fault.NetTextFault.TheVariants as net_text
use Rattle.batch_lists.specs.declared.fault.BatchFault.{BatchFault}
use Rattle.batch_lists.specs.declared.fault.BatchFault.TheVariants as batch
use Rattle.program_runs.specs.declared.fault.ProgramFault.{ProgramFault}
use Rattle.program_runs.specs.declared.fault.ProgramFault.TheVariants as program
use Rattle.goi_tasks.specs.declared.fault.Fault.{Fault}
use Rattle.goi_tasks.specs.declared.fault.Fault.TheVariants as fault
use Rattle.goi_tasks.specs.declared.refusal.Refusal.{Refusal}

-- no line of a refusal is longer, and no report of a run that tells neither its schedule nor its tally
abbrev pub most_line : ℕ
most_line = 64

-- a line that tells a fault without a place, one with its place, and one with its place and its ticket
abbrev pub plain_line : List ℕ → List ℕ
plain_line name = codes "refused: " ++ (name ++ codes "\n")

abbrev pub placed_line : List ℕ → ℕ → List ℕ
placed_line name at = codes "refused: " ++ (name ++ (codes "(" ++ (decimal at ++ codes ")\n")))

abbrev pub ticket_line : List ℕ → ℕ → ℕ → List ℕ
ticket_line name at ticket = codes "refused: " ++ (name ++ (codes "(" ++ (decimal at ++ (codes "," ++ (decimal ticket ++ codes ")\n")))))

-- and one with the fault of a net, which has its number
abbrev pub inner_line : List ℕ → ℕ → List ℕ
inner_line name at = codes "refused: NotSound(" ++ (name ++ (codes "(" ++ (decimal at ++ codes "))\n")))

abbrev pub read_fault_line : ReadFault → List ℕ
read_fault_line read.NoMemory = plain_line (codes "NoMemory")
read_fault_line (read.NotText at) = placed_line (codes "NotText") at
read_fault_line (read.BadToken at) = placed_line (codes "BadToken") at
read_fault_line (read.NumberTooWide at) = placed_line (codes "NumberTooWide") at
read_fault_line (read.Unexpected at) = placed_line (codes "Unexpected") at
read_fault_line (read.TooDeep at) = placed_line (codes "TooDeep") at
read_fault_line (read.TooLarge at) = placed_line (codes "TooLarge") at
read_fault_line read.TooLong = plain_line (codes "TooLong")

abbrev pub type_fault_line : TypeFault → List ℕ
type_fault_line typing.NoMemory = plain_line (codes "NoMemory")
type_fault_line (typing.Unbound at) = placed_line (codes "Unbound") at
type_fault_line (typing.FunctionWanted at) = placed_line (codes "FunctionWanted") at
type_fault_line (typing.ArgumentMismatch at) = placed_line (codes "ArgumentMismatch") at
type_fault_line (typing.NatWanted at) = placed_line (codes "NatWanted") at
type_fault_line (typing.FixMismatch at) = placed_line (codes "FixMismatch") at
type_fault_line (typing.PairWanted at) = placed_line (codes "PairWanted") at

abbrev pub schedule_fault_line : ScheduleFault → List ℕ
schedule_fault_line schedule.NoMemory = plain_line (codes "NoMemory")
schedule_fault_line schedule.BadHeader = plain_line (codes "BadHeader")
schedule_fault_line (schedule.BadLine n) = placed_line (codes "BadLine") n
schedule_fault_line (schedule.TicketTooWide n) = placed_line (codes "TicketTooWide") n
schedule_fault_line schedule.NoEnd = plain_line (codes "NoEnd")
schedule_fault_line (schedule.TooLong n) = placed_line (codes "TooLong") n

abbrev pub replay_fault_line : ReplayFault → List ℕ
replay_fault_line replay.NoMemory = plain_line (codes "NoMemory")
replay_fault_line (replay.NotLive place ticket) = ticket_line (codes "NotLive") place ticket
replay_fault_line (replay.AfterAnswer place) = placed_line (codes "AfterAnswer") place

abbrev pub by_value_fault_line : ByValueFault → List ℕ
by_value_fault_line by_value.NoMemory = plain_line (codes "NoMemory")
by_value_fault_line (by_value.ByValueFix at) = placed_line (codes "ByValueFix") at
by_value_fault_line (by_value.ByValuePair at) = placed_line (codes "ByValuePair") at
by_value_fault_line by_value.ByValueDeep = plain_line (codes "ByValueDeep")

-- the line of a fault of a program
abbrev pub program_fault_line : ProgramFault → List ℕ
program_fault_line (program.Read f) = read_fault_line f
program_fault_line (program.Typing f) = type_fault_line f
program_fault_line program.NotGround = plain_line (codes "NotGround")
program_fault_line (program.ByValue f) = by_value_fault_line f

-- a net that isn't sound is refused with its own fault
abbrev pub unsound_line : NetFault → List ℕ
unsound_line unsound.NoMemory = plain_line (codes "NoMemory")
unsound_line (unsound.LooseWire n) = inner_line (codes "LooseWire") n
unsound_line (unsound.TypeClash n) = inner_line (codes "TypeClash") n
unsound_line (unsound.DepthClash n) = inner_line (codes "DepthClash") n
unsound_line (unsound.RootCount n) = inner_line (codes "RootCount") n

abbrev pub net_text_fault_line : NetTextFault → List ℕ
net_text_fault_line net_text.NoMemory = plain_line (codes "NoMemory")
net_text_fault_line (net_text.BadLine n) = placed_line (codes "BadLine") n
net_text_fault_line (net_text.NotSound f) = unsound_line f
net_text_fault_line net_text.NotOfTerm = plain_line (codes "NotOfTerm")
net_text_fault_line net_text.TooLong = plain_line (codes "TooLong")

abbrev pub batch_fault_line : BatchFault → List ℕ
batch_fault_line batch.NoMemory = plain_line (codes "NoMemory")
batch_fault_line batch.TooLong = plain_line (codes "TooLong")
batch_fault_line batch.BadHeader = plain_line (codes "BadHeader")
batch_fault_line (batch.BadLine n) = placed_line (codes "BadLine") n
batch_fault_line (batch.TooMany n) = placed_line (codes "TooMany") n
batch_fault_line batch.NoEnd = plain_line (codes "NoEnd")

-- the line of a fault
abbrev pub fault_line : Fault → List ℕ
fault_line (fault.Program f) = program_fault_line f
fault_line (fault.NetText f) = net_text_fault_line f
fault_line (fault.Schedule f) = schedule_fault_line f
fault_line (fault.Moves f) = replay_fault_line f
fault_line (fault.Batch f) = batch_fault_line f

-- the status of a fault: 1 where a program has it, and 7 where a schedule, a net file or a list has
abbrev pub fault_status : Fault → ℕ
fault_status (fault.Program f) = 1
fault_status (fault.NetText f) = 7
fault_status (fault.Schedule f) = 7
fault_status (fault.Moves f) = 7
fault_status (fault.Batch f) = 7

-- the line is that of the fault; it is short
pub record IsLine (f : Fault) (line : List ℕ) : Type 0 where
  pub same : line ≡ fault_line f
  pub short : length line ≤ most_line

-- the line of this fault, with its status
pub record TellsFault (f : Fault) (r : Refusal) : Type 0 where
  pub line : IsLine f r.line.items
  pub status : r.status ≡ fault_status f

-- the lines of the other refusals, and the one that tells that a write failed
abbrev pub words_line : List ℕ
words_line = codes "refused words\n"

abbrev pub read_line : List ℕ
read_line = codes "read failed\n"

abbrev pub memory_line : List ℕ
memory_line = codes "no memory\n"

abbrev pub write_line : List ℕ
write_line = codes "write failed\n"
