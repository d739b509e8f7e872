-- A fault as numbers: with which status it ends, which fault it is, where it is, and the ticket that it names.
-- They say what the line of the fault says, and nothing else: the line is made of them (`LinesOfMarks`).
use Rattle.std.specs.Prelude.{◌≡◌, ℕ, ◌-◌, ◌^◌, List, Option, None, Some, codes}
use Rattle.pcf_reader.specs.declared.fault.ReadFault.{ReadFault}
use Rattle.pcf_reader.specs.declared.fault.ReadFault.TheVariants as read
use Rattle.pcf_types.specs.declared.fault.TypeFault.{TypeFault}
use Rattle.pcf_types.specs.declared.fault.TypeFault.TheVariants as typing
use Rattle.schedule_log.specs.declared.fault.ScheduleFault.{ScheduleFault}
use Rattle.schedule_log.specs.declared.fault.ScheduleFault.TheVariants as schedule
use Rattle.replay_check.specs.declared.fault.ReplayFault.{ReplayFault}
use Rattle.replay_check.specs.declared.fault.ReplayFault.TheVariants as replay
use Rattle.cbv_terms.specs.declared.fault.ByValueFault.{ByValueFault}
use Rattle.cbv_terms.specs.declared.fault.ByValueFault.TheVariants as by_value
use Rattle.net_check.specs.declared.fault.NetFault.{NetFault}
use Rattle.net_check.specs.declared.fault.NetFault.TheVariants as unsound
use Rattle.net_text.specs.declared.fault.NetTextFault.{NetTextFault}
use Rattle.net_text.specs.declared.fault.NetTextFault.TheVariants as net_text
use Rattle.batch_lists.specs.declared.fault.BatchFault.{BatchFault}
use Rattle.batch_lists.specs.declared.fault.BatchFault.TheVariants as batch
use Rattle.program_runs.specs.declared.fault.ProgramFault.{ProgramFault}
use Rattle.program_runs.specs.declared.fault.ProgramFault.TheVariants as program
use Rattle.goi_tasks.specs.declared.fault.Fault.{Fault}
use Rattle.goi_tasks.specs.declared.fault.Fault.TheVariants as fault
use Rattle.goi_tasks.specs.Refusals.{fault_line, fault_status, inner_line, placed_line, plain_line, ticket_line}
use Rattle.goi_c.specs.declared.kinds.Kind.{Kind}
use Rattle.goi_c.specs.declared.kinds.Kind.TheVariants as kind
use Rattle.goi_c.specs.declared.marks.Mark.{Mark}
use Rattle.goi_c.specs.declared.finding.FaultData.{FaultData}

-- ---- marks

-- a fault without a place, one with its place, and one with its place and its ticket
abbrev pub plain : Kind → Mark
plain k = record { kind = k; place = None; ticket = 0 }

abbrev pub placed : Kind → ℕ → Mark
placed k at = record { kind = k; place = Some at; ticket = 0 }

abbrev pub ticketed : Kind → ℕ → ℕ → Mark
ticketed k at ticket = record { kind = k; place = Some at; ticket = ticket }

abbrev pub read_mark : ReadFault → Mark
read_mark read.NoMemory = plain kind.NoMemory
read_mark (read.NotText at) = placed kind.NotText at
read_mark (read.BadToken at) = placed kind.BadToken at
read_mark (read.NumberTooWide at) = placed kind.NumberTooWide at
read_mark (read.Unexpected at) = placed kind.Unexpected at
read_mark (read.TooDeep at) = placed kind.TooDeep at
read_mark (read.TooLarge at) = placed kind.TooLarge at
read_mark read.TooLong = plain kind.TooLong

abbrev pub type_mark : TypeFault → Mark
type_mark typing.NoMemory = plain kind.NoMemory
type_mark (typing.Unbound at) = placed kind.Unbound at
type_mark (typing.FunctionWanted at) = placed kind.FunctionWanted at
type_mark (typing.ArgumentMismatch at) = placed kind.ArgumentMismatch at
type_mark (typing.NatWanted at) = placed kind.NatWanted at
type_mark (typing.FixMismatch at) = placed kind.FixMismatch at
type_mark (typing.PairWanted at) = placed kind.PairWanted at

abbrev pub by_value_mark : ByValueFault → Mark
by_value_mark by_value.NoMemory = plain kind.NoMemory
by_value_mark (by_value.ByValueFix at) = placed kind.ByValueFix at
by_value_mark (by_value.ByValuePair at) = placed kind.ByValuePair at
by_value_mark by_value.ByValueDeep = plain kind.ByValueDeep

abbrev pub program_mark : ProgramFault → Mark
program_mark (program.Read f) = read_mark f
program_mark (program.Typing f) = type_mark f
program_mark program.NotGround = plain kind.NotGround
program_mark (program.ByValue f) = by_value_mark f

-- a net that isn't sound has its own fault, with the number of a node, a wire, or of roots
abbrev pub unsound_mark : NetFault → Mark
unsound_mark unsound.NoMemory = plain kind.NoMemory
unsound_mark (unsound.LooseWire n) = placed kind.LooseWire n
unsound_mark (unsound.TypeClash n) = placed kind.TypeClash n
unsound_mark (unsound.DepthClash n) = placed kind.DepthClash n
unsound_mark (unsound.RootCount n) = placed kind.RootCount n

abbrev pub net_text_mark : NetTextFault → Mark
net_text_mark net_text.NoMemory = plain kind.NoMemory
net_text_mark (net_text.BadLine n) = placed kind.BadLine n
net_text_mark (net_text.NotSound f) = unsound_mark f
net_text_mark net_text.NotOfTerm = plain kind.NotOfTerm
net_text_mark net_text.TooLong = plain kind.TooLong

abbrev pub schedule_mark : ScheduleFault → Mark
schedule_mark schedule.NoMemory = plain kind.NoMemory
schedule_mark schedule.BadHeader = plain kind.BadHeader
schedule_mark (schedule.BadLine n) = placed kind.BadLine n
schedule_mark (schedule.TicketTooWide n) = placed kind.TicketTooWide n
schedule_mark schedule.NoEnd = plain kind.NoEnd
schedule_mark (schedule.TooLong n) = placed kind.TooLong n

abbrev pub replay_mark : ReplayFault → Mark
replay_mark replay.NoMemory = plain kind.NoMemory
replay_mark (replay.NotLive place ticket) = ticketed kind.NotLive place ticket
replay_mark (replay.AfterAnswer place) = placed kind.AfterAnswer place

abbrev pub batch_mark : BatchFault → Mark
batch_mark batch.NoMemory = plain kind.NoMemory
batch_mark batch.TooLong = plain kind.TooLong
batch_mark batch.BadHeader = plain kind.BadHeader
batch_mark (batch.BadLine n) = placed kind.BadLine n
batch_mark (batch.TooMany n) = placed kind.TooMany n
batch_mark batch.NoEnd = plain kind.NoEnd

-- the mark of a fault
abbrev pub mark_of : Fault → Mark
mark_of (fault.Program f) = program_mark f
mark_of (fault.NetText f) = net_text_mark f
mark_of (fault.Schedule f) = schedule_mark f
mark_of (fault.Moves f) = replay_mark f
mark_of (fault.Batch f) = batch_mark f

-- ---- names and numbers of kinds

abbrev pub name_of : Kind → List ℕ
name_of kind.NotText = codes "NotText"
name_of kind.BadToken = codes "BadToken"
name_of kind.NumberTooWide = codes "NumberTooWide"
name_of kind.Unexpected = codes "Unexpected"
name_of kind.TooDeep = codes "TooDeep"
name_of kind.TooLarge = codes "TooLarge"
name_of kind.TooLong = codes "TooLong"
name_of kind.Unbound = codes "Unbound"
name_of kind.FunctionWanted = codes "FunctionWanted"
name_of kind.ArgumentMismatch = codes "ArgumentMismatch"
name_of kind.NatWanted = codes "NatWanted"
name_of kind.FixMismatch = codes "FixMismatch"
name_of kind.PairWanted = codes "PairWanted"
name_of kind.NotGround = codes "NotGround"
name_of kind.ByValueFix = codes "ByValueFix"
name_of kind.ByValuePair = codes "ByValuePair"
name_of kind.ByValueDeep = codes "ByValueDeep"
name_of kind.BadHeader = codes "BadHeader"
name_of kind.BadLine = codes "BadLine"
name_of kind.NoEnd = codes "NoEnd"
name_of kind.NotOfTerm = codes "NotOfTerm"
name_of kind.LooseWire = codes "LooseWire"
name_of kind.TypeClash = codes "TypeClash"
name_of kind.DepthClash = codes "DepthClash"
name_of kind.RootCount = codes "RootCount"
name_of kind.TicketTooWide = codes "TicketTooWide"
name_of kind.NotLive = codes "NotLive"
name_of kind.AfterAnswer = codes "AfterAnswer"
name_of kind.TooMany = codes "TooMany"
name_of kind.NoMemory = codes "NoMemory"

-- 0 is no kind: it stands for 'no fault'
abbrev pub number_of : Kind → ℕ
number_of kind.NotText = 1
number_of kind.BadToken = 2
number_of kind.NumberTooWide = 3
number_of kind.Unexpected = 4
number_of kind.TooDeep = 5
number_of kind.TooLarge = 6
number_of kind.TooLong = 7
number_of kind.Unbound = 8
number_of kind.FunctionWanted = 9
number_of kind.ArgumentMismatch = 10
number_of kind.NatWanted = 11
number_of kind.FixMismatch = 12
number_of kind.PairWanted = 13
number_of kind.NotGround = 14
number_of kind.ByValueFix = 15
number_of kind.ByValuePair = 16
number_of kind.ByValueDeep = 17
number_of kind.BadHeader = 18
number_of kind.BadLine = 19
number_of kind.NoEnd = 20
number_of kind.NotOfTerm = 21
number_of kind.LooseWire = 22
number_of kind.TypeClash = 23
number_of kind.DepthClash = 24
number_of kind.RootCount = 25
number_of kind.TicketTooWide = 26
number_of kind.NotLive = 27
number_of kind.AfterAnswer = 28
number_of kind.TooMany = 29
number_of kind.NoMemory = 30

-- ---- marks and lines

-- the line that a kind makes of a place and a ticket: that of a net that isn't sound has its fault inside, and that of a ticket has both
abbrev pub line_by : Kind → Option ℕ → ℕ → List ℕ
line_by kind.LooseWire (Some at) ticket = inner_line (name_of kind.LooseWire) at
line_by kind.TypeClash (Some at) ticket = inner_line (name_of kind.TypeClash) at
line_by kind.DepthClash (Some at) ticket = inner_line (name_of kind.DepthClash) at
line_by kind.RootCount (Some at) ticket = inner_line (name_of kind.RootCount) at
line_by kind.NotLive (Some at) ticket = ticket_line (name_of kind.NotLive) at ticket
line_by k (Some at) ticket = placed_line (name_of k) at
line_by k None ticket = plain_line (name_of k)

abbrev pub line_of : Mark → List ℕ
line_of m = line_by m.kind m.place m.ticket

-- the line of a fault is that of its mark
abbrev pub LinesOfMarks : Type 0
LinesOfMarks = (f : Fault) → fault_line f ≡ line_of (mark_of f)

-- ---- numbers

-- the number that stands for no place, which no text is long enough to have
abbrev pub no_place : ℕ
no_place = 2 ^ 32 - 1

abbrev pub place_number : Option ℕ → ℕ
place_number None = no_place
place_number (Some at) = at

-- the fault in numbers
pub record FaultIs (f : Fault) (d : FaultData) : Type 0 where
  pub status : d.status ≡ fault_status f
  pub kind : d.kind ≡ number_of (mark_of f).kind
  pub place : d.place ≡ place_number (mark_of f).place
  pub ticket : d.ticket ≡ (mark_of f).ticket

-- no fault in numbers
pub record IsNoFault (d : FaultData) : Type 0 where
  pub status : d.status ≡ 0
  pub kind : d.kind ≡ 0
  pub place : d.place ≡ no_place
  pub ticket : d.ticket ≡ 0
