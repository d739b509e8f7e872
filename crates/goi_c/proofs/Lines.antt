-- Why the line of a fault is that of its mark.
use Rattle.std.proofs.Common.{◌≡◌, refl}
use Rattle.pcf_reader.specs.declared.fault.ReadFault.TheVariants as read
use Rattle.pcf_types.specs.declared.fault.TypeFault.TheVariants as typing
use Rattle.schedule_log.specs.declared.fault.ScheduleFault.{ScheduleFault}
use Rattle.schedule_log.specs.declared.fault.ScheduleFault.TheVariants as schedule
use Rattle.replay_check.specs.declared.fault.ReplayFault.{ReplayFault}
use Rattle.replay_check.specs.declared.fault.ReplayFault.TheVariants as replay
use Rattle.cbv_terms.specs.declared.fault.ByValueFault.TheVariants as by_value
use Rattle.net_check.specs.declared.fault.NetFault.TheVariants as unsound
use Rattle.net_text.specs.declared.fault.NetTextFault.{NetTextFault}
use Rattle.net_text.specs.declared.fault.NetTextFault.TheVariants as net_text
use Rattle.batch_lists.specs.declared.fault.BatchFault.{BatchFault}
use Rattle.batch_lists.specs.declared.fault.BatchFault.TheVariants as batch
use Rattle.program_runs.specs.declared.fault.ProgramFault.{ProgramFault}
use Rattle.program_runs.specs.declared.fault.ProgramFault.TheVariants as program
use Rattle.goi_tasks.specs.declared.fault.Fault.TheVariants as fault
use Rattle.goi_tasks.specs.Refusals.{program_fault_line, schedule_fault_line, replay_fault_line, net_text_fault_line, batch_fault_line}
use Rattle.goi_c.specs.Faults.{LinesOfMarks, line_of, program_mark, schedule_mark, replay_mark, net_text_mark, batch_mark}

-- each line is made as its mark says, so that both sides compute to one text
of_program : (f : ProgramFault) → program_fault_line f ≡ line_of (program_mark f)
of_program (program.Read read.NoMemory) = refl
of_program (program.Read (read.NotText at)) = refl
of_program (program.Read (read.BadToken at)) = refl
of_program (program.Read (read.NumberTooWide at)) = refl
of_program (program.Read (read.Unexpected at)) = refl
of_program (program.Read (read.TooDeep at)) = refl
of_program (program.Read (read.TooLarge at)) = refl
of_program (program.Read read.TooLong) = refl
of_program (program.Typing typing.NoMemory) = refl
of_program (program.Typing (typing.Unbound at)) = refl
of_program (program.Typing (typing.FunctionWanted at)) = refl
of_program (program.Typing (typing.ArgumentMismatch at)) = refl
of_program (program.Typing (typing.NatWanted at)) = refl
of_program (program.Typing (typing.FixMismatch at)) = refl
of_program (program.Typing (typing.PairWanted at)) = refl
of_program program.NotGround = refl
of_program (program.ByValue by_value.NoMemory) = refl
of_program (program.ByValue (by_value.ByValueFix at)) = refl
of_program (program.ByValue (by_value.ByValuePair at)) = refl
of_program (program.ByValue by_value.ByValueDeep) = refl

of_listing : (f : NetTextFault) → net_text_fault_line f ≡ line_of (net_text_mark f)
of_listing net_text.NoMemory = refl
of_listing (net_text.BadLine n) = refl
of_listing (net_text.NotSound unsound.NoMemory) = refl
of_listing (net_text.NotSound (unsound.LooseWire n)) = refl
of_listing (net_text.NotSound (unsound.TypeClash n)) = refl
of_listing (net_text.NotSound (unsound.DepthClash n)) = refl
of_listing (net_text.NotSound (unsound.RootCount n)) = refl
of_listing net_text.NotOfTerm = refl
of_listing net_text.TooLong = refl

of_schedule : (f : ScheduleFault) → schedule_fault_line f ≡ line_of (schedule_mark f)
of_schedule schedule.NoMemory = refl
of_schedule schedule.BadHeader = refl
of_schedule (schedule.BadLine n) = refl
of_schedule (schedule.TicketTooWide n) = refl
of_schedule schedule.NoEnd = refl
of_schedule (schedule.TooLong n) = refl

of_replay : (f : ReplayFault) → replay_fault_line f ≡ line_of (replay_mark f)
of_replay replay.NoMemory = refl
of_replay (replay.NotLive place ticket) = refl
of_replay (replay.AfterAnswer place) = refl

of_batch : (f : BatchFault) → batch_fault_line f ≡ line_of (batch_mark f)
of_batch batch.NoMemory = refl
of_batch batch.TooLong = refl
of_batch batch.BadHeader = refl
of_batch (batch.BadLine n) = refl
of_batch (batch.TooMany n) = refl
of_batch batch.NoEnd = refl

pub lines_of_marks : LinesOfMarks
lines_of_marks (fault.Program f) = of_program f
lines_of_marks (fault.NetText f) = of_listing f
lines_of_marks (fault.Schedule f) = of_schedule f
lines_of_marks (fault.Moves f) = of_replay f
lines_of_marks (fault.Batch f) = of_batch f
