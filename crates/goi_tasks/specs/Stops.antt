-- Why there is no report: want of memory, which may come at any time, or a fault.
use Rattle.pcf_reader.specs.declared.fault.ReadFault.{ReadFault}
use Rattle.pcf_types.specs.declared.fault.TypeFault.{TypeFault}
use Rattle.program_runs.specs.declared.no_run.NoRun.{NoRun}
use Rattle.program_runs.specs.declared.no_run.NoRun.TheVariants as no_run
use Rattle.program_runs.specs.NoRuns.{no_run_of_read, no_run_of_type}
use Rattle.goi_tasks.specs.declared.fault.Fault.{Fault}
use Rattle.schedule_log.specs.declared.fault.ScheduleFault.{ScheduleFault}
use Rattle.schedule_log.specs.declared.fault.ScheduleFault.TheVariants as schedule
use Rattle.replay_check.specs.declared.fault.ReplayFault.{ReplayFault}
use Rattle.replay_check.specs.declared.fault.ReplayFault.TheVariants as replay
use Rattle.net_text.specs.declared.fault.NetTextFault.{NetTextFault}
use Rattle.net_text.specs.declared.fault.NetTextFault.TheVariants as listing
use Rattle.goi_tasks.specs.declared.fault.Fault.TheVariants.{Program, NetText, Schedule, Moves}
use Rattle.goi_tasks.specs.declared.stop.Stop.{Stop}
use Rattle.goi_tasks.specs.declared.stop.Stop.TheVariants as stop

-- a fault of which this holds, or want of memory
abbrev pub StopsFor : (Fault → Type 0) → Stop → Type 0
StopsFor P stop.Memory = Unit {0}
StopsFor P (stop.Fault f) = P f

-- what the answers of the crates below stand for
abbrev pub stop_of_no_run : NoRun → Stop
stop_of_no_run no_run.Memory = stop.Memory
stop_of_no_run (no_run.Fault f) = stop.Fault (Program f)

abbrev pub stop_of_read : ReadFault → Stop
stop_of_read f = stop_of_no_run (no_run_of_read f)

abbrev pub stop_of_type : TypeFault → Stop
stop_of_type f = stop_of_no_run (no_run_of_type f)

abbrev pub stop_of_schedule : ScheduleFault → Stop
stop_of_schedule schedule.NoMemory = stop.Memory
stop_of_schedule f = stop.Fault (Schedule f)

abbrev pub stop_of_replay : ReplayFault → Stop
stop_of_replay replay.NoMemory = stop.Memory
stop_of_replay f = stop.Fault (Moves f)

abbrev pub stop_of_net_text : NetTextFault → Stop
stop_of_net_text listing.NoMemory = stop.Memory
stop_of_net_text f = stop.Fault (NetText f)
