-- A schedule that is run on the net of a term: what it came to, which report it has, and the first fault of one that can't be run.
-- A schedule's text is judged before its moves are.
use Rattle.std.specs.Prelude.{◌≡◌, ◌≢◌, ◌++◌, ℕ, List, [], length, Option, None, Some, Err}
use Rattle.pcf_values.specs.declared.val.Val.{Val}
use Rattle.pcf_values.specs.Terms.{TermTree}
use Rattle.cbn_meaning.specs.Meaning.{Means}
use Rattle.net_build.specs.Nets.{NetTree}
use Rattle.net_build.specs.NetOf.{net_of}
use Rattle.interleave_laws.specs.Maps.{MapState, LeadsToMap}
use Rattle.adequacy_laws.specs.Questions.{Length}
use Rattle.schedule_log.specs.declared.fault.ScheduleFault.{ScheduleFault}
use Rattle.schedule_log.specs.declared.fault.ScheduleFault.TheVariants as schedule
use Rattle.schedule_log.specs.declared.entry.Entry.{Entry}
use Rattle.schedule_log.specs.Logs.{read_entries}
use Rattle.schedule_log.specs.Schedules.{IsSchedule, ReadAs}
use Rattle.replay_check.specs.declared.fault.ReplayFault.{ReplayFault}
use Rattle.replay_check.specs.declared.fault.ReplayFault.TheVariants as replay
use Rattle.replay_check.specs.Replays.{ReplaysAs}
use Rattle.walk_text.specs.Traces.{trace_text}
use Rattle.goi_jobs.specs.declared.window.Window.{Window}
use Rattle.goi_reports.specs.Reports.{replay_report}
use Rattle.goi_tasks.specs.declared.fault.Fault.{Fault}
use Rattle.goi_tasks.specs.declared.fault.Fault.TheVariants.{Schedule, Moves}
use Rattle.goi_tasks.specs.Outputs.{Output, output}

-- the status with which a schedule ends whose moves are legal: 0 where they come to an answer, and 5 where they don't
abbrev pub replay_status : Option Val → ℕ
replay_status (Some v) = 0
replay_status None = 5

-- a list of so many moves that answers is as long as the term's net, and its answer is what the term means
abbrev pub Agrees : TermTree → Option Val → ℕ → Type 0
Agrees t (Some v) moves = Means t v × Length (net_of t) v moves
Agrees t None moves = Unit {0}

-- what is told of a replay: its two lines, and behind them this part of the trace of its moves where it is asked for
abbrev pub replay_text : Option Window → NetTree → List Entry → Option Val → ℕ → List ℕ
replay_text None net log answer moves = replay_report answer moves
replay_text (Some window) net log answer moves = replay_report answer moves ++ trace_text net log window.from window.most

-- the output of these tickets on the net, which lead to this state; they name no worker, so that each move counts as worker 0's
abbrev pub replay_output : Option Window → NetTree → List ℕ → MapState → Output
replay_output window net tickets S =
    output (replay_status S.answered) (replay_text window net (read_entries tickets) S.answered (length tickets)) []

-- the output of the schedule that the text is, run on the term's net, with this part of its trace where it is asked for
pub record ReportsReplay (t : TermTree) (window : Option Window) (text : List ℕ) (o : Output) : Type 0 where
  pub tickets : List ℕ
  pub schedule : IsSchedule text tickets
  pub state : MapState
  pub led : LeadsToMap (net_of t) tickets state
  pub agrees : Agrees t state.answered (length tickets)
  pub output_is : o ≡ replay_output window (net_of t) tickets state

-- the text is a schedule whose moves are legal on the term's net, and it ends with this status
pub record EndsReplay (t : TermTree) (text : List ℕ) (status : ℕ) : Type 0 where
  pub tickets : List ℕ
  pub schedule : IsSchedule text tickets
  pub state : MapState
  pub led : LeadsToMap (net_of t) tickets state
  pub ends : status ≡ replay_status state.answered

-- the text is refused as a schedule of the term's net for this fault, which is its first; want of memory is none
pub data FaultySchedule (t : TermTree) (text : List ℕ) : Fault → Type 0 where
  -- it is no schedule
  unread : (f : ScheduleFault) → f ≢ schedule.NoMemory → ReadAs text (Err f) → FaultySchedule t text (Schedule f)
  -- it is one that the term's net can't run
  unmoved : (f : ReplayFault) (tickets : List ℕ) → f ≢ replay.NoMemory → IsSchedule text tickets → ReplaysAs (net_of t) tickets (Err f) →
      FaultySchedule t text (Moves f)

-- the output of the run of these tickets on the net, with this part of its trace where it is asked for
pub record IsReplayed (net : NetTree) (window : Option Window) (tickets : List ℕ) (o : Output) : Type 0 where
  pub state : MapState
  pub led : LeadsToMap net tickets state
  pub output_is : o ≡ replay_output window net tickets state
