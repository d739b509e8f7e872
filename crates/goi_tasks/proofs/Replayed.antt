-- What a schedule that was run on a program's net says of the program.
use Rattle.std.proofs.Common.{◌≡◌, ℕ, ◌≤◌, List, [], length, Result, Ok, Err, IfOk, IfErr, IsErrAnd, Option, Some}
use Rattle.std.proofs.Common.{None, refl, sym, ap, ◌∙◌, subst, arith, inl, inr}
use Rattle.pcf_values.specs.declared.val.Val.{Val}
use Rattle.pcf_values.specs.Most.{most_moves}
use Rattle.pcf_values.specs.Terms.{TermTree}
use Rattle.net_build.specs.Nets.{NetTree}
use Rattle.net_build.specs.NetOf.{net_of}
use Rattle.interleave_laws.specs.Maps.{LeadsToMap}
use Rattle.cbn_meaning.specs.Meaning.{Means}
use Rattle.adequacy_laws.specs.Questions.{Length}
use Rattle.schedule_log.specs.declared.fault.ScheduleFault.{ScheduleFault}
use Rattle.schedule_log.specs.declared.fault.ScheduleFault.TheVariants as schedule
use Rattle.schedule_log.specs.declared.entry.Entry.{Entry}
use Rattle.schedule_log.specs.Logs.{read_entries, tickets_in_log}
use Rattle.schedule_log.specs.LogsSeen.{LogSeen, read_log}
use Rattle.schedule_log.proofs.Texts.{tickets_length}
use Rattle.walk_text.specs.Whole.{LeadsSomewhere}
use Rattle.goi_jobs.specs.declared.window.Window.{Window}
use Rattle.schedule_log.specs.Schedules.{IsSchedule, ReadAs}
use Rattle.schedule_log.proofs.Taken.{tickets_all}
use Rattle.replay_check.specs.declared.fault.ReplayFault.{ReplayFault}
use Rattle.replay_check.specs.declared.fault.ReplayFault.TheVariants as replay
use Rattle.replay_check.specs.declared.replayed.Replayed.{Replayed}
use Rattle.replay_check.specs.Replays.{IsRunOf, ReplaysAs}
use Rattle.program_runs.specs.declared.calling.Calling.TheVariants.{ByName}
use Rattle.program_runs.specs.Nets.{RunsAs, IsNetFor}
use Rattle.program_runs.specs.Programs.{number, OfGround}
use Rattle.program_runs.specs.Runs.{Tells}
use Rattle.goi_tasks.specs.declared.fault.Fault.{Fault}
use Rattle.goi_tasks.specs.declared.report.Report.{Report}
use Rattle.goi_tasks.specs.declared.stop.Stop.{Stop}
use Rattle.goi_tasks.specs.Outputs.{Output, output}
use Rattle.goi_tasks.specs.Seen.{output_of}
use Rattle.goi_tasks.specs.Replaying.{replay_status, replay_text, replay_output, Agrees, ReportsReplay, FaultySchedule, unread, unmoved}
use Rattle.goi_tasks.specs.Replaying.{IsReplayed}
use Rattle.goi_tasks.specs.Parts.{FaultyReplay, no_moves}
use Rattle.goi_tasks.specs.Stops.{StopsFor, stop_of_schedule, stop_of_replay}
use Rattle.goi_tasks.specs.Programs.{FaultyText, FaultyEither}
use Rattle.goi_tasks.proofs.Texts.{faults_weaker, ground_net}

-- the log of a schedule has no more moves than the limit
pub few_moves : (text : List ℕ) (log : List Entry) → IsSchedule text (tickets_in_log log) → length log ≤ most_moves
few_moves text log h =
    let e = ap length h.tickets_are in
    let n = tickets_length h.runs in
    let m = tickets_all log in
    omega (arith, e, n, m, h.whole.few)

-- a log that was read has the entries of its tickets
pub read_so : (l : LogSeen) → l ≡ read_log (tickets_in_log l.entries) → l.entries ≡ read_entries (tickets_in_log l.entries)
read_so l e = ap (λ (m : LogSeen). m.entries) e

-- a log that has a run leads somewhere
pub leads_of : (net : NetTree) (log : List Entry) (r : Replayed) → IsRunOf net (tickets_in_log log) r → LeadsSomewhere net log
leads_of net log r h = (h.state, h.led)

-- the output of a replay
pub replayed : (net : NetTree) (window : Option Window) (log : List Entry) (r : Replayed) → log ≡ read_entries (tickets_in_log log) →
    IsRunOf net (tickets_in_log log) r → (status : ℕ) → status ≡ replay_status r.answer → (text : List ℕ) →
    text ≡ replay_text window net log r.answer r.moves → (o : Output) → o ≡ output status text [] →
    IsReplayed net window (tickets_in_log log) o
replayed net window log r own h status e text is o same = record {
  state = h.state;
  led = h.led;
  output_is =
      same
      ∙ ap (λ (s : ℕ). output s text []) (e ∙ ap replay_status h.answer)
      ∙ ap (λ (x : List ℕ). output (replay_status h.state.answered) x [])
      (is
      ∙ ap (λ (es : List Entry). replay_text window net es r.answer r.moves) own
      ∙ ap (λ (a : Option Val). replay_text window net (read_entries (tickets_in_log log)) a r.moves) h.answer
      ∙ ap (λ (m : ℕ). replay_text window net (read_entries (tickets_in_log log)) h.state.answered m) h.moves);
}

-- an answer is what the term means, and then the list is as long as the net
agrees : (t : TermTree) (net : NetTree) (answer : Option Val) (moves : ℕ) → net ≡ net_of t → Tells (Means t) net moves answer moves →
    Agrees t answer moves
agrees t net None moves same h = tt
agrees t net (Some v) moves same h = (h.0, subst (λ (n : NetTree). Length n v moves) same h.1)

module _ (t : TermTree) (net : NetTree) (is : RunsAs ByName t net) where
  right : (window : Option Window) (text tickets : List ℕ) → IsSchedule text tickets → (o : Output) → IsReplayed net window tickets o →
      ReportsReplay t window text o
  right window text tickets s o h =
      let tells = is.tells tickets h.state h.led (length tickets) (omega arith, λ none. refl) in
      record {
        tickets = tickets;
        schedule = s;
        state = h.state;
        led = subst (λ (n : NetTree). LeadsToMap n tickets h.state) is.net_is h.led;
        agrees = agrees t net h.state.answered (length tickets) is.net_is tells;
        output_is = subst (λ (n : NetTree). o ≡ replay_output window n tickets h.state) is.net_is h.output_is;
      }

-- so the report is that of the schedule on the term's net
pub rights : (net : NetTree) (window : Option Window) (text tickets : List ℕ) → IsSchedule text tickets → (r : Result Report Stop) →
    IfOk r (λ v. IsReplayed net window tickets (output_of v)) →
    IfOk r (λ v. (t : TermTree) → RunsAs ByName t net → ReportsReplay t window text (output_of v))
rights net window text tickets s (Ok v) h = λ t is. right t net is window text tickets s (output_of v) h
rights net window text tickets s (Err e) h = h

-- and the fault is that of the schedule
faulty : (net : NetTree) (text tickets : List ℕ) → IsSchedule text tickets → (f : Fault) → FaultyReplay net tickets f → (t : TermTree) →
    RunsAs ByName t net → FaultySchedule t text f
faulty net text tickets s _ (no_moves f n h) = λ t is.
    unmoved f tickets n s (subst (λ (n : NetTree). ReplaysAs n tickets (Err f)) is.net_is h)

pub faulties : (net : NetTree) (text tickets : List ℕ) → IsSchedule text tickets → (r : Result Report Stop) →
    IfErr r (λ e. StopsFor (FaultyReplay net tickets) e) →
    IfErr r (λ e. StopsFor (λ f. (t : TermTree) → RunsAs ByName t net → FaultySchedule t text f) e)
faulties net text tickets s r h =
    faults_weaker (FaultyReplay net tickets) (λ f. (t : TermTree) → RunsAs ByName t net → FaultySchedule t text f) r
    (faulty net text tickets s) h

-- ---- a schedule on the net of a text's program

pub replays_text : (bytes text : List ℕ) (net : NetTree) → IsNetFor ByName bytes net → (r : Result Report Stop) →
    IfOk r (λ v. (t : TermTree) → RunsAs ByName t net → ReportsReplay t None text (output_of v)) →
    IfOk r (λ v. OfGround bytes (λ t. ReportsReplay t None text (output_of v)))
replays_text bytes text net is (Ok v) h = let (t, ground, runs) = ground_net bytes net is in (t, ground, h t runs)
replays_text bytes text net is (Err e) h = h

pub faults_either : (bytes text : List ℕ) (net : NetTree) → IsNetFor ByName bytes net → (r : Result Report Stop) →
    IfErr r (λ e. StopsFor (λ f. (t : TermTree) → RunsAs ByName t net → FaultySchedule t text f) e) →
    IfErr r (λ e. StopsFor (λ f. FaultyEither bytes (λ t. FaultySchedule t text f) f) e)
faults_either bytes text net is r h =
    let (t, ground, runs) = ground_net bytes net is in
    faults_weaker (λ f. (t : TermTree) → RunsAs ByName t net → FaultySchedule t text f)
    (λ f. FaultyEither bytes (λ t. FaultySchedule t text f) f) r (λ f k. inr (t, ground, k t runs)) h

pub faults_first : (bytes text : List ℕ) (r : Result Report Stop) → IfErr r (λ e. StopsFor (FaultyText number bytes) e) →
    IfErr r (λ e. StopsFor (λ f. FaultyEither bytes (λ t. FaultySchedule t text f) f) e)
faults_first bytes text r h =
    faults_weaker (FaultyText number bytes) (λ f. FaultyEither bytes (λ t. FaultySchedule t text f) f) r (λ f k. inl k) h

-- a replay that goes wrong stops for its fault
pub stops_unmoved : (net : NetTree) (tickets : List ℕ) (f : ReplayFault) → ReplaysAs net tickets (Err f) →
    StopsFor (FaultyReplay net tickets) (stop_of_replay f)
stops_unmoved net tickets replay.NoMemory h = tt
stops_unmoved net tickets (replay.NotLive place ticket) h = no_moves (replay.NotLive place ticket) (λ e. cc) h
stops_unmoved net tickets (replay.AfterAnswer place) h = no_moves (replay.AfterAnswer place) (λ e. cc) h

-- a text that is no schedule
pub not_read : (net : NetTree) (text : List ℕ) (f : ScheduleFault) → ReadAs text (Err f) →
    StopsFor (λ g. (t : TermTree) → RunsAs ByName t net → FaultySchedule t text g) (stop_of_schedule f)
not_read net text schedule.NoMemory h = tt
not_read net text schedule.BadHeader h = λ t same. unread _ (λ e. cc) h
not_read net text (schedule.BadLine n) h = λ t same. unread _ (λ e. cc) h
not_read net text (schedule.TicketTooWide n) h = λ t same. unread _ (λ e. cc) h
not_read net text schedule.NoEnd h = λ t same. unread _ (λ e. cc) h
not_read net text (schedule.TooLong n) h = λ t same. unread _ (λ e. cc) h

pub stops_by : {V : Type 0} (r : Result V Stop) (s : Stop) (P : Fault → Type 0) → IsErrAnd r (λ e. e ≡ s) → StopsFor P s →
    IfErr r (λ e. StopsFor P e)
stops_by (Ok v) s P h p = absurd h
stops_by (Err e) s P h p = subst (λ (x : Stop). StopsFor P x) (sym h) p
