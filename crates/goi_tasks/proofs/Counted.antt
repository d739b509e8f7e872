-- The reports that are made of the run of a net with the newest question first, and of the counts of its circuit's: of what the circuit
-- needs, of the schedule, and its bench.
use Rattle.std.proofs.Common.{◌≡◌, ℕ, true, false, List, [], length, Option, refl, sym, ap, ◌∙◌, subst, arith}
use Rattle.pcf_values.specs.declared.val.Val.{Val}
use Rattle.pcf_values.specs.Terms.{TermTree}
use Rattle.cbn_meaning.specs.Meaning.{Means}
use Rattle.net_build.specs.Nets.{NetTree}
use Rattle.net_build.specs.NetOf.{net_of}
use Rattle.interleave_laws.specs.Maps.{MapState, LeadsToMap}
use Rattle.newest_runs.specs.Order.{newest_first}
use Rattle.newest_runs.proofs.Going.{newest_finished}
use Rattle.joined_needs.specs.declared.needs.Needs.{Needs}
use Rattle.circuit_made.specs.Made.{CountsOf}
use Rattle.schedule_log.specs.declared.entry.Entry.{Entry}
use Rattle.schedule_log.specs.Logs.{by}
use Rattle.token_pool.proofs.Moving.{made_by}
use Rattle.program_runs.specs.declared.calling.Calling.TheVariants.{ByName}
use Rattle.program_runs.specs.Nets.{RunsAs}
use Rattle.program_runs.specs.Runs.{Tells}
use Rattle.goi_reports.specs.Booked.{BookedWithin}
use Rattle.goi_reports.specs.Reports.{run_report}
use Rattle.goi_tasks.specs.Outputs.{Output, output}
use Rattle.goi_tasks.specs.Replaying.{replay_status}
use Rattle.goi_tasks.specs.Needs.{counts_text, ReportsNeeds, schedule_report, ReportsSchedule}
use Rattle.goi_tasks.specs.Verilogs.{bench_report, ReportsBench}
use Rattle.goi_tasks.proofs.CircuitRuns.{program_net}

-- the moves of the net's circuit within the budget come to this answer, or none
abbrev pub Comes : NetTree → ℕ → Option Val → Type 0
Comes net budget answer = (S : MapState) × LeadsToMap net (newest_first net budget) S × (answer ≡ S.answered)

-- it says of each term that runs on the net what a run says
tells : (net : NetTree) (budget : ℕ) (answer : Option Val) → Comes net budget answer → (t : TermTree) → RunsAs ByName t net →
    Tells (Means t) net budget answer (length (newest_first net budget))
tells net budget answer (S, led, same) t is =
    subst (λ (o : Option Val). Tells (Means t) net budget o (length (newest_first net budget))) (sym same)
    (is.tells (newest_first net budget) S led budget (newest_finished net is.runs budget S led))

-- and with so many moves, on the term's own net
counted_tells : (net : NetTree) (budget : ℕ) (answer : Option Val) (moves : ℕ) → moves ≡ length (newest_first net budget) →
    Comes net budget answer → (t : TermTree) → RunsAs ByName t net → Tells (Means t) (net_of t) budget answer moves
counted_tells net budget answer moves many led t is =
    subst (λ (n : NetTree). Tells (Means t) n budget answer moves) is.net_is
    (subst (λ (n : ℕ). Tells (Means t) net budget answer n) (sym many) (tells net budget answer led t is))

-- the output is that of what each such term's circuit needs
pub reports_needs : (net : NetTree) (budget : ℕ) (answer : Option Val) (moves : ℕ) → moves ≡ length (newest_first net budget) →
    Comes net budget answer → (counts : Needs) → CountsOf net [] [] budget counts → (status : ℕ) → status ≡ replay_status answer →
    (text : List ℕ) → text ≡ counts_text answer moves counts counts.ending → (o : Output) → o ≡ output status text [] →
    (t : TermTree) → RunsAs ByName t net → ReportsNeeds budget t o
reports_needs net budget answer moves many led counts counted status e text lines o told t is = record {
  answer = answer;
  moves = moves;
  tells = counted_tells net budget answer moves many led t is;
  counts = counts;
  counted = counted t 0 (program_net t net is) refl tt;
  ends = ap (λ (x : Output). x.status) told ∙ e;
  report_is = ap (λ (x : Output). x.report) told ∙ lines;
  no_notes = ap (λ (x : Output). x.notes) told;
}

-- the output is that of the bench of each such term's circuit
pub reports_bench : (name : List ℕ) (net : NetTree) (budget : ℕ) (answer : Option Val) (moves : ℕ) →
    moves ≡ length (newest_first net budget) → Comes net budget answer → (status : ℕ) → status ≡ replay_status answer →
    (text : List ℕ) → text ≡ bench_report name answer moves → (o : Output) → o ≡ output status text [] →
    (t : TermTree) → RunsAs ByName t net → ReportsBench name budget t o
reports_bench name net budget answer moves many led status e text lines o told t is = record {
  answer = answer;
  moves = moves;
  tells = counted_tells net budget answer moves many led t is;
  ends = ap (λ (x : Output). x.status) told ∙ e;
  report_is = ap (λ (x : Output). x.report) told ∙ lines;
  no_notes = ap (λ (x : Output). x.notes) told;
}

-- all moves of a circuit are one worker's
pub booked_by_one : (tickets : List ℕ) (log : List Entry) → log ≡ by 0 tickets → BookedWithin 1 log
booked_by_one tickets log e = subst (BookedWithin 1) (sym e) (made_by 1 0 (omega arith) tickets)

-- the output is that of the schedule of each such term's circuit
pub reports_schedule : (net : NetTree) (budget : ℕ) (answer : Option Val) (log : List Entry) → log ≡ by 0 (newest_first net budget) →
    Comes net budget answer → (status : ℕ) → status ≡ replay_status answer → (text : List ℕ) → text ≡ run_report answer log 1 true false →
    (o : Output) → o ≡ output status text [] → (t : TermTree) → RunsAs ByName t net → ReportsSchedule budget t o
reports_schedule net budget answer log written led status e text lines o told t is = record {
  answer = answer;
  tells = subst (λ (n : NetTree). Tells (Means t) n budget answer (length (newest_first n budget))) is.net_is
      (tells net budget answer led t is);
  ends = ap (λ (x : Output). x.status) told ∙ e;
  report_is = ap (λ (x : Output). x.report) told ∙ lines ∙ ap (λ (l : List Entry). run_report answer l 1 true false) written ∙
      ap (λ (n : NetTree). schedule_report answer n budget) is.net_is;
  no_notes = ap (λ (x : Output). x.notes) told;
}
