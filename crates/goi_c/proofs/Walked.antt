-- Why a schedule that is run with its trace is one that is run.
use Rattle.std.proofs.Common.{◌≡◌, ℕ, List, Option, None, Result, Ok, Err, IfOk, refl, ap, ◌∙◌}
use Rattle.pcf_values.specs.Terms.{TermTree}
use Rattle.net_build.specs.Nets.{NetTree}
use Rattle.net_build.specs.NetOf.{net_of}
use Rattle.program_runs.specs.declared.calling.Calling.TheVariants.{ByName}
use Rattle.program_runs.specs.Nets.{RunsAs, IsNetFor}
use Rattle.program_runs.specs.Programs.{OfGround}
use Rattle.goi_jobs.specs.declared.window.Window.{Window}
use Rattle.goi_tasks.specs.declared.fault.Fault.{Fault}
use Rattle.goi_tasks.specs.declared.report.Report.{Report}
use Rattle.goi_tasks.specs.declared.stop.Stop.{Stop}
use Rattle.goi_tasks.specs.Outputs.{Output}
use Rattle.goi_tasks.specs.Seen.{output_of}
use Rattle.goi_tasks.specs.Replaying.{ReportsReplay, replay_output}
use Rattle.goi_tasks.specs.Settles.{Settles, status_of_output}
use Rattle.goi_tasks.proofs.Texts.{ground_net}

-- a report of a schedule on the program's net, whatever part of its trace is asked for
pub walks_text : (bytes text : List ℕ) (window : Option Window) (net : NetTree) → IsNetFor ByName bytes net → (r : Result Report Stop) →
    IfOk r (λ v. (t : TermTree) → RunsAs ByName t net → ReportsReplay t window text (output_of v)) →
    IfOk r (λ v. OfGround bytes (λ t. ReportsReplay t window text (output_of v)))
walks_text bytes text window net is (Ok v) h = let (t, ground, runs) = ground_net bytes net is in (t, ground, h t runs)
walks_text bytes text window net is (Err e) h = h

module _ (bytes text : List ℕ) (window : Option Window) where
  abbrev Right : Option Window → Output → Type 0
  Right w o = OfGround bytes (λ t. ReportsReplay t w text o)

  -- what is told without a trace, with the same status
  untraced : (o : Output) → Right window o → (p : Output) × Right None p × (o.status ≡ p.status)
  untraced o (t, ground, r) = (
    replay_output None (net_of t) r.tickets r.state,
    (
      t,
      ground,
      record {
        tickets = r.tickets;
        schedule = r.schedule;
        state = r.state;
        led = r.led;
        agrees = r.agrees;
        output_is = refl;
      },
    ),
    ap (λ (x : Output). x.status) r.output_is,
  )

  pub walks_settle : (ends : ℕ → Type 0) (faulty : Fault → Type 0) → Settles status_of_output (Right None) ends faulty →
      Settles status_of_output (Right window) ends faulty
  walks_settle ends faulty s = record {
    one_status = λ o own h k. (let (p, right, e) = untraced o h in e ∙ s.one_status p own right k);
    right_or_faulty = λ o f h k. (let (p, right, e) = untraced o h in s.right_or_faulty p f right k);
    ends_or_faulty = λ own f h k. s.ends_or_faulty own f h k;
    one_fault = λ f g h k. s.one_fault f g h k;
  }
