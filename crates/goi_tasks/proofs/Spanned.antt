-- The report that is made of a run in rounds.
use Rattle.std.proofs.Common.{◌≡◌, ◌<◌, ◌≤◌, ℕ, suc, Bool, List, [], length, Option, Some, None, refl, sym, ap, ◌∙◌, subst}
use Rattle.pcf_values.specs.declared.val.Val.{Val}
use Rattle.pcf_values.specs.Terms.{TermTree}
use Rattle.net_build.specs.Nets.{NetTree}
use Rattle.interleave_laws.specs.Maps.{MapState, LeadsToMap, seen}
use Rattle.interleave_laws.specs.Finished.{Finished}
use Rattle.adequacy_laws.specs.Questions.{Length, Span}
use Rattle.adequacy_laws.specs.Finished.{Beyond}
use Rattle.round_laws.specs.Rounds.{round_log}
use Rattle.round_laws.specs.AfterRounds.{rounds}
use Rattle.round_runs.specs.Profiles.{profile_of, greatest}
use Rattle.goi_reports.specs.Spans.{span_report}
use Rattle.program_runs.specs.declared.calling.Calling.{Calling}
use Rattle.program_runs.specs.Nets.{RunsAs}
use Rattle.program_runs.specs.Runs.{Tells, meaning}
use Rattle.goi_tasks.specs.Outputs.{Output, output}
use Rattle.goi_tasks.specs.Replaying.{replay_status}
use Rattle.goi_tasks.specs.Rounds.{TellsSpan, ReportsSpan}

-- what is known of rounds that were made of a net within a budget: their tickets and widths, and that an answer or the budget ended them
pub record Made (net : NetTree) (budget : ℕ) (answer : Option Val) (k : ℕ) (tickets widths : List ℕ) (widest : ℕ) : Type 0 where
  pub log : tickets ≡ round_log net k
  pub profile : widths ≡ profile_of net k
  pub most : widest ≡ greatest widths
  pub within : length tickets ≤ budget
  pub led : (S : MapState) × LeadsToMap net tickets S × (rounds net k ≡ Some (seen S)) × (answer ≡ S.answered)
  pub span : (v : Val) → answer ≡ Some v → Span net v k
  pub beyond : answer ≡ None → Beyond net budget
  pub spent : answer ≡ None → budget < length (round_log net (suc k))

module _ (net : NetTree) (budget : ℕ) (answer : Option Val) (k : ℕ) (tickets widths : List ℕ) (widest : ℕ)
    (made : Made net budget answer k tickets widths widest) where
  -- they say of each term that runs on the net what rounds say
  tells : (calling : Calling) (t : TermTree) → RunsAs calling t net → TellsSpan (meaning calling t) net budget answer k
  tells calling t is = go answer refl
    where
      long : length tickets ≡ length (round_log net k)
      long = ap length made.log

      go : (o : Option Val) → answer ≡ o → TellsSpan (meaning calling t) net budget o k
      go None e = (made.beyond e, subst (λ n. n ≤ budget) long made.within, made.spent e)
      go (Some v) e =
          let (S, led, _, same) = made.led in
          let finished : Finished S.answered tickets budget =
          (made.within, λ none. let bad : Some v ≡ None = sym e ∙ same ∙ none in absurd cc) in
          let told : Tells (meaning calling t) net budget (Some v) (length tickets) =
          subst (λ o. Tells (meaning calling t) net budget o (length tickets)) (sym same ∙ e) (is.tells tickets S led budget finished) in
          (told.0, made.span v e, subst (Length net v) long told.1, subst (λ n. n ≤ budget) long made.within)

  -- the output is that of a run in rounds of each such term
  pub reports_span : (profile schedule : Bool) (status : ℕ) → status ≡ replay_status answer → (text : List ℕ) →
      text ≡ span_report answer k tickets widths widest profile schedule → (o : Output) → o ≡ output status text [] →
      (calling : Calling) (t : TermTree) → RunsAs calling t net → ReportsSpan budget calling profile schedule t o
  reports_span profile schedule status e text lines o told calling t is = record {
    answer = answer;
    rounds = k;
    tells = subst (λ (n : NetTree). TellsSpan (meaning calling t) n budget answer k) is.net_is (tells calling t is);
    ends = ap (λ (x : Output). x.status) told ∙ e;
    report_is =
        ap (λ (x : Output). x.report) told ∙ lines
        ∙ ap (λ (l : List ℕ). span_report answer k l widths widest profile schedule) made.log
        ∙ ap (λ (w : ℕ). span_report answer k (round_log net k) widths w profile schedule) made.most
        ∙ ap (λ (l : List ℕ). span_report answer k (round_log net k) l (greatest l) profile schedule) made.profile
        ∙ ap (λ (n : NetTree). span_report answer k (round_log n k) (profile_of n k) (greatest (profile_of n k)) profile schedule)
        is.net_is;
    no_notes = ap (λ (x : Output). x.notes) told;
  }
