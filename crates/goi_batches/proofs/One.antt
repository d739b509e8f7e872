-- What is told of a program is settled by its text and its budget, and so is how it ends.
use Rattle.std.proofs.Common.{◌≡◌, ◌⊎◌, ◌++◌, ◌≤◌, ◌∙◌, ℕ, Bool, true, false, if◌then◌else◌, List, [], length, Option, Some}
use Rattle.std.proofs.Common.{None, refl, sym, ap, subst, inl, inr, arith}
use Rattle.pcf_values.specs.declared.val.Val.{Val}
use Rattle.pcf_values.specs.Terms.{TermTree}
use Rattle.cbn_meaning.specs.Meaning.{Means}
use Rattle.net_build.specs.Nets.{NetTree}
use Rattle.net_build.specs.NetOf.{net_of}
use Rattle.adequacy_laws.specs.Finished.{Beyond}
use Rattle.adequacy_laws.specs.Lengths.{OneLength}
use Rattle.adequacy_laws.specs.Questions.{Length}
use Rattle.goi_reports.specs.Lines.{result_lines}
use Rattle.goi_tasks.specs.declared.fault.Fault.{Fault}
use Rattle.goi_tasks.specs.Outputs.{Output}
use Rattle.program_runs.specs.Programs.{number}
use Rattle.goi_tasks.specs.Refusals.{fault_line}
use Rattle.program_runs.specs.Runs.{Tells}
use Rattle.goi_tasks.specs.RunReports.{ReportsNet}
use Rattle.goi_jobs.specs.Tasks.{nothing_shown}
use Rattle.goi_tasks.specs.Tasks.{ReportsText}
use Rattle.program_runs.proofs.OneProgram.{same_program}
use Rattle.goi_tasks.specs.Replaying.{replay_status}
use Rattle.goi_tasks.proofs.Outcomes.{Known, text_end, report_sound, end_sound, one_text_fault}
use Rattle.goi_batches.specs.Laws.{OneSection}
use Rattle.goi_batches.specs.Sections.{Listed, Section, section, plain_run, IsSection, runs, refused, some_is, batch_status, EndsListed}

-- ---- the status of all is one of three

abbrev status_by : Bool → Bool → ℕ
status_by bad none = if bad then 1 else (if none then 5 else 0)

three_by : (bad none : Bool) → (status_by bad none ≡ 0) ⊎ (status_by bad none ≡ 1) ⊎ (status_by bad none ≡ 5)
three_by true none = inr (inl refl)
three_by false true = inr (inr refl)
three_by false false = inl refl

pub three : (ss : List ℕ) → (batch_status ss ≡ 0) ⊎ (batch_status ss ≡ 1) ⊎ (batch_status ss ≡ 5)
three ss = three_by (some_is 1 ss) (some_is 5 ss)

-- ---- what two runs of one net tell is one text

-- a text and a status by what a run came to
abbrev told : Option Val → ℕ → ℕ → Section
told answer moves status = section status (result_lines answer moves ++ ([] ++ []))

too_short : (net : NetTree) (budget : ℕ) (v : Val) (n : ℕ) → Length net v n → n ≤ budget → Beyond net budget → ⊥
too_short net budget v n long within beyond = let k = beyond v n long in omega (arith, k, within)

same_told : OneLength → (means : Val → Type 0) (net : NetTree) (budget : ℕ) (a b : Option Val) (m n : ℕ) →
    Tells means net budget a m → Tells means net budget b n → told a m (replay_status a) ≡ told b n (replay_status b)
same_told one means net budget (Some v) (Some w) m n (p, long, most) (q, other, limit) =
    let both = one net v w m n long other in
    ap (λ (x : Val). told (Some x) m 0) both.0 ∙ ap (λ (x : ℕ). told (Some w) x 0) both.1
same_told one means net budget (Some v) None m n (p, long, most) (beyond, spent) = absurd (too_short net budget v m long most beyond)
same_told one means net budget None (Some w) m n (beyond, spent) (p, long, most) = absurd (too_short net budget w n long most beyond)
same_told one means net budget None None m n (beyond, spent) (far, all) = ap (λ (x : ℕ). told None x 5) (spent ∙ sym all)

-- the section of a run's output is what it came to
told_of : (workers budget : ℕ) (means : Val → Type 0) (net : NetTree) (o : Output)
    (h : ReportsNet means net workers budget nothing_shown o) →
    section o.status o.report ≡ told h.answer (length h.log) (replay_status h.answer)
told_of workers budget means net o h = ap (λ (z : List ℕ). section o.status z) h.report_is ∙ ap (told h.answer (length h.log)) h.ends

module _ (known : Known) where
  -- ---- it ends as it is told to end

  pub section_end : (workers : ℕ) (p : Listed) (s : Section) (own : ℕ) → IsSection workers p s → EndsListed p own → s.status ≡ own
  section_end workers p _ own (runs o h) (inl k) = text_end known workers (plain_run p.budget) p.bytes o own h k
  section_end workers p _ own (runs o h) (inr (f, k, e)) = absurd (report_sound known workers (plain_run p.budget) p.bytes o f h k)
  section_end workers p _ own (refused f h) (inl k) = absurd (end_sound known (plain_run p.budget) p.bytes own f k h)
  section_end workers p _ own (refused f h) (inr (g, k, e)) = sym e

  -- ---- a program's section

  module _ (lengths : OneLength) where
    same_run : (p : Listed) (workers others : ℕ) (o u : Output) → ReportsText workers (plain_run p.budget) p.bytes o →
        ReportsText others (plain_run p.budget) p.bytes u → section o.status o.report ≡ section u.status u.report
    same_run p workers others o u h k =
        let e : h.term ≡ k.term = same_program known.one_program number p.bytes _ _ h k in
        let tells = subst (λ (t : TermTree). Tells (Means t) (net_of t) p.budget h.so.answer (length h.so.log)) e h.so.run.tells in
        told_of workers p.budget (Means h.term) (net_of h.term) o h.so
        ∙ same_told lengths (Means k.term) (net_of k.term) p.budget h.so.answer k.so.answer (length h.so.log) (length k.so.log)
        tells k.so.run.tells
        ∙ sym (told_of others p.budget (Means k.term) (net_of k.term) u k.so)

    pub one_section : OneSection
    one_section p workers others _ _ (runs o h) (runs u k) = same_run p workers others o u h k
    one_section p workers others _ _ (runs o h) (refused f k) = absurd (report_sound known workers (plain_run p.budget) p.bytes o f h k)
    one_section p workers others _ _ (refused f h) (runs o k) = absurd (report_sound known others (plain_run p.budget) p.bytes o f k h)
    one_section p workers others _ _ (refused f h) (refused g k) =
        ap (λ (x : Fault). section 1 (fault_line x)) (one_text_fault known number p.bytes f g h k)
