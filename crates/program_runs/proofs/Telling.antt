-- What a run of a program's net says of the program, by name and by value.
use Rattle.std.proofs.Common.{◌≡◌, ℕ, List, [], length, Option, Some, None, refl, sym, ap, ◌∙◌, subst, arith}
use Rattle.pcf_values.specs.declared.val.Val.{Val}
use Rattle.pcf_values.specs.Terms.{TermTree, nat}
use Rattle.pcf_values.specs.Typing.{HasType}
use Rattle.cbn_meaning.specs.Meaning.{Means}
use Rattle.net_build.specs.Nets.{NetTree}
use Rattle.net_build.specs.NetOf.{net_of}
use Rattle.interleave_laws.specs.States.{State}
use Rattle.interleave_laws.specs.Finished.{Finished}
use Rattle.interleave_laws.proofs.MapLaws.{leads_seen}
use Rattle.adequacy_laws.specs.Adequacy.{BuiltRuns}
use Rattle.adequacy_laws.specs.Questions.{Length}
use Rattle.adequacy_laws.specs.FinishedLaws.{TellsMeaning, FinishedMeans, MapFinishedMeans}
use Rattle.schedule_log.specs.declared.entry.Entry.{Entry}
use Rattle.schedule_log.specs.Logs.{tickets_in_log}
use Rattle.schedule_log.proofs.Taken.{tickets_all}
use Rattle.net_runs.specs.IsRun.{IsRun, IsFirstWorkers}
use Rattle.program_runs.specs.Laws.{MovesTell, RunsTell}
use Rattle.program_runs.specs.declared.calling.Calling.{Calling}
use Rattle.program_runs.specs.Nets.{RunsAs, IsNetFor}
use Rattle.program_runs.specs.RunsText.{RunsText}
use Rattle.program_runs.specs.Runs.{meaning, run_as, net_run, Tells, IsProgramRun}

-- what a finished run tells of the term
told : (t : TermTree) (budget : ℕ) (tickets : List ℕ) (answer : Option Val) (moves : ℕ) → length tickets ≡ moves →
    TellsMeaning t tickets answer budget → Tells (Means t) (net_of t) budget answer moves
told t budget tickets None moves n h = (h.unanswered.0 refl, sym n ∙ h.spent refl)
told t budget tickets (Some v) moves n h =
    let means = (h.answers v).0 refl in
    let long = h.as_long v refl in
    (means.0, subst (λ (m : ℕ). Length (net_of t) v m) n long.0, omega (arith, n, long.1))

pub moves_tell : MapFinishedMeans → MovesTell
moves_tell law t typed log S led budget finished = told t budget log S.answered (length log) refl (law t typed log S led budget finished)

-- and so does a run of any number of workers
pub runs_tell : FinishedMeans → RunsTell
runs_tell law t typed workers budget answer log r alone =
    let tickets = tickets_in_log log in
    let finished = subst (λ (a : Option Val). Finished a tickets budget) r.answers r.finished in
    let means = subst (λ (a : Option Val). TellsMeaning t tickets a budget) (sym r.answers)
    (law t typed tickets r.state r.led budget finished) in
    record { is_run = r; alone = alone; tells = told t budget tickets answer (length log) (tickets_all log) means }

-- what a run says of one meaning, it says of another that is had wherever the first is
of_other : (means other : Val → Type 0) → ((v : Val) → means v → other v) → (net : NetTree) (budget : ℕ) (answer : Option Val) (moves : ℕ) →
    Tells means net budget answer moves → Tells other net budget answer moves
of_other means other go net budget None moves h = h
of_other means other go net budget (Some v) moves h = (go v h.0, h.1, h.2)

-- ---- the net of a text runs, and what a run of it is worth

module _ (built : BuiltRuns) (law : MovesTell) (calling : Calling) (t : TermTree) where
  own : HasType [] (run_as calling t) nat → ((v : Val) → Means (run_as calling t) v → meaning calling t v) →
      RunsAs calling t (net_run calling t)
  own typed means = record {
    typed = typed;
    net_is = refl;
    runs = built (run_as calling t) typed;
    tells = λ log S led budget finished.
        of_other (Means (run_as calling t)) (meaning calling t) means (net_run calling t) budget S.answered (length log)
        (law (run_as calling t) typed log S led budget finished);
  }

  -- the net of the term that runs for a term is one on which this term runs
  pub runs_as : HasType [] (run_as calling t) nat → ((v : Val) → Means (run_as calling t) v → meaning calling t v) → (net : NetTree) →
      net ≡ net_run calling t → RunsAs calling t net
  runs_as typed means net same = subst (λ (n : NetTree). RunsAs calling t n) (sym same) (own typed means)

-- so a run of that net by any number of workers is one of the term
pub run_of : (calling : Calling) (t : TermTree) (net : NetTree) → RunsAs calling t net → (workers budget : ℕ) (answer : Option Val)
    (log : List Entry) → IsRun net workers budget answer log → (workers ≡ 1 → IsFirstWorkers net budget log) →
    IsProgramRun (meaning calling t) (net_run calling t) workers budget answer log
run_of calling t net is workers budget answer log r alone =
    let tickets = tickets_in_log log in
    let (S, led, same) = leads_seen net tickets r.state r.led in
    let answers : answer ≡ S.answered = r.answers ∙ sym (ap (λ (T : State). T.answered) same) in
    let finished = subst (λ (a : Option Val). Finished a tickets budget) answers r.finished in
    let by_state = is.tells tickets S led budget finished in
    let by_answer = subst (λ (a : Option Val). Tells (meaning calling t) net budget a (length tickets)) (sym answers) by_state in
    let tells = subst (λ (n : ℕ). Tells (meaning calling t) net budget answer n) (tickets_all log) by_answer in
    subst (λ (n : NetTree). IsProgramRun (meaning calling t) n workers budget answer log) is.net_is
    (record { is_run = r; alone = alone; tells = tells })

pub text_run : (calling : Calling) (bytes : List ℕ) (net : NetTree) → IsNetFor calling bytes net → (workers budget : ℕ)
    (answer : Option Val) (log : List Entry) → IsRun net workers budget answer log → (workers ≡ 1 → IsFirstWorkers net budget log) →
    RunsText calling workers budget bytes answer log
text_run calling bytes net is workers budget answer log r alone = record {
  tree = is.tree;
  term = is.term;
  type = is.type;
  is = is.is;
  so = run_of calling is.term net is.so workers budget answer log r alone;
}
