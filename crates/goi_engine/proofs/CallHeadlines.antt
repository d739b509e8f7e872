-- What each status means of a call, told in its own words, and the headline of a call: as it is with a run.
use Rattle.std.proofs.Common.{◌≡◌, ℕ, List, [], length, Option, Some, false, refl, sym, ap, ◌∙◌, subst}
use Rattle.pcf_values.specs.Terms.{TermTree}
use Rattle.cbn_meaning.specs.Meaning.{Means}
use Rattle.net_build.specs.NetOf.{net_of}
use Rattle.adequacy_laws.specs.Lengths.{OneLength}
use Rattle.adequacy_laws.specs.Questions.{Length}
use Rattle.open_net_laws.specs.Applied.{applied}
use Rattle.function_runs.specs.Functions.{FaultyFunction}
use Rattle.function_runs.specs.Laws.{OneFunction}
use Rattle.program_runs.specs.declared.fault.ProgramFault.{ProgramFault}
use Rattle.goi_tasks.specs.declared.fault.Fault.{Fault}
use Rattle.goi_tasks.specs.Calls.{ReportsCall, FaultyCall}
use Rattle.goi_tasks.specs.Outputs.{Output}
use Rattle.goi_tasks.specs.Refusals.{IsLine, fault_status}
use Rattle.goi_jobs.specs.Tasks.{nothing_shown}
use Rattle.goi_jobs.specs.Jobs.{JobTree, call}
use Rattle.goi_engine.specs.Calls.{Call}
use Rattle.goi_engine.specs.FilesSeen.{OfFile}
use Rattle.goi_engine.specs.CallHeadline.{IsFunction, CallOutcome, at_value, at_none, at_fault, CallsFile, CallPromise, CallHeadline}
use Rattle.goi_engine.specs.CallHeadline.{OneCallOutcome}
use Rattle.goi_engine.specs.Promise.{Meanings}
use Rattle.goi_engine.specs.Verdicts.{Reports, Refuses}
use Rattle.goi_engine.proofs.Coming.{OutcomeOf, value, none, fault, reported, refused_line, no_other, one_thing, of_told, possibly}
use Rattle.goi_engine.proofs.Coming.{some_bytes, right, comes}

module _ (bytes numbers : List ℕ) (budget : ℕ) where
  -- the term that runs: the text's, applied to the numbers
  pub record Runs (t : TermTree) : Type 0 where
    pub term : TermTree
    pub is : IsFunction bytes numbers term
    pub at : t ≡ applied term numbers

  -- why nothing runs
  abbrev NotRun : ProgramFault → Type 0
  NotRun = FaultyFunction (length numbers) bytes

  -- what a call comes to, in the words of the statement and in those of the proof
  abbrev Of : ℕ → List ℕ → List ℕ → Type 0
  Of = OutcomeOf Runs NotRun budget

  runs : (m : TermTree) → IsFunction bytes numbers m → Runs (applied m numbers)
  runs m is = record { term = m; is = is; at = refl }

  said : (s : ℕ) (report line : List ℕ) → Of s report line → CallOutcome bytes numbers budget s report line
  said _ _ _ (value t v n so means long within) =
      at_value so.term v n so.is (subst (λ (x : TermTree). Means x v) so.at means)
      (subst (λ (x : TermTree). Length (net_of x) v n) so.at long) within
  said _ _ _ (none t so beyond) =
      at_none so.term so.is (λ v n long. beyond v n (subst (λ (x : TermTree). Length (net_of x) v n) (sym so.at) long))
  said _ _ _ (fault f h) = at_fault f h

  meant : (s : ℕ) (report line : List ℕ) → CallOutcome bytes numbers budget s report line → Of s report line
  meant _ _ _ (at_value m v n is means long within) = value (applied m numbers) v n (runs m is) means long within
  meant _ _ _ (at_none m is beyond) = none (applied m numbers) (runs m is) beyond
  meant _ _ _ (at_fault f h) = fault f h

  -- a text is one function of so many numbers, or has one first fault as such
  module _ (one : OneFunction) where
    same_runs : (t u : TermTree) → Runs t → Runs u → t ≡ u
    same_runs t u h k =
        let e = one.one_function (length numbers) bytes (h.term, length numbers) (k.term, length numbers) h.is k.is in
        h.at ∙ ap (λ (f : TermTree × ℕ). applied f.0 numbers) e ∙ sym k.at

    sound : (t : TermTree) (f : ProgramFault) → Runs t → NotRun f → ⊥
    sound t f h k = one.not_both (length numbers) bytes (h.term, length numbers) f h.is k

  of_report : (workers : ℕ) (o : Output) → ReportsCall workers budget nothing_shown numbers bytes o →
      CallOutcome bytes numbers budget o.status o.report o.notes
  of_report workers o k =
      said o.status o.report o.notes (reported Runs NotRun budget (applied k.term numbers) (runs k.term k.is) workers o k.so)

  of_fault : (f : Fault) (line : List ℕ) → IsLine f line → FaultyCall numbers bytes f → CallOutcome bytes numbers budget 1 [] line
  of_fault f line is h = said 1 [] line (refused_line Runs NotRun budget f line h is)

  of_program : (f : Fault) → fault_status f ≡ 7 → FaultyCall numbers bytes f → ⊥
  of_program f e h = no_other Runs NotRun budget f h e

-- what the statuses mean of a call
calls_file : (file numbers : List ℕ) (workers budget : ℕ) (c : Call) (status : ℕ) →
    Meanings (Some (call file numbers workers budget false false)) c status → CallsFile file numbers budget c status
calls_file file numbers workers budget c status p =
    let asked : JobTree = call file numbers workers budget false false in
    let told = c.old.told file in
    let Out : ℕ → List ℕ → List ℕ → Type 0 = λ s report line. OfFile c.old file (λ bytes. CallOutcome bytes numbers budget s report line) in
    let Reported : Output → List ℕ → Type 0 = λ o bytes. ReportsCall workers budget nothing_shown numbers bytes o in
    let report : (o : Output) → Reports asked c.old o → Out o.status o.report o.notes =
    λ o h. (
      h.0,
      possibly told (Reported o) (λ bytes. CallOutcome bytes numbers budget o.status o.report o.notes)
          (λ bytes k. of_report bytes numbers budget workers o k) h.1,
    ) in
    let refusal : (f : Fault) (line : List ℕ) → Refuses asked c.old f → IsLine f line → Out 1 [] line =
    λ f line h is. (
      h.0,
      possibly told (λ bytes. FaultyCall numbers bytes f) (λ bytes. CallOutcome bytes numbers budget 1 [] line)
          (λ bytes k. of_fault bytes numbers budget f line is k) h.1,
    ) in
    let program : (f : Fault) → Refuses asked c.old f → fault_status f ≡ 7 → ⊥ =
    λ f h e. some_bytes told (λ bytes. FaultyCall numbers bytes f) ⊥ (λ bytes k. of_program bytes numbers budget f e k) h.1 in
    record {
      right = right asked c Out report refusal program status p;
      comes = comes asked c Out report refusal program status p;
    }

pub call_promise : (asked : Option JobTree) (c : Call) (status : ℕ) → Meanings asked c status → CallPromise asked c status
call_promise asked c status p file numbers workers budget e =
    calls_file file numbers workers budget c status (subst (λ a. Meanings a c status) e p)

pub call_headline : CallHeadline
call_headline words file bytes numbers workers budget c status asked told there promise =
    let h = promise file numbers workers budget asked in
    record {
      right = λ came.
          let (report, line, of_file, out, err) = h.right came in
          (report, line, of_told (c.old.told file) bytes (λ b. CallOutcome b numbers budget status report line) told of_file.1, out, err);
      comes = h.comes there;
    }

pub one_call_outcome : OneLength → OneFunction → OneCallOutcome
one_call_outcome lengths one bytes numbers budget s r report other line other_line g h =
    one_thing (Runs bytes numbers budget) (NotRun bytes numbers budget) budget lengths (same_runs bytes numbers budget one)
    (sound bytes numbers budget one) (one.one_fault (length numbers) bytes) s r report other line other_line
    (meant bytes numbers budget s report line g) (meant bytes numbers budget r other other_line h)
