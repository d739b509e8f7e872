-- What each status means of a run by name, told in its own words; and the headline follows from that.
-- What was printed is the report of a run of the file's bytes, and what was refused is refused for their first fault. The told bytes are
-- those of which the promise speaks.
use Rattle.std.proofs.Common.{◌≡◌, ℕ, List, [], Option, Some, subst}
use Rattle.pcf_values.specs.Terms.{TermTree, TyTree}
use Rattle.adequacy_laws.specs.Lengths.{OneLength}
use Rattle.program_runs.specs.declared.calling.Calling.TheVariants.{ByName}
use Rattle.program_runs.specs.Laws.{OneProgram}
use Rattle.program_runs.specs.Programs.{number, IsProgram, IsGround, FaultyProgram}
use Rattle.program_runs.proofs.OneProgram.{same_ground, ground_sound}
use Rattle.goi_tasks.specs.declared.fault.Fault.{Fault}
use Rattle.goi_jobs.specs.declared.task.Task.TheVariants.{Run}
use Rattle.goi_tasks.specs.Outputs.{Output}
use Rattle.goi_tasks.specs.Programs.{FaultyText}
use Rattle.goi_tasks.specs.Refusals.{IsLine, fault_status}
use Rattle.goi_jobs.specs.Tasks.{nothing_shown}
use Rattle.goi_tasks.specs.Tasks.{ReportsText}
use Rattle.goi_jobs.specs.Jobs.{JobTree, text}
use Rattle.goi_engine.specs.Calls.{Call}
use Rattle.goi_engine.specs.FilesSeen.{OfFile}
use Rattle.goi_engine.specs.Headline.{Outcome, has_value, no_value, is_faulty, RunsFile, RunPromise, Headline, OneOutcome}
use Rattle.goi_engine.specs.Promise.{Meanings}
use Rattle.goi_engine.specs.Verdicts.{Reports, Refuses}
use Rattle.goi_engine.proofs.Coming.{OutcomeOf, value, none, fault, reported, refused_line, no_other, one_thing, of_told, possibly}
use Rattle.goi_engine.proofs.Coming.{some_bytes, right, comes}

-- a program whose type will do is a number
ground_of : (bytes : List ℕ) (tree : _) (t : TermTree) (A : TyTree) → IsProgram number bytes tree t A → IsGround bytes t
ground_of bytes tree t A h = (tree, subst (λ (B : TyTree). IsProgram number bytes tree t B) h.will_do h)

module _ (bytes : List ℕ) (budget : ℕ) where
  -- what a run of the text comes to, in the words of the statement and in those of the proof
  abbrev Of : ℕ → List ℕ → List ℕ → Type 0
  Of = OutcomeOf (IsGround bytes) (FaultyProgram number bytes) budget

  said : (s : ℕ) (report line : List ℕ) → Of s report line → Outcome bytes budget s report line
  said _ _ _ (value t v n is means long within) = has_value t v n is means long within
  said _ _ _ (none t is beyond) = no_value t is beyond
  said _ _ _ (fault f h) = is_faulty f h

  meant : (s : ℕ) (report line : List ℕ) → Outcome bytes budget s report line → Of s report line
  meant _ _ _ (has_value t v n is means long within) = value t v n is means long within
  meant _ _ _ (no_value t is beyond) = none t is beyond
  meant _ _ _ (is_faulty f h) = fault f h

  of_report : (workers : ℕ) (o : Output) → ReportsText workers (Run budget ByName nothing_shown) bytes o →
      Outcome bytes budget o.status o.report o.notes
  of_report workers o k =
      said o.status o.report o.notes
      (reported (IsGround bytes) (FaultyProgram number bytes) budget k.term (ground_of bytes k.tree k.term k.type k.is) workers o k.so)

  of_fault : (f : Fault) (line : List ℕ) → IsLine f line → FaultyText number bytes f → Outcome bytes budget 1 [] line
  of_fault f line is h = said 1 [] line (refused_line (IsGround bytes) (FaultyProgram number bytes) budget f line h is)

  of_program : (f : Fault) → fault_status f ≡ 7 → FaultyText number bytes f → ⊥
  of_program f e h = no_other (IsGround bytes) (FaultyProgram number bytes) budget f h e

-- what the statuses mean of a run by name
runs_file : (file : List ℕ) (workers budget : ℕ) (c : Call) (status : ℕ) →
    Meanings (Some (text file workers (Run budget ByName nothing_shown))) c status → RunsFile file budget c status
runs_file file workers budget c status p =
    let asked : JobTree = text file workers (Run budget ByName nothing_shown) in
    let told = c.old.told file in
    let Out : ℕ → List ℕ → List ℕ → Type 0 = λ s report line. OfFile c.old file (λ bytes. Outcome bytes budget s report line) in
    let Reported : Output → List ℕ → Type 0 = λ o bytes. ReportsText workers (Run budget ByName nothing_shown) bytes o in
    let report : (o : Output) → Reports asked c.old o → Out o.status o.report o.notes =
    λ o h. (
      h.0,
      possibly told (Reported o) (λ bytes. Outcome bytes budget o.status o.report o.notes)
          (λ bytes k. of_report bytes budget workers o k) h.1,
    ) in
    let refusal : (f : Fault) (line : List ℕ) → Refuses asked c.old f → IsLine f line → Out 1 [] line =
    λ f line h is. (
      h.0,
      possibly told (λ bytes. FaultyText number bytes f) (λ bytes. Outcome bytes budget 1 [] line)
          (λ bytes k. of_fault bytes budget f line is k) h.1,
    ) in
    let program : (f : Fault) → Refuses asked c.old f → fault_status f ≡ 7 → ⊥ =
    λ f h e. some_bytes told (λ bytes. FaultyText number bytes f) ⊥ (λ bytes k. of_program bytes budget f e k) h.1 in
    record {
      right = right asked c Out report refusal program status p;
      comes = comes asked c Out report refusal program status p;
    }

pub run_promise : (asked : Option JobTree) (c : Call) (status : ℕ) → Meanings asked c status → RunPromise asked c status
run_promise asked c status p file workers budget e = runs_file file workers budget c status (subst (λ a. Meanings a c status) e p)

pub headline : Headline
headline words file bytes workers budget c status asked told there promise =
    let h = promise file workers budget asked in
    record {
      right = λ came.
          let (report, line, of_file, out, err) = h.right came in
          (report, line, of_told (c.old.told file) bytes (λ b. Outcome b budget status report line) told of_file.1, out, err);
      comes = h.comes there;
    }

pub one_outcome : OneLength → OneProgram → OneOutcome
one_outcome lengths one bytes budget s r report other line other_line g h =
    one_thing (IsGround bytes) (FaultyProgram number bytes) budget lengths (same_ground one bytes) (λ t f. ground_sound one bytes t f)
    (one.one_fault number bytes) s r report other line other_line (meant bytes budget s report line g)
    (meant bytes budget r other other_line h)
