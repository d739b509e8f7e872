-- A call of a function has one status on a text or one fault.
use Rattle.std.proofs.Common.{◌≡◌, ◌⊎◌, ℕ, List, [], length, Result, Ok, Err, IfErr, IsErrAnd, refl, sym, ap, subst}
use Rattle.pcf_values.specs.Terms.{TermTree, nat}
use Rattle.pcf_values.specs.Typing.{HasType}
use Rattle.net_build.specs.Nets.{NetTree}
use Rattle.net_build.specs.NetOf.{net_of}
use Rattle.adequacy_laws.specs.Adequacy.{BuiltRuns}
use Rattle.open_net_laws.specs.Applied.{applied}
use Rattle.function_runs.specs.Functions.{CompilesText, FaultyFunction, FaultyAny}
use Rattle.function_runs.specs.Laws.{OneFunction}
use Rattle.program_runs.specs.declared.calling.Calling.TheVariants.{ByName}
use Rattle.program_runs.specs.declared.no_run.NoRun.{NoRun}
use Rattle.program_runs.specs.Laws.{MovesTell}
use Rattle.program_runs.specs.Nets.{RunsAs}
use Rattle.program_runs.specs.NoRuns.{NoRunFor}
use Rattle.program_runs.proofs.Telling.{runs_as}
use Rattle.goi_tasks.specs.declared.fault.Fault.{Fault}
use Rattle.goi_tasks.specs.declared.fault.Fault.TheVariants.{Program}
use Rattle.goi_jobs.specs.declared.shown.Shown.{Shown}
use Rattle.goi_tasks.specs.declared.stop.Stop.{Stop}
use Rattle.goi_tasks.specs.Calls.{OfFunction, ReportsCall, FaultyCall, EndsCall, FaultyAnyFunction}
use Rattle.goi_tasks.specs.Outputs.{Output}
use Rattle.goi_tasks.specs.Programs.{no_program}
use Rattle.goi_tasks.specs.RunReports.{EndsRun}
use Rattle.goi_tasks.specs.Settles.{Settles, status_of_output}
use Rattle.goi_tasks.specs.Stops.{StopsFor, stop_of_no_run}
use Rattle.goi_tasks.proofs.Outcomes.{one_run_end, run_ends, run_status}
use Rattle.goi_tasks.proofs.Texts.{stops_program}

-- what is so of a function at numbers is so as far as it goes
pub of_function : (numbers bytes : List ℕ) (P Q : TermTree → Type 0) → OfFunction numbers bytes P → ((t : TermTree) → P t → Q t) →
    OfFunction numbers bytes Q
of_function numbers bytes P Q h goes = record { term = h.term; is = h.is; so = goes (applied h.term numbers) h.so }

-- the net of a function at numbers is one on which the applied term runs
pub runs_applied : BuiltRuns → MovesTell → (numbers bytes : List ℕ) (f : TermTree × ℕ) (net : NetTree) →
    CompilesText bytes (length numbers) f → net ≡ net_of (applied f.0 numbers) → HasType [] (applied f.0 numbers) nat →
    OfFunction numbers bytes (λ t. RunsAs ByName t net)
runs_applied built law numbers bytes f net (tree, text, h) same typed = record {
  term = f.0;
  is = (tree, text, record { typed = h.typed; takes = refl; few = h.few });
  so = runs_as built law ByName (applied f.0 numbers) typed (λ v means. means) net same;
}

-- a text that is no such function has its first fault as one
pub no_function : {V : Type 0} (numbers bytes : List ℕ) (r : Result V Stop) (e : NoRun) → IsErrAnd r (λ s. s ≡ stop_of_no_run e) →
    NoRunFor (FaultyFunction (length numbers) bytes) e → IfErr r (λ s. StopsFor (FaultyCall numbers bytes) s)
no_function numbers bytes (Ok v) e h k = absurd h
no_function numbers bytes (Err s) e h k =
    subst (λ (x : Stop). StopsFor (FaultyCall numbers bytes) x) (sym h) (stops_program (FaultyFunction (length numbers) bytes) e k)

-- a text that is a function of no number of arguments has its first fault as one
pub no_any_function : {V : Type 0} (bytes : List ℕ) (r : Result V Stop) (e : NoRun) → IsErrAnd r (λ s. s ≡ stop_of_no_run e) →
    NoRunFor (FaultyAny bytes) e → IfErr r (λ s. StopsFor (FaultyAnyFunction bytes) s)
no_any_function bytes (Ok v) e h k = absurd h
no_any_function bytes (Err s) e h k =
    subst (λ (x : Stop). StopsFor (FaultyAnyFunction bytes) x) (sym h) (stops_program (FaultyAny bytes) e k)

-- a call ends with one of two statuses
pub call_status : (workers budget : ℕ) (shown : Shown) (numbers bytes : List ℕ) (o : Output) →
    ReportsCall workers budget shown numbers bytes o → (o.status ≡ 0) ⊎ (o.status ≡ 5)
call_status workers budget shown numbers bytes o h = run_status h.so.answer o.status h.so.ends

module _ (one : OneFunction) (numbers bytes : List ℕ) where
  -- a text is one function
  same_function : (P Q : TermTree → Type 0) (h : OfFunction numbers bytes P) (k : OfFunction numbers bytes Q) → h.term ≡ k.term
  same_function P Q h k =
      ap (λ (f : TermTree × ℕ). f.0)
      (one.one_function (length numbers) bytes (h.term, length numbers) (k.term, length numbers) h.is k.is)

  -- the output of a call ends with the status with which the call does
  pub call_end : (workers budget : ℕ) (shown : Shown) (o : Output) (own : ℕ) → ReportsCall workers budget shown numbers bytes o →
      EndsCall budget numbers bytes own → o.status ≡ own
  call_end workers budget shown o own h k =
      let e : h.term ≡ k.term = same_function _ _ h k in
      one_run_end budget (net_of (applied k.term numbers)) o.status own
      (subst (λ (t : TermTree). EndsRun budget (net_of (applied t numbers)) o.status) e
      (run_ends _ (net_of (applied h.term numbers)) budget h.so.answer (length h.so.log) o.status h.so.ends h.so.run.tells)) k.so

  -- what is such a function has no fault as one
  pub call_sound : (P : TermTree → Type 0) (f : Fault) → OfFunction numbers bytes P → FaultyCall numbers bytes f → ⊥
  call_sound P _ h (no_program f k) = one.not_both (length numbers) bytes (h.term, length numbers) f h.is k

  -- two faults are one
  pub one_call_fault : (f g : Fault) → FaultyCall numbers bytes f → FaultyCall numbers bytes g → f ≡ g
  one_call_fault _ _ (no_program f h) (no_program g k) = ap Program (one.one_fault (length numbers) bytes f g h k)

  pub call_settles : (workers budget : ℕ) (shown : Shown) →
      Settles status_of_output (ReportsCall workers budget shown numbers bytes) (EndsCall budget numbers bytes) (FaultyCall numbers bytes)
  call_settles workers budget shown = record {
    one_status = λ o own h k. call_end workers budget shown o own h k;
    right_or_faulty = λ o f h k. call_sound _ f h k;
    ends_or_faulty = λ own f h k. call_sound _ f h k;
    one_fault = λ f g h k. one_call_fault f g h k;
  }
