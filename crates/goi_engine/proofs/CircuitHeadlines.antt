-- What each status means of a circuit, told in its own words, and the headline of a circuit: as it is with a run.
use Rattle.std.proofs.Common.{◌≡◌, ◌⊎◌, ℕ, List, [], append-nil, replicate, Option, Some, false, refl, sym, ◌∙◌, subst, inl, inr, arith}
use Rattle.net_build.specs.NetOf.{net_of}
use Rattle.open_net_laws.specs.Applied.{applied}
use Rattle.verilog_tree.specs.Names.{text_of}
use Rattle.circuit_made.specs.CircuitText.{circuit_text}
use Rattle.goi_tasks.specs.declared.fault.Fault.{Fault}
use Rattle.goi_tasks.specs.Calls.{FaultyAnyFunction}
use Rattle.goi_tasks.specs.Outputs.{Output}
use Rattle.goi_tasks.specs.Programs.{no_program}
use Rattle.goi_tasks.specs.Refusals.{IsLine, fault_status}
use Rattle.goi_tasks.specs.Verilogs.{ReportsVerilog}
use Rattle.goi_jobs.specs.Jobs.{JobTree, verilog}
use Rattle.goi_jobs.specs.declared.verilog.Verilog.TheVariants.{Circuit}
use Rattle.goi_engine.specs.Calls.{Call}
use Rattle.goi_engine.specs.CircuitHeadline.{CircuitOutcome, at_function, at_no_function, PrintsFile, CircuitPromise, CircuitHeadline}
use Rattle.goi_engine.specs.FilesSeen.{OfFile}
use Rattle.goi_engine.specs.Promise.{Meanings}
use Rattle.goi_engine.specs.Verdicts.{Reports, Refuses}
use Rattle.goi_engine.proofs.Coming.{of_told, possibly, some_bytes, right, comes}

module _ (bytes name : List ℕ) (cells forks : ℕ) where
  abbrev Of : ℕ → List ℕ → List ℕ → Type 0
  Of = CircuitOutcome bytes name cells forks

  of_report : (o : Output) → ReportsVerilog name (Circuit cells forks false) bytes o → Of o.status o.report o.notes
  of_report o h =
      let p = h.so.prints in
      let f = p.prints in
      let text : h.so.text ≡ circuit_text (text_of name) (net_of (applied h.term (replicate h.count 0))) f.items =
      p.text_is ∙ append-nil p.circuit ∙ f.text_is in
      subst (λ (x : Output). Of x.status x.report x.notes) (sym h.so.output_is)
      (subst (λ (t : List ℕ). Of 0 t []) (sym text) (at_function h.term h.count f.items h.is f.is))

  of_fault : (f : Fault) (line : List ℕ) → IsLine f line → FaultyAnyFunction bytes f → Of 1 [] line
  of_fault _ line told (no_program f h) = subst (λ (l : List ℕ). Of 1 [] l) (sym told.same) (at_no_function f h)

  of_program : (f : Fault) → fault_status f ≡ 7 → FaultyAnyFunction bytes f → ⊥
  of_program _ e (no_program f h) = cc

  -- it ends with one of two statuses
  one_of_two : (status : ℕ) (report line : List ℕ) → Of status report line → (status ≡ 0) ⊎ (status ≡ 1)
  one_of_two _ _ _ (at_function m n is h k) = inl refl
  one_of_two _ _ _ (at_no_function f h) = inr refl

-- what the statuses mean of a circuit
module _ (file name : List ℕ) (cells forks : ℕ) (c : Call) (status : ℕ)
    (p : Meanings (Some (verilog file name (Circuit cells forks false))) c status) where
  abbrev job : JobTree
  job = verilog file name (Circuit cells forks false)

  abbrev known : Option (List ℕ)
  known = c.old.told file

  abbrev Out : ℕ → List ℕ → List ℕ → Type 0
  Out s report line = OfFile c.old file (λ bytes. CircuitOutcome bytes name cells forks s report line)

  report : (o : Output) → Reports job c.old o → Out o.status o.report o.notes
  report o h = (
    h.0,
    possibly known (λ bytes. ReportsVerilog name (Circuit cells forks false) bytes o)
        (λ bytes. CircuitOutcome bytes name cells forks o.status o.report o.notes)
        (λ bytes k. of_report bytes name cells forks o k) h.1,
  )

  refusal : (f : Fault) (line : List ℕ) → Refuses job c.old f → IsLine f line → Out 1 [] line
  refusal f line h is = (
    h.0,
    possibly known (λ bytes. FaultyAnyFunction bytes f) (λ bytes. CircuitOutcome bytes name cells forks 1 [] line)
        (λ bytes k. of_fault bytes name cells forks f line is k) h.1,
  )

  program : (f : Fault) → Refuses job c.old f → fault_status f ≡ 7 → ⊥
  program f h e = some_bytes known (λ bytes. FaultyAnyFunction bytes f) ⊥ (λ bytes k. of_program bytes name cells forks f e k) h.1

  not_five : status ≡ 5 → ⊥
  not_five e =
      let (text, line, of_file, out, err) = right job c Out report refusal program status p (inr (inl e)) in
      let two : (status ≡ 0) ⊎ (status ≡ 1) =
      some_bytes known (λ bytes. CircuitOutcome bytes name cells forks status text line) ((status ≡ 0) ⊎ (status ≡ 1))
      (λ bytes k. one_of_two bytes name cells forks status text line k) of_file.1 in
      no two
    where
      no : (status ≡ 0) ⊎ (status ≡ 1) → ⊥
      no (inl z) = omega (arith, e, z)
      no (inr o) = omega (arith, e, o)

  prints_file : PrintsFile file name cells forks c status
  prints_file = record {
    right = λ two. right job c Out report refusal program status p (of_two two);
    comes = λ there fine. of_three (comes job c Out report refusal program status p there fine);
  }
    where
      of_two : (status ≡ 0) ⊎ (status ≡ 1) → (status ≡ 0) ⊎ (status ≡ 5) ⊎ (status ≡ 1)
      of_two (inl e) = inl e
      of_two (inr e) = inr (inr e)

      of_three : ((status ≡ 0) ⊎ (status ≡ 5) ⊎ (status ≡ 1)) ⊎ (status ≡ 6) → ((status ≡ 0) ⊎ (status ≡ 1)) ⊎ (status ≡ 6)
      of_three (inl (inl e)) = inl (inl e)
      of_three (inl (inr (inl e))) = absurd (not_five e)
      of_three (inl (inr (inr e))) = inl (inr e)
      of_three (inr e) = inr e

pub circuit_promise : (asked : Option JobTree) (c : Call) (status : ℕ) → Meanings asked c status → CircuitPromise asked c status
circuit_promise asked c status p file name cells forks e =
    prints_file file name cells forks c status (subst (λ a. Meanings a c status) e p)

-- the promise at what the files on the disk told
pub circuit_headline : CircuitHeadline
circuit_headline words file bytes name cells forks c status asked told there promise =
    let h = promise file name cells forks asked in
    record {
      right = λ came.
          let (report, line, of_file, out, err) = h.right came in (
            report,
            line,
            of_told (c.old.told file) bytes (λ b. CircuitOutcome b name cells forks status report line) told of_file.1,
            out,
            err,
          );
      comes = h.comes there;
    }
