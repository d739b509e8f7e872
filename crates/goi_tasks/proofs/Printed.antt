-- What is printed of a text's circuit ends with one status, or the text has one fault.
use Rattle.std.proofs.Common.{◌≡◌, ◌⊎◌, ℕ, Bool, List, length, subst, sym, ap, ◌∙◌, inl, true, false}
use Rattle.pcf_values.specs.Terms.{TermTree}
use Rattle.program_runs.specs.Programs.{OfProgram, number}
use Rattle.program_runs.proofs.OneProgram.{same_program}
use Rattle.net_build.specs.NetOf.{net_of}
use Rattle.newest_runs.specs.Order.{newest_first}
use Rattle.circuit_meaning.specs.Circuit.{IsCircuit}
use Rattle.function_runs.specs.Functions.{CompilesText}
use Rattle.goi_tasks.specs.declared.fault.Fault.{Fault}
use Rattle.goi_tasks.specs.declared.fault.Fault.TheVariants.{Program}
use Rattle.goi_jobs.specs.declared.verilog.Verilog.{Verilog}
use Rattle.goi_jobs.specs.declared.verilog.Verilog.TheVariants.{Circuit, Run, Waves, Bench, Needs, Schedule}
use Rattle.goi_tasks.specs.Calls.{FaultyAnyFunction}
use Rattle.goi_tasks.specs.Circuits.{EndsCircuit, ReportsCircuit, answer_of}
use Rattle.goi_tasks.specs.Outputs.{Output}
use Rattle.goi_tasks.specs.Programs.{no_program}
use Rattle.goi_tasks.specs.Settles.{Settles, status_of_output}
use Rattle.goi_tasks.specs.Verilogs.{ReportsVerilog, FaultyVerilog, EndsVerilog}
use Rattle.goi_tasks.proofs.Outcomes.{Known, run_status, program_end, text_sound, one_text_fault}

-- it ends with one of two statuses
pub verilog_status : (name : List ℕ) (verilog : Verilog) (bytes : List ℕ) (o : Output) → ReportsVerilog name verilog bytes o →
    (o.status ≡ 0) ⊎ (o.status ≡ 5)
verilog_status name (Circuit cells forks handshake) bytes o h = inl (ap (λ (x : Output). x.status) h.so.output_is)
verilog_status name (Run cells forks budget) bytes o h = run_status (answer_of h.so.outcome) o.status h.so.ends
verilog_status name (Waves cells forks budget) bytes o h = run_status (answer_of h.so.outcome) o.status h.so.ends
verilog_status name (Bench budget) bytes o h = run_status h.so.answer o.status h.so.ends
verilog_status name (Needs budget) bytes o h = run_status h.so.answer o.status h.so.ends
verilog_status name (Schedule budget) bytes o h = run_status h.so.answer o.status h.so.ends

module _ (known : Known) where
  -- a text is a function of one number of arguments, or has one fault
  any_sound : (bytes : List ℕ) (t : TermTree) (n : ℕ) (f : Fault) → CompilesText bytes n (t, n) → FaultyAnyFunction bytes f → ⊥
  any_sound bytes t n _ h (no_program f k) = known.one_function.not_both n bytes (t, n) f h (k n)

  one_any_fault : (bytes : List ℕ) (f g : Fault) → FaultyAnyFunction bytes f → FaultyAnyFunction bytes g → f ≡ g
  one_any_fault bytes _ _ (no_program f h) (no_program g k) = ap Program (known.one_function.one_fault 0 bytes f g (h 0) (k 0))

  -- the run of a program's circuit ends as each does
  circuit_end : (cells forks budget : ℕ) (waves : Bool) (bytes : List ℕ) (o : Output) (own : ℕ) →
      OfProgram number bytes (λ tree t A. ReportsCircuit cells forks budget waves t o) →
      OfProgram number bytes (λ tree t A. EndsCircuit cells forks budget t own) → o.status ≡ own
  circuit_end cells forks budget waves bytes o own h k =
      let e : h.term ≡ k.term = same_program known.one_program number bytes _ _ h k in
      h.so.ends
      ∙ sym (k.so h.so.circuit (subst (λ (t : TermTree). IsCircuit t 0 h.so.circuit) e h.so.is) h.so.outcome h.so.comes)

  -- the output ends with the status with which it has to
  pub verilog_end : (name : List ℕ) (verilog : Verilog) (bytes : List ℕ) (o : Output) (own : ℕ) → ReportsVerilog name verilog bytes o →
      EndsVerilog verilog bytes own → o.status ≡ own
  verilog_end name (Circuit cells forks handshake) bytes o own h k = ap (λ (x : Output). x.status) h.so.output_is ∙ sym k.so
  verilog_end name (Run cells forks budget) bytes o own h k = circuit_end cells forks budget false bytes o own h k
  verilog_end name (Waves cells forks budget) bytes o own h k = circuit_end cells forks budget true bytes o own h k
  verilog_end name (Bench budget) bytes o own h k =
      program_end known budget bytes _ h.so.answer h.so.moves o.status own h h.so.ends h.so.tells k
  verilog_end name (Needs budget) bytes o own h k =
      program_end known budget bytes _ h.so.answer h.so.moves o.status own h h.so.ends h.so.tells k
  verilog_end name (Schedule budget) bytes o own h k =
      program_end known budget bytes _ h.so.answer (length (newest_first (net_of h.term) budget)) o.status own h h.so.ends h.so.tells k

  -- what has an output has no fault
  pub verilog_sound : (name : List ℕ) (verilog : Verilog) (bytes : List ℕ) (o : Output) (f : Fault) → ReportsVerilog name verilog bytes o →
      FaultyVerilog verilog bytes f → ⊥
  verilog_sound name (Circuit cells forks handshake) bytes o f h k = any_sound bytes h.term h.count f h.is k
  verilog_sound name (Run cells forks budget) bytes o f h k = text_sound known.one_program number bytes h.tree h.term h.type f h.is k
  verilog_sound name (Waves cells forks budget) bytes o f h k = text_sound known.one_program number bytes h.tree h.term h.type f h.is k
  verilog_sound name (Bench budget) bytes o f h k = text_sound known.one_program number bytes h.tree h.term h.type f h.is k
  verilog_sound name (Needs budget) bytes o f h k = text_sound known.one_program number bytes h.tree h.term h.type f h.is k
  verilog_sound name (Schedule budget) bytes o f h k = text_sound known.one_program number bytes h.tree h.term h.type f h.is k

  -- nor has what ends
  pub verilog_end_sound : (verilog : Verilog) (bytes : List ℕ) (own : ℕ) (f : Fault) → EndsVerilog verilog bytes own →
      FaultyVerilog verilog bytes f → ⊥
  verilog_end_sound (Circuit cells forks handshake) bytes own f h k = any_sound bytes h.term h.count f h.is k
  verilog_end_sound (Run cells forks budget) bytes own f h k = text_sound known.one_program number bytes h.tree h.term h.type f h.is k
  verilog_end_sound (Waves cells forks budget) bytes own f h k = text_sound known.one_program number bytes h.tree h.term h.type f h.is k
  verilog_end_sound (Bench budget) bytes own f h k = text_sound known.one_program number bytes h.tree h.term h.type f h.is k
  verilog_end_sound (Needs budget) bytes own f h k = text_sound known.one_program number bytes h.tree h.term h.type f h.is k
  verilog_end_sound (Schedule budget) bytes own f h k = text_sound known.one_program number bytes h.tree h.term h.type f h.is k

  -- two faults are one
  pub one_verilog_fault : (verilog : Verilog) (bytes : List ℕ) (f g : Fault) → FaultyVerilog verilog bytes f →
      FaultyVerilog verilog bytes g → f ≡ g
  one_verilog_fault (Circuit cells forks handshake) bytes f g h k = one_any_fault bytes f g h k
  one_verilog_fault (Run cells forks budget) bytes f g h k = one_text_fault known number bytes f g h k
  one_verilog_fault (Waves cells forks budget) bytes f g h k = one_text_fault known number bytes f g h k
  one_verilog_fault (Bench budget) bytes f g h k = one_text_fault known number bytes f g h k
  one_verilog_fault (Needs budget) bytes f g h k = one_text_fault known number bytes f g h k
  one_verilog_fault (Schedule budget) bytes f g h k = one_text_fault known number bytes f g h k

  pub verilog_settles : (name : List ℕ) (verilog : Verilog) (bytes : List ℕ) →
      Settles status_of_output (ReportsVerilog name verilog bytes) (EndsVerilog verilog bytes) (FaultyVerilog verilog bytes)
  verilog_settles name verilog bytes = record {
    one_status = λ o own h k. verilog_end name verilog bytes o own h k;
    right_or_faulty = λ o f h k. verilog_sound name verilog bytes o f h k;
    ends_or_faulty = λ own f h k. verilog_end_sound verilog bytes own f h k;
    one_fault = λ f g h k. one_verilog_fault verilog bytes f g h k;
  }
