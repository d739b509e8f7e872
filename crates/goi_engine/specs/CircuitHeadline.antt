-- What `goi circuit FILE` comes to, for whoever reads nothing else.
-- It has the form of the headline, over the part of the promise that speaks of it: the words ask for the circuit alone, as a module of this
-- name with so many cells and forks, the file is there, and its bytes are told. What is printed is lines of comment and the text of a
-- module's tree; and of that tree all is told by the meaning of Verilog, with no row of it: at all arguments, from whatever its registers
-- and memories held before the reset, whatever is at its ports later, and after every number of edges it is full, or it shows what the
-- function means at these arguments, and how long that application's net is.
use Rattle.std.specs.Prelude.{◌≡◌, ◌⊎◌, ℕ, IsTrue, List, [], Option, Some, false, replicate}
use Rattle.pcf_values.specs.Terms.{TermTree}
use Rattle.net_build.specs.NetOf.{net_of}
use Rattle.open_net_laws.specs.Applied.{applied}
use Rattle.verilog_tree.specs.Names.{text_of}
use Rattle.verilog_tree.specs.Tree.{Item}
use Rattle.circuit_meaning.specs.Circuit.{IsItems}
use Rattle.circuit_made.specs.CircuitText.{circuit_text}
use Rattle.function_runs.specs.Functions.{CompilesText, FaultyAny}
use Rattle.program_runs.specs.declared.fault.ProgramFault.{ProgramFault}
use Rattle.goi_words.specs.Asked.{job}
use Rattle.goi_jobs.specs.Jobs.{JobTree, verilog}
use Rattle.goi_jobs.specs.declared.verilog.Verilog.TheVariants.{Circuit}
use Rattle.goi_tasks.specs.Refusals.{program_fault_line}
use Rattle.goi_engine.specs.Writes.{Wrote}
use Rattle.goi_engine.specs.Calls.{Call, NoneFailed}
use Rattle.goi_engine.specs.FilesSeen.{OfFile}

-- what the circuit of a text comes to: its status, what is written to `out`, and what is written to `err`
pub data CircuitOutcome (bytes name : List ℕ) (cells forks : ℕ) : ℕ → List ℕ → List ℕ → Type 0 where
  -- 0: the text is this term, as a function of some number of numbers, a program one of none; and these are the items of its circuit
  at_function : (m : TermTree) (n : ℕ) (is : List Item) → CompilesText bytes n (m, n) → IsItems m n cells forks is →
      CircuitOutcome bytes name cells forks 0 (circuit_text (text_of name) (net_of (applied m (replicate n 0))) is) []
  -- 1: it is none, for this fault, which is its first
  at_no_function : (f : ProgramFault) → FaultyAny bytes f → CircuitOutcome bytes name cells forks 1 [] (program_fault_line f)

-- a call that ended with status 0 or 1 wrote what the circuit comes to; and where nothing fails, one of both comes, or 6 for memory
pub record CircuitComesTo (bytes name : List ℕ) (cells forks : ℕ) (c : Call) (status : ℕ) : Type 0 where
  pub right : (status ≡ 0) ⊎ (status ≡ 1) →
      (report line : List ℕ) × CircuitOutcome bytes name cells forks status report line × Wrote report c.out × Wrote line c.err
  pub comes : NoneFailed c → ((status ≡ 0) ⊎ (status ≡ 1)) ⊎ (status ≡ 6)

-- the same of a file by its name, of the bytes that are told or of some where none are
pub record PrintsFile (file name : List ℕ) (cells forks : ℕ) (c : Call) (status : ℕ) : Type 0 where
  pub right : (status ≡ 0) ⊎ (status ≡ 1) →
      (report line : List ℕ) × OfFile c.old file (λ bytes. CircuitOutcome bytes name cells forks status report line) ×
      Wrote report c.out × Wrote line c.err
  pub comes : (IsTrue (c.old.lacks file) → ⊥) → NoneFailed c → ((status ≡ 0) ⊎ (status ≡ 1)) ⊎ (status ≡ 6)

-- the part of the promise that speaks of a circuit: where that is asked for, so it is
abbrev pub CircuitPromise : Option JobTree → Call → ℕ → Type 0
CircuitPromise asked c status =
    (file name : List ℕ) (cells forks : ℕ) → asked ≡ Some (verilog file name (Circuit cells forks false)) →
    PrintsFile file name cells forks c status

-- so the circuit of told bytes comes to what it comes to
abbrev pub CircuitHeadline : Type 0
CircuitHeadline =
    (words : List (List ℕ)) (file bytes name : List ℕ) (cells forks : ℕ) (c : Call) (status : ℕ) →
    job words ≡ Some (verilog file name (Circuit cells forks false)) → c.old.told file ≡ Some bytes → (IsTrue (c.old.lacks file) → ⊥) →
    CircuitPromise (job words) c status → CircuitComesTo bytes name cells forks c status
