-- Which line comes of a run, and which of a fault.
use Rattle.std.proofs.Common.{◌≡◌, ℕ, List, length, Option, Result, Ok, Err, IfOk, sym, subst}
use Rattle.pcf_values.specs.declared.val.Val.{Val}
use Rattle.pcf_values.specs.Terms.{TyTree}
use Rattle.cbn_meaning.specs.Meaning.{Means}
use Rattle.net_build.specs.NetOf.{net_of}
use Rattle.schedule_log.specs.declared.entry.Entry.{Entry}
use Rattle.program_runs.specs.declared.calling.Calling.TheVariants.{ByName}
use Rattle.program_runs.specs.declared.fault.ProgramFault.{ProgramFault}
use Rattle.program_runs.specs.declared.no_run.NoRun.{NoRun}
use Rattle.program_runs.specs.declared.no_run.NoRun.TheVariants.{Fault}
use Rattle.program_runs.specs.NoRuns.{NoRunFor}
use Rattle.program_runs.specs.Programs.{number, IsProgram, FaultyProgram}
use Rattle.program_runs.specs.RunsText.{RunsText}
use Rattle.program_runs.specs.Runs.{Tells}
use Rattle.embedding.specs.Hands.{WalksText}
use Rattle.embedding.specs.Lines.{budget, RunLine, ran, refused, run_line, refused_line}

module _ {T E : Type 0} (way bytes : List ℕ) (spelled : T → List ℕ) (r : Result T E) where
  abbrev IsRunLine : Result T E → Type 0
  IsRunLine s = IfOk s (λ text. RunLine way bytes (spelled text))

  line_of : (line : List ℕ) → RunLine way bytes line → (s : Result T E) → IfOk s (λ text. spelled text ≡ line) → IsRunLine s
  line_of line h (Ok text) e = subst (λ (l : List ℕ). RunLine way bytes l) (sym e) h
  line_of line h (Err x) e = e

  -- the line of what came of the text
  pub line_ran : (answer : Option Val) (moves : ℕ) → WalksText bytes answer moves →
      IfOk r (λ text. spelled text ≡ run_line way answer moves) →
      IsRunLine r
  line_ran answer moves (t, g, h) e = line_of (run_line way answer moves) (ran t answer moves g h) r e

  -- and that of its fault
  pub line_refused : (f : ProgramFault) (n : NoRun) → n ≡ Fault f → NoRunFor (FaultyProgram number bytes) n →
      IfOk r (λ text. spelled text ≡ refused_line way f) → IsRunLine r
  line_refused f n is h e =
      line_of (refused_line way f) (refused f (subst (λ (s : NoRun). NoRunFor (FaultyProgram number bytes) s) is h)) r e

-- what a run in one call says of the text
pub of_run : (workers : ℕ) (bytes : List ℕ) (answer : Option Val) (log : List Entry) (moves : ℕ) →
    RunsText ByName workers budget bytes answer log → moves ≡ length log → WalksText bytes answer moves
of_run workers bytes answer log moves h e = (
  h.term,
  (h.tree, subst (λ (A : TyTree). IsProgram number bytes h.tree h.term A) h.is.will_do h.is),
  subst (λ (n : ℕ). Tells (Means h.term) (net_of h.term) budget answer n) (sym e) h.so.tells,
)
