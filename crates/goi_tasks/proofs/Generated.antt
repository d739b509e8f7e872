-- The run of the generated program of a number is that of its term, and the program has no fault.
use Rattle.std.proofs.Common.{◌≡◌, ◌≤◌, ℕ, List, Option, sym, subst, refl}
use Rattle.pcf_values.specs.declared.val.Val.{Val}
use Rattle.pcf_values.specs.Most.{most_demo}
use Rattle.pcf_values.specs.Terms.{TermTree, nat}
use Rattle.cbn_meaning.specs.Meaning.{Means}
use Rattle.net_build.specs.NetOf.{net_of}
use Rattle.schedule_log.specs.declared.entry.Entry.{Entry}
use Rattle.demo_text.specs.Demo.{demo_term}
use Rattle.demo_text.specs.Text.{demo_text}
use Rattle.demo_text.specs.Laws.{DemoIsTyped}
use Rattle.program_runs.specs.declared.calling.Calling.TheVariants.{ByName}
use Rattle.program_runs.specs.declared.fault.ProgramFault.{ProgramFault}
use Rattle.program_runs.specs.Laws.{OneProgram}
use Rattle.program_runs.specs.Programs.{number, IsGround, FaultyProgram}
use Rattle.program_runs.specs.RunsText.{RunsText}
use Rattle.program_runs.specs.Runs.{IsProgramRun}
use Rattle.program_runs.proofs.OneProgram.{ground_sound}

module _ (one : OneProgram) (law : DemoIsTyped) (n : ℕ) (within : n ≤ most_demo) (bytes : List ℕ) (made : bytes ≡ demo_text n) where
  demo_ground : IsGround bytes (demo_term n)
  demo_ground =
      let h = law n within in
      subst (λ (b : List ℕ). IsGround b (demo_term n)) (sym made) (h.0, record { text = h.1; typed = h.2; will_do = refl })

  pub demo_run : (workers budget : ℕ) (answer : Option Val) (log : List Entry) → RunsText ByName workers budget bytes answer log →
      IsProgramRun (Means (demo_term n)) (net_of (demo_term n)) workers budget answer log
  demo_run workers budget answer log h =
      let (tree, is) = demo_ground in
      subst (λ (t : TermTree). IsProgramRun (Means t) (net_of t) workers budget answer log)
      (one.one_term number number bytes h.tree tree h.term (demo_term n) h.type nat h.is is) h.so

  pub demo_sound : (f : ProgramFault) → FaultyProgram number bytes f → ⊥
  demo_sound f h = ground_sound one bytes (demo_term n) f demo_ground h
