-- What the promise says where the devices are sure and the job is a run.
use Rattle.std.proofs.Common.{◌≡◌, ℕ, ◌≤◌, List, length, Option, Some, None, refl, sym, ap, ◌∙◌, subst, arith}
use Rattle.goi_world.specs.FilesInMemory.{memory_files_seen, told_by}
use Rattle.goi_world.specs.Seen.{FilesState, holding}
use Rattle.goi_engine.specs.FilesSeen.{Possibly}
use Rattle.goi_jobs.specs.Jobs.{JobTree, text}
use Rattle.goi_jobs.specs.Tasks.{nothing_shown}
use Rattle.goi_jobs.specs.declared.task.Task.TheVariants.{Run}
use Rattle.program_runs.specs.declared.calling.Calling.{Calling}
use Rattle.goi_tasks.specs.Outputs.{Output}
use Rattle.goi_tasks.specs.Refusals.{most_line}
use Rattle.goi_engine.specs.Verdicts.{Reports, LacksFor}
use Rattle.test_goi.proofs.sure.run_surely.Goals as goal

-- what is so of all bytes of which something is possible
of_bytes : (told : Option (List ℕ)) (P : List ℕ → Type 0) (Q : Type 0) → Possibly told P → ((bytes : List ℕ) → P bytes → Q) → Q
of_bytes None P Q (bytes, h) k = k bytes h
of_bytes (Some bytes) P Q h k = k bytes h

-- the report of a run that tells neither schedule nor tally is short, and it has no notes
abbrev plain_run : List ℕ → ℕ → ℕ → Calling → JobTree
plain_run file workers budget calling = text file workers (Run budget calling nothing_shown)

short_run : (files : FilesState) (file : List ℕ) (workers budget : ℕ) (calling : Calling) (o : Output) →
    Reports (plain_run file workers budget calling) files o → (length o.report ≤ most_line) × (length o.notes ≡ 0)
short_run files file workers budget calling o h =
    of_bytes (files.told file) _ ((length o.report ≤ most_line) × (length o.notes ≡ 0)) h.1
    (λ bytes x. (x.so.short refl refl, ap length x.so.notes))

run_short : (j : JobTree) (files : FilesState) (file : List ℕ) (workers budget : ℕ) (calling : Calling) (o : Output) →
    j ≡ plain_run file workers budget calling → Reports j files o → (length o.report ≤ most_line) × (length o.notes ≡ 0)
run_short j files file workers budget calling o e h =
    short_run files file workers budget calling o (subst (λ (k : JobTree). Reports k files o) e h)

-- words have one job
one_job : (asked : Option JobTree) (j k : JobTree) → asked ≡ Some j → asked ≡ Some k → j ≡ k
one_job asked j k e f = let same : Some j ≡ Some k = sym e ∙ f in cc

pub returns : goal.returns
returns g c =
    let told = told_by c.goi.new.files in
    let p = c.goi.ensures.promise.2.2 told refl in
    record {
      written = λ file workers budget calling asked. p.sure (record {
        out = λ j o e h. let short = run_short j _ file workers budget calling o
            (one_job _ j (plain_run file workers budget calling) e asked) h in omega (arith, short.0, c.requires.out);
        err = c.requires.err;
        notes = λ j o e h. let short = run_short j _ file workers budget calling o
            (one_job _ j (plain_run file workers budget calling) e asked) h in omega (arith, short.1);
      });
      read = λ file workers budget calling asked status.
          let m = p.means.not_read status in
          let files = holding told (memory_files_seen c.args.files.now) in
          subst (λ (j : JobTree). LacksFor j files) (one_job _ m.0 (plain_run file workers budget calling) m.1 asked)
          (m.2.1.sure c.requires.files);
    }
