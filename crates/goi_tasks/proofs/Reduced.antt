-- The reduction of a tree as the output for its text, and what it is worth.
use Rattle.std.proofs.Common.{◌≡◌, ◌≢◌, ℕ, List, [], Result, Ok, Err, IfOk, refl, subst}
use Rattle.pcf_values.specs.Terms.{TyTree, TermTree, nat}
use Rattle.pcf_values.specs.Named.{NamedTree}
use Rattle.pcf_reader.specs.Correct.{Text}
use Rattle.pcf_types.specs.Checking.{type_of}
use Rattle.pcf_types.specs.Correct.{AcceptedIsTyped}
use Rattle.pcf_types.specs.Numbers.{NumbersFit}
use Rattle.adequacy_laws.specs.Adequacy.{MeansLength}
use Rattle.step_text.specs.Laws.{ToldIsMeant, NoneIsLimit}
use Rattle.program_runs.specs.declared.calling.Calling.TheVariants.{ByName}
use Rattle.program_runs.specs.declared.fault.ProgramFault.TheVariants.{NotGround}
use Rattle.program_runs.specs.Programs.{number, FaultyTree}
use Rattle.program_runs.proofs.Texts.{unfit}
use Rattle.goi_jobs.specs.declared.window.Window.{Window}
use Rattle.goi_tasks.specs.declared.fault.Fault.TheVariants.{Program}
use Rattle.goi_tasks.specs.declared.report.Report.{Report}
use Rattle.goi_jobs.specs.declared.task.Task.TheVariants.{Steps}
use Rattle.goi_tasks.specs.Outputs.{Output}
use Rattle.goi_tasks.specs.Seen.{output_of}
use Rattle.goi_tasks.specs.Programs.{IsProgramFault, no_program}
use Rattle.goi_tasks.specs.Reductions.{most_step_nodes, reduction_output}
use Rattle.goi_tasks.specs.Parts.{ReducesTree}
use Rattle.goi_tasks.specs.Tasks.{ReportsText}

-- what a tree's reduction tells is so of its text
pub reduces_text : {E : Type 0} (budget : ℕ) (window : Window) (bytes : List ℕ) (tree : NamedTree) (r : Result Report E) →
    Text bytes tree → IfOk r (λ v. ReducesTree budget window tree (output_of v)) →
    IfOk r (λ v. (workers : ℕ) → ReportsText workers (Steps budget window) bytes (output_of v))
reduces_text budget window bytes tree (Ok v) x (t, d, so) = λ workers. record {
  tree = tree;
  term = t;
  type = nat;
  is = record { text = x; typed = d; will_do = refl };
  so = so;
}
reduces_text budget window bytes tree (Err e) x h = h

-- the output of a typed tree is worth what the laws of reductions say
pub reduces : AcceptedIsTyped → ToldIsMeant → NoneIsLimit → MeansLength →
    (budget : ℕ) (window : Window) (tree : NamedTree) (t : TermTree) (A : TyTree) (o : Output) →
    type_of [] tree ≡ Ok (t, A) → NumbersFit tree → A ≡ nat → o ≡ reduction_output budget window tree →
    ReducesTree budget window tree o
reduces sound told none lasts budget window tree t A o d fit e same =
    let typed : type_of [] tree ≡ Ok (t, nat) = subst (λ (A : TyTree). type_of [] tree ≡ Ok (t, A)) e d in
    let both = sound [] tree t nat typed in (
      t,
      typed,
      record {
        output_is = same;
        meant = λ v m. told window.from window.most most_step_nodes budget tree t v both.0 m;
        lasts = λ v m. (lasts t (both.1 fit) v).0 (told window.from window.most most_step_nodes budget tree t v both.0 m);
        stopped = λ n. none window.from window.most most_step_nodes budget tree t both.0 (both.1 fit) n;
      },
    )

-- another type is the tree's fault
pub no_nat : (tree : NamedTree) (t : TermTree) (A : TyTree) → type_of [] tree ≡ Ok (t, A) → A ≢ nat →
    IsProgramFault (FaultyTree number tree) (Program NotGround)
no_nat tree t A d n = no_program NotGround (unfit ByName tree t A d n)
