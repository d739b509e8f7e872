-- From the faults of a program's text to those of a task, and from the report on a tree's type to that on its text's.
use Rattle.std.proofs.Common.{◌≡◌, ℕ, Bool, List, [], Result, Ok, Err, IfOk, IfErr, Vec, Global, ap, ◌∙◌, sym, subst, IsErrAnd}
use Rattle.pcf_values.specs.Terms.{TyTree, TermTree}
use Rattle.pcf_values.specs.Named.{NamedTree}
use Rattle.pcf_reader.specs.Correct.{Text}
use Rattle.net_text.specs.declared.fault.NetTextFault.{NetTextFault}
use Rattle.net_text.specs.declared.fault.NetTextFault.TheVariants as listing
use Rattle.net_text.specs.Accepted.{Accepts, ListsProgram}
use Rattle.net_build.specs.Nets.{NetTree}
use Rattle.net_build.specs.NetOf.{net_of}
use Rattle.adequacy_laws.specs.Adequacy.{BuiltRuns}
use Rattle.program_runs.specs.declared.calling.Calling.{Calling}
use Rattle.program_runs.specs.declared.calling.Calling.TheVariants.{ByName}
use Rattle.program_runs.specs.declared.fault.ProgramFault.{ProgramFault}
use Rattle.program_runs.specs.declared.no_run.NoRun.{NoRun}
use Rattle.program_runs.specs.declared.no_run.NoRun.TheVariants as no_run
use Rattle.program_runs.specs.NoRuns.{NoRunFor}
use Rattle.program_runs.specs.Laws.{MovesTell}
use Rattle.program_runs.specs.Nets.{RunsAs, IsNetFor}
use Rattle.program_runs.specs.Programs.{Wanted, number, wanted_by_run, IsProgram, OfProgram, IsGround, FaultyTree, FaultyProgram, of_tree}
use Rattle.program_runs.proofs.Telling.{runs_as}
use Rattle.goi_tasks.specs.declared.fault.Fault.{Fault}
use Rattle.goi_tasks.specs.declared.stop.Stop.{Stop}
use Rattle.goi_tasks.specs.declared.stop.Stop.TheVariants as stop
use Rattle.goi_tasks.specs.declared.report.Report.{Report}
use Rattle.goi_jobs.specs.declared.task.Task.{Task}
use Rattle.goi_jobs.specs.declared.task.Task.TheVariants.{Check}
use Rattle.goi_tasks.specs.NetFiles.{FaultyListing, unlisted}
use Rattle.goi_tasks.specs.Parts.{IsListedNet, ChecksTree}
use Rattle.goi_tasks.specs.Outputs.{Output, output}
use Rattle.goi_tasks.specs.Seen.{output_of}
use Rattle.goi_tasks.specs.Programs.{IsProgramFault, no_program, FaultyText}
use Rattle.goi_tasks.specs.Stops.{StopsFor, stop_of_no_run, stop_of_net_text}
use Rattle.goi_tasks.specs.Tasks.{ReportsText}

-- what stops for one cause stops for a weaker one
pub stops_weaker : (P Q : Fault → Type 0) (e : Stop) → ((f : Fault) → P f → Q f) → StopsFor P e → StopsFor Q e
stops_weaker P Q stop.Memory k h = h
stops_weaker P Q (stop.Fault f) k h = k f h

pub faults_weaker : {A : Type 0} (P Q : Fault → Type 0) (r : Result A Stop) → ((f : Fault) → P f → Q f) →
    IfErr r (λ e. StopsFor P e) → IfErr r (λ e. StopsFor Q e)
faults_weaker P Q (Ok v) k h = h
faults_weaker P Q (Err e) k h = stops_weaker P Q e k h

-- what a program has no run for, a task on it stops for
pub stops_program : (P : ProgramFault → Type 0) (e : NoRun) → NoRunFor P e → StopsFor (IsProgramFault P) (stop_of_no_run e)
stops_program P no_run.Memory h = tt
stops_program P (no_run.Fault f) h = no_program f h

-- the fault of a tree is one of its text
tree_fault : (wanted : Wanted) (bytes : List ℕ) (tree : NamedTree) (f : Fault) → Text bytes tree →
    IsProgramFault (FaultyTree wanted tree) f →
    FaultyText wanted bytes f
tree_fault wanted bytes tree _ x (no_program f h) = no_program f (of_tree tree f x h)

pub faults_of_text : {A : Type 0} (wanted : Wanted) (bytes : List ℕ) (tree : NamedTree) (r : Result A Stop) → Text bytes tree →
    IfErr r (λ e. StopsFor (IsProgramFault (FaultyTree wanted tree)) e) → IfErr r (λ e. StopsFor (FaultyText wanted bytes) e)
faults_of_text wanted bytes tree r x h =
    faults_weaker (IsProgramFault (FaultyTree wanted tree)) (FaultyText wanted bytes) r (λ f k. tree_fault wanted bytes tree f x k) h

-- a listing that isn't accepted stops for its first fault
pub stops_unlisted : (bytes : List ℕ) (f : NetTextFault) → Accepts bytes (Err f) → StopsFor (FaultyListing bytes) (stop_of_net_text f)
stops_unlisted bytes listing.NoMemory h = tt
stops_unlisted bytes (listing.BadLine n) h = unlisted (listing.BadLine n) (λ e. cc) h
stops_unlisted bytes (listing.NotSound f) h = unlisted (listing.NotSound f) (λ e. cc) h
stops_unlisted bytes listing.NotOfTerm h = unlisted listing.NotOfTerm (λ e. cc) h
stops_unlisted bytes listing.TooLong h = unlisted listing.TooLong (λ e. cc) h

-- the report on a tree's type is one on its text
pub checks_text : {E : Type 0} (term : Bool) (bytes : List ℕ) (tree : NamedTree) (r : Result (Vec ℕ Global) E) → Text bytes tree →
    IfOk r (λ v. ChecksTree term tree v.items) → IfOk r (λ v. (workers : ℕ) → ReportsText workers (Check term) bytes (output 0 v.items []))
checks_text term bytes tree (Ok v) x (t, A, d, same) = λ workers. record {
  tree = tree;
  term = t;
  type = A;
  is = record { text = x; typed = d; will_do = tt };
  so = ap (λ (text : List ℕ). output 0 text []) same;
}
checks_text term bytes tree (Err e) x h = h

-- a text that has no net on which it runs, has its first fault as such a program
pub no_net : {V : Type 0} (wanted : Wanted) (bytes : List ℕ) (r : Result V Stop) (e : NoRun) → IsErrAnd r (λ s. s ≡ stop_of_no_run e) →
    NoRunFor (FaultyProgram wanted bytes) e → IfErr r (λ s. StopsFor (FaultyText wanted bytes) s)
no_net wanted bytes (Ok v) e h k = absurd h
no_net wanted bytes (Err s) e h k =
    subst (λ (x : Stop). StopsFor (FaultyText wanted bytes) x) (sym h) (stops_program (FaultyProgram wanted bytes) e k)

-- what any number of workers would report, these do
pub by_these : {E : Type 0} (task own : Task) → task ≡ own → (bytes : List ℕ) (workers : ℕ) (r : Result Report E) →
    IfOk r (λ v. (n : ℕ) → ReportsText n own bytes (output_of v)) → IfOk r (λ v. ReportsText workers task bytes (output_of v))
by_these task own e bytes workers (Ok v) h = subst (λ (t : Task). ReportsText workers t bytes (output_of v)) (sym e) (h workers)
by_these task own e bytes workers (Err x) h = h

-- ---- nets

-- what is so of a term on whose net it runs is so of the text's program, if that is the net
pub of_net : (calling : Calling) (bytes : List ℕ) (net : NetTree) (P : TermTree → Type 0) → IsNetFor calling bytes net →
    ((t : TermTree) → RunsAs calling t net → P t) → OfProgram (wanted_by_run calling) bytes (λ tree t A. P t)
of_net calling bytes net P is go = record {
  tree = is.tree;
  term = is.term;
  type = is.type;
  is = is.is;
  so = go is.term is.so;
}

-- what is printed of the net is printed of the program's net
pub printed_net : (print : NetTree → List ℕ) (bytes : List ℕ) (net : NetTree) → IsNetFor ByName bytes net → (text : List ℕ) →
    text ≡ print net → (o : Output) → o ≡ output 0 text [] →
    OfProgram number bytes (λ tree t A. o ≡ output 0 (print (net_of t)) [])
printed_net print bytes net is text same o e =
    of_net ByName bytes net (λ t. o ≡ output 0 (print (net_of t)) []) is
    (λ t runs. e ∙ ap (λ (x : List ℕ). output 0 x []) (same ∙ ap print runs.net_is))

-- the net of a program that runs by name is that of a term whose type is `nat`
pub ground_net : (bytes : List ℕ) (net : NetTree) → IsNetFor ByName bytes net → (t : TermTree) × IsGround bytes t × RunsAs ByName t net
ground_net bytes net is =
    (is.term, (is.tree, subst (λ (A : TyTree). IsProgram number bytes is.tree is.term A) is.is.will_do is.is), is.so)

-- and the net of a listed program is one on which the program runs
pub listed_net : BuiltRuns → MovesTell → (bytes : List ℕ) (t : TermTree) (net : NetTree) → ListsProgram bytes t → net ≡ net_of t →
    IsListedNet bytes net
listed_net built law bytes t net lists same = record {
  term = t;
  lists = lists;
  runs = runs_as built law ByName t lists.typed (λ v m. m) net same;
}
