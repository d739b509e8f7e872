-- From a tree and its faults to those of the text that stands for it, and from its function to that of its text.
use Rattle.std.proofs.Common.{◌≡◌, ◌≢◌, ℕ, List, [], Result, Ok, Err, IfOk, IfErr, sym, ap, subst}
use Rattle.pcf_values.specs.Terms.{TyTree, TermTree}
use Rattle.pcf_values.specs.Named.{NamedTree}
use Rattle.pcf_reader.specs.declared.fault.ReadFault.{ReadFault}
use Rattle.pcf_reader.specs.declared.fault.ReadFault.TheVariants as read
use Rattle.pcf_reader.specs.Correct.{Text}
use Rattle.pcf_reader.specs.Answered.{Faults}
use Rattle.pcf_types.specs.Checking.{type_of}
use Rattle.pcf_types.specs.declared.fault.TypeFault.{TypeFault}
use Rattle.pcf_types.specs.declared.fault.TypeFault.TheVariants as typing
use Rattle.program_runs.specs.declared.fault.ProgramFault.{ProgramFault}
use Rattle.program_runs.specs.declared.no_run.NoRun.{NoRun}
use Rattle.program_runs.specs.declared.no_run.NoRun.TheVariants.{Memory, Fault}
use Rattle.program_runs.specs.NoRuns.{NoRunFor, no_run_of_read, no_run_of_type}
use Rattle.program_runs.proofs.Texts.{faults_weaker}
use Rattle.function_runs.specs.Functions.{CompilesTree, CompilesText, FaultyTree, Takes, untyped, other_type}
use Rattle.function_runs.specs.Misfit.{IsMisfit, misfit}
use Rattle.function_runs.specs.Functions.{FaultyFunction, FaultyAny, unread, of_tree}

pub faults_of_text : {A : Type 0} (n : ℕ) (bytes : List ℕ) (tree : NamedTree) (r : Result A NoRun) → Text bytes tree →
    IfErr r (λ e. NoRunFor (FaultyTree n tree) e) → IfErr r (λ e. NoRunFor (FaultyFunction n bytes) e)
faults_of_text n bytes tree r x h = faults_weaker (FaultyTree n tree) (FaultyFunction n bytes) r (λ f. of_tree tree f x) h

unfit : (n : ℕ) (tree : NamedTree) (t : TermTree) (A : TyTree) (f : ProgramFault) → type_of [] tree ≡ Ok (t, A) → IsMisfit n A f →
    FaultyTree n tree f
unfit n tree t A _ d (misfit h) = other_type t A d h

pub faults_of_tree : {A : Type 0} (n : ℕ) (tree : NamedTree) (p : TermTree × TyTree) (r : Result A NoRun) → type_of [] tree ≡ Ok p →
    IfErr r (λ e. NoRunFor (IsMisfit n p.1) e) → IfErr r (λ e. NoRunFor (FaultyTree n tree) e)
faults_of_tree n tree p r d h = faults_weaker (IsMisfit n p.1) (FaultyTree n tree) r (λ f. unfit n tree p.0 p.1 f d) h

pub stops_unread : (n : ℕ) (bytes : List ℕ) (f : ReadFault) → Faults bytes f → NoRunFor (FaultyFunction n bytes) (no_run_of_read f)
stops_unread n bytes read.NoMemory h = tt
stops_unread n bytes (read.NotText at) h = unread (read.NotText at) h
stops_unread n bytes (read.BadToken at) h = unread (read.BadToken at) h
stops_unread n bytes (read.NumberTooWide at) h = unread (read.NumberTooWide at) h
stops_unread n bytes (read.Unexpected at) h = unread (read.Unexpected at) h
stops_unread n bytes (read.TooDeep at) h = unread (read.TooDeep at) h
stops_unread n bytes (read.TooLarge at) h = unread (read.TooLarge at) h
stops_unread n bytes read.TooLong h = unread read.TooLong h

pub stops_untyped : (n : ℕ) (tree : NamedTree) (f : TypeFault) → (f ≢ typing.NoMemory → type_of [] tree ≡ Err f) →
    NoRunFor (FaultyTree n tree) (no_run_of_type f)
stops_untyped n tree typing.NoMemory h = tt
stops_untyped n tree (typing.Unbound at) h = untyped (typing.Unbound at) (h (λ e. cc))
stops_untyped n tree (typing.FunctionWanted at) h = untyped (typing.FunctionWanted at) (h (λ e. cc))
stops_untyped n tree (typing.ArgumentMismatch at) h = untyped (typing.ArgumentMismatch at) (h (λ e. cc))
stops_untyped n tree (typing.NatWanted at) h = untyped (typing.NatWanted at) (h (λ e. cc))
stops_untyped n tree (typing.FixMismatch at) h = untyped (typing.FixMismatch at) (h (λ e. cc))
stops_untyped n tree (typing.PairWanted at) h = untyped (typing.PairWanted at) (h (λ e. cc))

pub functions_of_tree : {E : Type 0} (n : ℕ) (tree : NamedTree) (p : TermTree × TyTree) (r : Result (TermTree × ℕ) E) →
    type_of [] tree ≡ Ok p → IfOk r (λ f. Takes n p.1) → IfOk r (λ f. f ≡ (p.0, n)) → IfOk r (λ f. CompilesTree tree n f)
functions_of_tree n tree p (Ok f) d e h = record {
  typed =
      subst (λ (A : TyTree). type_of [] tree ≡ Ok (f.0, A)) e.type
      (subst (λ (t : TermTree). type_of [] tree ≡ Ok (t, p.1)) (sym (ap (λ (x : TermTree × ℕ). x.0) h)) d);
  takes = ap (λ (x : TermTree × ℕ). x.1) h;
  few = e.few;
}
functions_of_tree n tree p (Err x) d e h = e

pub functions_of_text : {E : Type 0} (n : ℕ) (bytes : List ℕ) (tree : NamedTree) (r : Result (TermTree × ℕ) E) → Text bytes tree →
    IfOk r (λ f. CompilesTree tree n f) → IfOk r (λ f. CompilesText bytes n f)
functions_of_text n bytes tree (Ok f) x h = (tree, x, h)
functions_of_text n bytes tree (Err e) x h = h

-- ---- as whatever function

any_of : (P : ℕ → ProgramFault → Type 0) (e : NoRun) → ((n : ℕ) → NoRunFor (P n) e) → NoRunFor (λ f. (n : ℕ) → P n f) e
any_of P Memory h = tt
any_of P (Fault f) h = h

pub any_unread : (bytes : List ℕ) (f : ReadFault) → Faults bytes f → NoRunFor (FaultyAny bytes) (no_run_of_read f)
any_unread bytes f h = any_of (λ n. FaultyFunction n bytes) (no_run_of_read f) (λ n. stops_unread n bytes f h)

pub any_untyped : (tree : NamedTree) (f : TypeFault) → (f ≢ typing.NoMemory → type_of [] tree ≡ Err f) →
    NoRunFor (λ g. (n : ℕ) → FaultyTree n tree g) (no_run_of_type f)
any_untyped tree f h = any_of (λ n. FaultyTree n tree) (no_run_of_type f) (λ n. stops_untyped n tree f h)

-- it is a misfit at so many numbers, and no other count would do
as_whatever : (k : ℕ) (A : TyTree) (f : ProgramFault) → ((n : ℕ) → Takes n A → k ≡ n) → IsMisfit k A f → (n : ℕ) → IsMisfit n A f
as_whatever k A _ e (misfit h) n = misfit (λ t. h (subst (λ j. Takes j A) (sym (e n t)) t))

pub any_faults_of_tree : {B : Type 0} (k : ℕ) (tree : NamedTree) (p : TermTree × TyTree) (r : Result B NoRun) →
    ((n : ℕ) → Takes n p.1 → k ≡ n) → type_of [] tree ≡ Ok p → IfErr r (λ e. NoRunFor (IsMisfit k p.1) e) →
    IfErr r (λ e. NoRunFor (λ f. (n : ℕ) → FaultyTree n tree f) e)
any_faults_of_tree k tree p r only d h =
    faults_weaker (IsMisfit k p.1) (λ f. (n : ℕ) → FaultyTree n tree f) r
    (λ f m n. unfit n tree p.0 p.1 f d (as_whatever k p.1 f only m n)) h

pub any_faults_of_text : {B : Type 0} (bytes : List ℕ) (tree : NamedTree) (r : Result B NoRun) → Text bytes tree →
    IfErr r (λ e. NoRunFor (λ f. (n : ℕ) → FaultyTree n tree f) e) → IfErr r (λ e. NoRunFor (FaultyAny bytes) e)
any_faults_of_text bytes tree r x h =
    faults_weaker (λ f. (n : ℕ) → FaultyTree n tree f) (FaultyAny bytes) r (λ f g n. of_tree tree f x (g n)) h

-- what is made for a count is made for the count that it has
pub any_function : {E : Type 0} (tree : NamedTree) (n : ℕ) (r : Result (TermTree × ℕ) E) → IfOk r (λ f. CompilesTree tree n f) →
    IfOk r (λ f. CompilesTree tree f.1 f)
any_function tree n (Ok f) h = subst (λ k. CompilesTree tree k f) (sym h.takes) h
any_function tree n (Err x) h = h
