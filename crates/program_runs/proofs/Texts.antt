-- From a tree and its faults to those of the text that stands for it, and from its net to that of its text.
use Rattle.std.proofs.Common.{◌≡◌, ◌≢◌, ◌∙◌, ℕ, List, [], Result, Ok, Err, IfOk, IfErr, IsErrAnd, refl, sym, ap, subst}
use Rattle.pcf_values.specs.Terms.{TyTree, TermTree, nat}
use Rattle.pcf_values.specs.Typing.{HasType}
use Rattle.pcf_values.specs.Named.{NamedTree}
use Rattle.pcf_reader.specs.declared.fault.ReadFault.{ReadFault}
use Rattle.pcf_reader.specs.declared.fault.ReadFault.TheVariants as read
use Rattle.pcf_reader.specs.Correct.{Text}
use Rattle.pcf_reader.specs.Answered.{Faults}
use Rattle.pcf_types.specs.Checking.{type_of}
use Rattle.pcf_types.specs.declared.fault.TypeFault.{TypeFault}
use Rattle.pcf_types.specs.declared.fault.TypeFault.TheVariants as typing
use Rattle.cbv_terms.specs.declared.fault.ByValueFault.{ByValueFault}
use Rattle.cbv_terms.specs.declared.fault.ByValueFault.TheVariants as by_value
use Rattle.cbv_terms.specs.Faults.{IsFirstFault, IsFaultless}
use Rattle.cbv_terms.specs.Laws.{SameValues, TranslatedIsTyped}
use Rattle.cbv_terms.specs.Translation.{translated}
use Rattle.cbv_terms.specs.Accepted.{Accepted}
use Rattle.net_build.specs.Nets.{NetTree}
use Rattle.net_build.specs.NetOf.{net_of}
use Rattle.adequacy_laws.specs.Adequacy.{BuiltRuns}
use Rattle.program_runs.specs.declared.calling.Calling.{Calling}
use Rattle.program_runs.specs.declared.calling.Calling.TheVariants.{ByName, ByValue}
use Rattle.program_runs.specs.declared.fault.ProgramFault.{ProgramFault}
use Rattle.program_runs.specs.declared.fault.ProgramFault.TheVariants.{NotGround}
use Rattle.program_runs.specs.declared.no_run.NoRun.{NoRun}
use Rattle.program_runs.specs.declared.no_run.NoRun.TheVariants.{Memory, Fault}
use Rattle.program_runs.specs.Laws.{MovesTell}
use Rattle.program_runs.specs.Nets.{IsNetFor, IsNetOfTree, IsRunner}
use Rattle.program_runs.specs.NoRuns.{NoRunFor, no_run_of_read, no_run_of_type, no_run_of_by_value}
use Rattle.program_runs.specs.Programs.{Wanted, any_type, strict_number, wanted_by_run, FaultyTree, untyped, no_number, untranslated}
use Rattle.program_runs.specs.Programs.{FaultyProgram, unread, of_tree}
use Rattle.program_runs.proofs.Telling.{runs_as}

-- ---- faults

-- what stops for one cause stops for a weaker one
stops_weaker : (P Q : ProgramFault → Type 0) (e : NoRun) → ((f : ProgramFault) → P f → Q f) → NoRunFor P e → NoRunFor Q e
stops_weaker P Q Memory k h = h
stops_weaker P Q (Fault f) k h = k f h

pub faults_weaker : {A : Type 0} (P Q : ProgramFault → Type 0) (r : Result A NoRun) → ((f : ProgramFault) → P f → Q f) →
    IfErr r (λ e. NoRunFor P e) → IfErr r (λ e. NoRunFor Q e)
faults_weaker P Q (Ok v) k h = h
faults_weaker P Q (Err e) k h = stops_weaker P Q e k h

-- what a result stops for is the cause that it was made of
pub stops_by : {V : Type 0} (r : Result V NoRun) (s : NoRun) (P : ProgramFault → Type 0) → IsErrAnd r (λ e. e ≡ s) → NoRunFor P s →
    IfErr r (λ e. NoRunFor P e)
stops_by (Ok v) s P h p = absurd h
stops_by (Err e) s P h p = subst (λ (x : NoRun). NoRunFor P x) (sym h) p

-- the fault of a tree is one of its text
pub faults_of_text : {A : Type 0} (wanted : Wanted) (bytes : List ℕ) (tree : NamedTree) (r : Result A NoRun) → Text bytes tree →
    IfErr r (λ e. NoRunFor (FaultyTree wanted tree) e) → IfErr r (λ e. NoRunFor (FaultyProgram wanted bytes) e)
faults_of_text wanted bytes tree r x h = faults_weaker (FaultyTree wanted tree) (FaultyProgram wanted bytes) r (λ f. of_tree tree f x) h

-- a run wants a number
wants_number : (calling : Calling) → wanted_by_run calling ≢ any_type
wants_number ByName e = cc
wants_number ByValue e = cc

pub unfit : (calling : Calling) (tree : NamedTree) (t : TermTree) (A : TyTree) → type_of [] tree ≡ Ok (t, A) → A ≢ nat →
    FaultyTree (wanted_by_run calling) tree NotGround
unfit calling tree t A d n = no_number t A (wants_number calling) d n

-- a text that stands for no tree stops for its first fault
pub stops_unread : (wanted : Wanted) (bytes : List ℕ) (f : ReadFault) → Faults bytes f →
    NoRunFor (FaultyProgram wanted bytes) (no_run_of_read f)
stops_unread wanted bytes read.NoMemory h = tt
stops_unread wanted bytes (read.NotText at) h = unread (read.NotText at) h
stops_unread wanted bytes (read.BadToken at) h = unread (read.BadToken at) h
stops_unread wanted bytes (read.NumberTooWide at) h = unread (read.NumberTooWide at) h
stops_unread wanted bytes (read.Unexpected at) h = unread (read.Unexpected at) h
stops_unread wanted bytes (read.TooDeep at) h = unread (read.TooDeep at) h
stops_unread wanted bytes (read.TooLarge at) h = unread (read.TooLarge at) h
stops_unread wanted bytes read.TooLong h = unread read.TooLong h

-- a tree without a type stops for its fault
pub stops_untyped : (wanted : Wanted) (tree : NamedTree) (f : TypeFault) → (f ≢ typing.NoMemory → type_of [] tree ≡ Err f) →
    NoRunFor (FaultyTree wanted tree) (no_run_of_type f)
stops_untyped wanted tree typing.NoMemory h = tt
stops_untyped wanted tree (typing.Unbound at) h = untyped (typing.Unbound at) (h (λ e. cc))
stops_untyped wanted tree (typing.FunctionWanted at) h = untyped (typing.FunctionWanted at) (h (λ e. cc))
stops_untyped wanted tree (typing.ArgumentMismatch at) h = untyped (typing.ArgumentMismatch at) (h (λ e. cc))
stops_untyped wanted tree (typing.NatWanted at) h = untyped (typing.NatWanted at) (h (λ e. cc))
stops_untyped wanted tree (typing.FixMismatch at) h = untyped (typing.FixMismatch at) (h (λ e. cc))
stops_untyped wanted tree (typing.PairWanted at) h = untyped (typing.PairWanted at) (h (λ e. cc))

-- a number without a translation stops for its first fault
pub stops_untranslated : (tree : NamedTree) (t : TermTree) (f : ByValueFault) → type_of [] tree ≡ Ok (t, nat) →
    (f ≢ by_value.NoMemory → IsFirstFault tree f) → NoRunFor (FaultyTree strict_number tree) (no_run_of_by_value f)
stops_untranslated tree t by_value.NoMemory d h = tt
stops_untranslated tree t (by_value.ByValueFix at) d h = untranslated t (by_value.ByValueFix at) refl d (h (λ e. cc))
stops_untranslated tree t (by_value.ByValuePair at) d h = untranslated t (by_value.ByValuePair at) refl d (h (λ e. cc))
stops_untranslated tree t by_value.ByValueDeep d h = untranslated t by_value.ByValueDeep refl d (h (λ e. cc))

-- ---- nets

-- a number runs for itself
pub runs_itself : (tree : NamedTree) (p : TermTree × TyTree) → type_of [] tree ≡ Ok p → p.1 ≡ nat → HasType [] p.0 nat →
    IsRunner ByName tree p
runs_itself tree p d e typed = record {
  term = p.0;
  accepted = subst (λ (A : TyTree). type_of [] tree ≡ Ok (p.0, A)) e d;
  will_do = refl;
  is = ap (λ (A : TyTree). (p.0, A)) e;
  typed = typed;
  means = λ v m. m;
}

-- and its translation by value
pub runs_translated : SameValues → TranslatedIsTyped → (tree : NamedTree) (q p : TermTree × TyTree) → type_of [] tree ≡ Ok q → q.1 ≡ nat →
    HasType [] q.0 nat → p ≡ (translated q.0, nat) → Accepted q.0 → IsFaultless tree → IsRunner ByValue tree p
runs_translated same law tree q p d e typed is accepted faultless = record {
  term = q.0;
  accepted = subst (λ (A : TyTree). type_of [] tree ≡ Ok (q.0, A)) e d;
  will_do = (refl, faultless);
  is = is;
  typed = law q.0 typed accepted.1;
  means = λ v m. (same q.0 typed accepted.1 v).1 m;
}

-- the net of the program that runs for a tree's is one on which the tree's runs
pub net_of_runner : BuiltRuns → MovesTell → (calling : Calling) (tree : NamedTree) (p : TermTree × TyTree) (net : NetTree) →
    IsRunner calling tree p → net ≡ net_of p.0 → IsNetOfTree calling tree net
net_of_runner built law calling tree p net h same = record {
  term = h.term;
  accepted = h.accepted;
  will_do = h.will_do;
  runs = runs_as built law calling h.term h.typed h.means net (same ∙ ap (λ (q : TermTree × TyTree). net_of q.0) h.is);
}

-- and the net of a tree is that of its text
pub nets_of_text : {E : Type 0} (calling : Calling) (bytes : List ℕ) (tree : NamedTree) (r : Result NetTree E) → Text bytes tree →
    IfOk r (λ net. IsNetOfTree calling tree net) → IfOk r (λ net. IsNetFor calling bytes net)
nets_of_text calling bytes tree (Ok net) x h = record {
  tree = tree;
  term = h.term;
  type = nat;
  is = record { text = x; typed = h.accepted; will_do = h.will_do };
  so = h.runs;
}
nets_of_text calling bytes tree (Err e) x h = h
