-- A text is one function of so many numbers, or has one first fault, and never both.
use Rattle.std.proofs.Common.{◌≡◌, ℕ, List, [], Result, Ok, Err, refl, sym, ap, ◌∙◌, subst}
use Rattle.pcf_values.specs.Terms.{TyTree, TermTree}
use Rattle.pcf_values.specs.Named.{NamedTree}
use Rattle.pcf_reader.specs.Laws.{OneTree, OneFault, NotBoth}
use Rattle.pcf_types.specs.declared.fault.TypeFault.{TypeFault}
use Rattle.pcf_types.specs.Checking.{type_of}
use Rattle.open_net_laws.specs.Applied.{numeric}
use Rattle.program_runs.specs.declared.fault.ProgramFault.{ProgramFault}
use Rattle.program_runs.specs.declared.fault.ProgramFault.TheVariants.{Read, Typing}
use Rattle.program_runs.proofs.OneProgram.{term_or, type_or, fault_or}
use Rattle.function_runs.specs.Functions.{CompilesTree, CompilesText, FaultyTree, untyped, other_type, FaultyFunction, unread, of_tree}
use Rattle.function_runs.proofs.Counts.{arrow_count, count_is}
use Rattle.function_runs.specs.Laws.{OneFunction, OneOfAny}

-- ---- a tree has one term with its type, or one fault

differ : (r : Result (TermTree × TyTree) TypeFault) (e : TypeFault) (p : TermTree × TyTree) → r ≡ Err e → r ≡ Ok p → ⊥
differ (Ok q) e p h k = cc
differ (Err f) e p h k = cc

one_value : (n : ℕ) (tree : NamedTree) (f g : TermTree × ℕ) → CompilesTree tree n f → CompilesTree tree n g → f ≡ g
one_value n tree f g h k =
    ap (λ t. (t, f.1)) (ap (term_or f.0) (sym h.typed ∙ k.typed)) ∙ ap (λ m. (g.0, m)) (h.takes ∙ sym k.takes)

tree_fault : (n : ℕ) (tree : NamedTree) (f g : ProgramFault) → FaultyTree n tree f → FaultyTree n tree g → f ≡ g
tree_fault n tree _ _ (untyped f h) (untyped g k) = ap Typing (ap (fault_or f) (sym h ∙ k))
tree_fault n tree _ _ (untyped f h) (other_type t A k misfit) = absurd (differ (type_of [] tree) f (t, A) h k)
tree_fault n tree _ _ (other_type t A h misfit) (untyped g k) = absurd (differ (type_of [] tree) g (t, A) k h)
tree_fault n tree _ _ (other_type t A h misfit) (other_type u B k other) = refl

tree_sound : (n : ℕ) (tree : NamedTree) (f : TermTree × ℕ) (g : ProgramFault) → CompilesTree tree n f → FaultyTree n tree g → ⊥
tree_sound n tree f _ h (untyped g k) = differ (type_of [] tree) g (f.0, numeric n) k h.typed
tree_sound n tree f _ h (other_type t A k misfit) = misfit (record { type = ap (type_or A) (sym k ∙ h.typed); few = h.few })

-- ---- and so has a text

module _ (one_tree : OneTree) (one_fault : OneFault) (not_both : NotBoth) (n : ℕ) (bytes : List ℕ) where
  one_function : (f g : TermTree × ℕ) → CompilesText bytes n f → CompilesText bytes n g → f ≡ g
  one_function f g (tree, x, h) (other, y, k) =
      one_value n other f g (subst (λ (t : NamedTree). CompilesTree t n f) (one_tree bytes tree other x y) h) k

  faults : (f g : ProgramFault) → FaultyFunction n bytes f → FaultyFunction n bytes g → f ≡ g
  faults _ _ (unread f h) (unread g k) = ap Read (one_fault bytes f g h k)
  faults _ g (unread f h) (of_tree tree _ x k) = absurd (not_both bytes tree f x h)
  faults f _ (of_tree tree _ x h) (unread g k) = absurd (not_both bytes tree g x k)
  faults f g (of_tree tree _ x h) (of_tree other _ y k) =
      tree_fault n other f g (subst (λ (t : NamedTree). FaultyTree n t f) (one_tree bytes tree other x y) h) k

  sound : (f : TermTree × ℕ) (g : ProgramFault) → CompilesText bytes n f → FaultyFunction n bytes g → ⊥
  sound f _ (tree, x, h) (unread g k) = not_both bytes tree g x k
  sound f g (tree, x, h) (of_tree other _ y k) =
      tree_sound n other f g (subst (λ (t : NamedTree). CompilesTree t n f) (one_tree bytes tree other x y) h) k

pub functions_settle : OneTree → OneFault → NotBoth → OneFunction
functions_settle tree fault both = record {
  one_function = one_function tree fault both;
  one_fault = faults tree fault both;
  not_both = sound tree fault both;
}

-- ---- as whatever function

same_count : (n k : ℕ) → numeric n ≡ numeric k → n ≡ k
same_count n k e = sym (count_is n) ∙ ap arrow_count e ∙ count_is k

module _ (one_tree : OneTree) (one : OneFunction) (bytes : List ℕ) where
  counts : (n k : ℕ) (f g : TermTree × ℕ) → CompilesText bytes n f → CompilesText bytes k g → n ≡ k
  counts n k f g (tree, x, h) (other, y, l) =
      let same : CompilesTree other n f = subst (λ (t : NamedTree). CompilesTree t n f) (one_tree bytes tree other x y) h in
      same_count n k (ap (type_or (numeric n)) (sym same.typed ∙ l.typed))

  any_function : (n k : ℕ) (f g : TermTree × ℕ) → CompilesText bytes n f → CompilesText bytes k g → (n ≡ k) × (f ≡ g)
  any_function n k f g h l =
      let e : n ≡ k = counts n k f g h l in
      (e, one.one_function k bytes f g (subst (λ (j : ℕ). CompilesText bytes j f) e h) l)

pub any_settles : OneTree → OneFunction → OneOfAny
any_settles tree one = record {
  one_function = λ n k bytes. any_function tree one bytes n k;
  one_fault = λ bytes f g h k. one.one_fault 0 bytes f g (h 0) (k 0);
  not_both = λ n bytes f g h k. one.not_both n bytes f g h (k n);
}
