-- A text is one program or has one first fault, and never both.
use Rattle.std.proofs.Common.{◌≡◌, ◌≢◌, ◌⊎◌, ℕ, List, [], Result, Ok, Err, refl, sym, ap, ◌∙◌, subst, inl, inr}
use Rattle.pcf_values.specs.Terms.{TyTree, TermTree, nat, arrow, product}
use Rattle.pcf_values.specs.Named.{NamedTree}
use Rattle.pcf_reader.specs.declared.fault.ReadFault.{ReadFault}
use Rattle.pcf_reader.specs.Correct.{Text, FirstFault}
use Rattle.pcf_reader.specs.Laws.{OneTree, OneFault, NotBoth, TextOrFault}
use Rattle.pcf_types.specs.declared.fault.TypeFault.{TypeFault}
use Rattle.pcf_types.specs.Checking.{type_of}
use Rattle.cbv_terms.specs.declared.fault.ByValueFault.{ByValueFault}
use Rattle.cbv_terms.specs.Faults.{IsFirstFault, IsFaultless}
use Rattle.cbv_terms.specs.Laws.{OneFirstFault, SomeFirstFault}
use Rattle.program_runs.specs.declared.fault.ProgramFault.{ProgramFault}
use Rattle.program_runs.specs.declared.fault.ProgramFault.TheVariants.{Read, Typing, NotGround, ByValue}
use Rattle.program_runs.specs.Laws.{OneTerm, NoFault, OneProgramFault, OneProgram}
use Rattle.program_runs.specs.Programs.{Wanted, any_type, number, strict_number, WillDo, OfProgram, IsGround}
use Rattle.program_runs.specs.Programs.{FaultyTree, untyped, no_number, untranslated, FaultyProgram, unread, of_tree}

-- ---- a tree has one term, one type, or one fault

abbrev pub term_or : TermTree → Result (TermTree × TyTree) TypeFault → TermTree
term_or d (Ok p) = p.0
term_or d (Err e) = d

abbrev pub type_or : TyTree → Result (TermTree × TyTree) TypeFault → TyTree
type_or d (Ok p) = p.1
type_or d (Err e) = d

abbrev pub fault_or : TypeFault → Result (TermTree × TyTree) TypeFault → TypeFault
fault_or d (Ok p) = d
fault_or d (Err e) = e

one_term : (r : Result (TermTree × TyTree) TypeFault) (t u : TermTree) (A B : TyTree) → r ≡ Ok (t, A) → r ≡ Ok (u, B) → t ≡ u
one_term r t u A B d e = ap (term_or t) (sym d ∙ e)

one_type : (r : Result (TermTree × TyTree) TypeFault) (t u : TermTree) (A B : TyTree) → r ≡ Ok (t, A) → r ≡ Ok (u, B) → A ≡ B
one_type r t u A B d e = ap (type_or A) (sym d ∙ e)

differ : (r : Result (TermTree × TyTree) TypeFault) (e : TypeFault) (t : TermTree) (A : TyTree) → r ≡ Err e → r ≡ Ok (t, A) → ⊥
differ (Ok p) e t A h k = cc
differ (Err f) e t A h k = cc

-- a program that will do is a number where one is wanted
is_number : (wanted : Wanted) (tree : NamedTree) (A : TyTree) → wanted ≢ any_type → WillDo wanted tree A → A ≡ nat
is_number any_type tree A n h = absurd (n refl)
is_number number tree A n h = h
is_number strict_number tree A n h = h.0

-- and has a translation where it is to be run by value
has_none : (wanted : Wanted) (tree : NamedTree) (A : TyTree) (f : ByValueFault) → wanted ≡ strict_number → WillDo wanted tree A →
    IsFirstFault tree f → ⊥
has_none any_type tree A f e h k = absurd cc
has_none number tree A f e h k = absurd cc
has_none strict_number tree A f e h k = h.1 f k.fault

tree_sound : (wanted : Wanted) (tree : NamedTree) (t : TermTree) (A : TyTree) (f : ProgramFault) → type_of [] tree ≡ Ok (t, A) →
    WillDo wanted tree A → FaultyTree wanted tree f → ⊥
tree_sound wanted tree t A _ d s (untyped f h) = differ (type_of [] tree) f t A h d
tree_sound wanted tree t A _ d s (no_number u B n e k) =
    k (sym (one_type (type_of [] tree) t u A B d e) ∙ is_number wanted tree A n s)
tree_sound wanted tree t A _ d s (untranslated u f w e k) = has_none wanted tree A f w s k

-- a tree has one first fault for what is wanted of it
one_tree_fault : OneFirstFault → (wanted : Wanted) (tree : NamedTree) (f g : ProgramFault) → FaultyTree wanted tree f →
    FaultyTree wanted tree g → f ≡ g
one_tree_fault one wanted tree _ _ (untyped f h) (untyped g k) = ap Typing (ap (fault_or f) (sym h ∙ k))
one_tree_fault one wanted tree _ _ (untyped f h) (no_number u B n e k) = absurd (differ (type_of [] tree) f u B h e)
one_tree_fault one wanted tree _ _ (untyped f h) (untranslated u g w e k) = absurd (differ (type_of [] tree) f u nat h e)
one_tree_fault one wanted tree _ _ (no_number u B n e k) (untyped g h) = absurd (differ (type_of [] tree) g u B h e)
one_tree_fault one wanted tree _ _ (no_number u B n e k) (no_number v C m h l) = refl
one_tree_fault one wanted tree _ _ (no_number u B n e k) (untranslated v g w d l) =
    absurd (k (one_type (type_of [] tree) u v B nat e d))
one_tree_fault one wanted tree _ _ (untranslated u f w d l) (untyped g h) = absurd (differ (type_of [] tree) g u nat h d)
one_tree_fault one wanted tree _ _ (untranslated u f w d l) (no_number v C m e k) =
    absurd (k (one_type (type_of [] tree) v u C nat e d))
one_tree_fault one wanted tree _ _ (untranslated u f w d l) (untranslated v g x e k) = ap ByValue (one tree f g l k)

-- ---- a tree will do or has a fault

-- a type is `nat` or another
is_nat_or : (A : TyTree) → (A ≡ nat) ⊎ (A ≢ nat)
is_nat_or nat = inl refl
is_nat_or (arrow a b) = inr (λ e. cc)
is_nat_or (product a b) = inr (λ e. cc)

abbrev Outcome : Wanted → NamedTree → Type 0
Outcome wanted tree =
    ((t : TermTree) × (A : TyTree) × (type_of [] tree ≡ Ok (t, A)) × WillDo wanted tree A) ⊎ ((f : ProgramFault) × FaultyTree wanted tree f)

module _ (some : SomeFirstFault) (tree : NamedTree) where
  strict_outcome : (t : TermTree) → type_of [] tree ≡ Ok (t, nat) → IsFaultless tree ⊎ ((f : ByValueFault) × IsFirstFault tree f) →
      Outcome strict_number tree
  strict_outcome t d (inl h) = inl (t, nat, d, (refl, h))
  strict_outcome t d (inr (f, h)) = inr (ByValue f, untranslated t f refl d h)

  number_outcome : (wanted : Wanted) → wanted ≢ any_type → (t : TermTree) (A : TyTree) → type_of [] tree ≡ Ok (t, A) → A ≢ nat →
      Outcome wanted tree
  number_outcome wanted other t A d n = inr (NotGround, no_number t A other d n)

  typed_outcome : (wanted : Wanted) (t : TermTree) (A : TyTree) → type_of [] tree ≡ Ok (t, A) → (A ≡ nat) ⊎ (A ≢ nat) → Outcome wanted tree
  typed_outcome any_type t A d h = inl (t, A, d, tt)
  typed_outcome number t A d (inl e) = inl (t, A, d, e)
  typed_outcome number t A d (inr n) = number_outcome number (λ e. cc) t A d n
  typed_outcome strict_number t A d (inl e) =
      strict_outcome t (subst (λ (B : TyTree). type_of [] tree ≡ Ok (t, B)) e d) (some tree)
  typed_outcome strict_number t A d (inr n) = number_outcome strict_number (λ e. cc) t A d n

  outcome : (wanted : Wanted) (r : Result (TermTree × TyTree) TypeFault) → type_of [] tree ≡ r → Outcome wanted tree
  outcome wanted (Ok (t, A)) d = typed_outcome wanted t A d (is_nat_or A)
  outcome wanted (Err f) d = inr (Typing f, untyped f d)

-- ---- so it is with a text

module _ (one_tree : OneTree) where
  same_term : OneTerm
  same_term wanted other_wanted bytes tree other t u A B h k =
      let e : tree ≡ other = one_tree bytes tree other h.text k.text in
      one_term (type_of [] other) t u A B (subst (λ (x : NamedTree). type_of [] x ≡ Ok (t, A)) e h.typed) k.typed

  text_sound : NotBoth → NoFault
  text_sound not_both wanted bytes tree t A _ h (unread f k) = not_both bytes tree f h.text k
  text_sound not_both wanted bytes tree t A f h (of_tree other _ x k) =
      let e : other ≡ tree = one_tree bytes other tree x h.text in
      tree_sound wanted tree t A f h.typed h.will_do (subst (λ (u : NamedTree). FaultyTree wanted u f) e k)

  one_text_fault : OneFault → NotBoth → OneFirstFault → OneProgramFault
  one_text_fault one_fault not_both one wanted bytes _ _ (unread f h) (unread g k) = ap Read (one_fault bytes f g h k)
  one_text_fault one_fault not_both one wanted bytes _ g (unread f h) (of_tree tree _ x k) = absurd (not_both bytes tree f x h)
  one_text_fault one_fault not_both one wanted bytes f _ (of_tree tree _ x h) (unread g k) = absurd (not_both bytes tree g x k)
  one_text_fault one_fault not_both one wanted bytes f g (of_tree tree _ x h) (of_tree other _ y k) =
      let e : other ≡ tree = one_tree bytes other tree y x in
      one_tree_fault one wanted tree f g h (subst (λ (u : NamedTree). FaultyTree wanted u g) e k)

text_outcome : (wanted : Wanted) (bytes : List ℕ) (tree : NamedTree) → Text bytes tree → Outcome wanted tree →
    OfProgram wanted bytes (λ tree t A. Unit {0}) ⊎ ((f : ProgramFault) × FaultyProgram wanted bytes f)
text_outcome wanted bytes tree x (inl (t, A, d, w)) =
    inl (record { tree = tree; term = t; type = A; is = record { text = x; typed = d; will_do = w }; so = tt })
text_outcome wanted bytes tree x (inr (f, h)) = inr (f, of_tree tree f x h)

module _ (some : SomeFirstFault) (wanted : Wanted) (bytes : List ℕ) where
  read_outcome : ((t : NamedTree) × Text bytes t) ⊎ ((f : ReadFault) × FirstFault bytes f) →
      OfProgram wanted bytes (λ tree t A. Unit {0}) ⊎ ((f : ProgramFault) × FaultyProgram wanted bytes f)
  read_outcome (inl (tree, x)) = text_outcome wanted bytes tree x (outcome some tree wanted (type_of [] tree) refl)
  read_outcome (inr (f, h)) = inr (Read f, unread f h)

pub one_program : OneTree → OneFault → NotBoth → TextOrFault → OneFirstFault → SomeFirstFault → OneProgram
one_program one_tree one_fault not_both either one some = record {
  one_term = same_term one_tree;
  one_fault = one_text_fault one_tree one_fault not_both one;
  not_both = text_sound one_tree not_both;
  either = λ wanted bytes. read_outcome some wanted bytes (either bytes);
}

-- ---- of a program of type `nat`

module _ (law : OneProgram) where
  pub same_ground : (bytes : List ℕ) (t u : TermTree) → IsGround bytes t → IsGround bytes u → t ≡ u
  same_ground bytes t u (tree, h) (other, k) = law.one_term number number bytes tree other t u nat nat h k

  pub ground_sound : (bytes : List ℕ) (t : TermTree) (f : ProgramFault) → IsGround bytes t → FaultyProgram number bytes f → ⊥
  ground_sound bytes t f (tree, h) k = law.not_both number bytes tree t nat f h k

  -- two of one program
  pub same_program : (wanted : Wanted) (bytes : List ℕ) (P Q : NamedTree → TermTree → TyTree → Type 0) (h : OfProgram wanted bytes P)
      (k : OfProgram wanted bytes Q) → h.term ≡ k.term
  same_program wanted bytes P Q h k = law.one_term wanted wanted bytes h.tree k.tree h.term k.term h.type k.type h.is k.is
