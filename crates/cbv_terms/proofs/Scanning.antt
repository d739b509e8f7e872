-- The walk that looks for faults finds the least place of each kind, and the first of these two is the program's first fault.
use Rattle.std.proofs.Common.{◌≡◌, ◌⊎◌, ℕ, ◌<◌, ◌≤◌, min, Bool, true, false, Option, Some, None, refl, sym, subst}
use Rattle.std.proofs.Common.{inl, inr, arith}
use Rattle.std.specs.Prelude.{nat_le, not, cond, MatchOption}
use Rattle.std.proofs.lemmas.Bool.{cases_lt, le-leb, lt-leb}
use Rattle.pcf_values.specs.Terms.{TyTree}
use Rattle.pcf_values.specs.Named.{the_succ, the_pred, the_part, the_fun, the_fix, NamedTree, number_at, name_at, word_at}
use Rattle.pcf_values.specs.Named.{binary_at, pair_at, ifz_at, bind_at, apply_at, named_height}
use Rattle.cbv_terms.specs.declared.fault.ByValueFault.{ByValueFault}
use Rattle.cbv_terms.specs.declared.fault.ByValueFault.TheVariants.{NoMemory, ByValueFix, ByValuePair, ByValueDeep}
use Rattle.cbv_terms.specs.declared.limit.TheConstants.{BY_VALUE_HEIGHT}
use Rattle.cbv_terms.specs.declared.refusal.Least.{Least}
use Rattle.cbv_terms.specs.Translation.{has_product}
use Rattle.cbv_terms.specs.Faults.{is_of_fun, BinderFault, FixFault, HasFault, IsFault, NoLater, IsFirstFault, IsFaultless}
use Rattle.cbv_terms.specs.Scan.{IsLeast, Finds, lesser, where_holds, first_of}

-- what follows in either case
pub in_either : {A B C : Type 0} → A ⊎ B → (A → C) → (B → C) → C
in_either (inl a) f g = f a
in_either (inr b) f g = g b

pub either : {A B C : Type 0} → (A → C) → (B → C) → A ⊎ B → C
either f g (inl a) = f a
either f g (inr b) = g b

-- the lesser of the least places is the least of all
least_of_two : (P Q : ℕ → Type 0) (a b : ℕ) → P a → ((c : ℕ) → P c → a ≤ c) → Q b →
    ((c : ℕ) → Q c → b ≤ c) → (a < b) ⊎ (b ≤ a) → IsLeast (λ x. P x ⊎ Q x) (Some (min a b))
least_of_two P Q a b p h q k (inl l) =
    let e : a ≡ min a b = omega arith in
    subst (λ m. IsLeast (λ x. P x ⊎ Q x) (Some m)) e (inl p, λ c. either (λ x. h c x) (λ x. let z = k c x in omega arith))
least_of_two P Q a b p h q k (inr l) =
    let e : b ≡ min a b = omega arith in
    subst (λ m. IsLeast (λ x. P x ⊎ Q x) (Some m)) e (inr q, λ c. either (λ x. let z = h c x in omega arith) (λ x. k c x))

pub least_both : (P Q : ℕ → Type 0) (a b : Option ℕ) → IsLeast P a → IsLeast Q b → IsLeast (λ x. P x ⊎ Q x) (lesser a b)
least_both P Q None None h k = λ c. either (h c) (k c)
least_both P Q None (Some b) h (q, k) = (inr q, λ c. either (λ x. absurd (h c x)) (k c))
least_both P Q (Some a) None (p, h) k = (inl p, λ c. either (h c) (λ x. absurd (k c x)))
least_both P Q (Some a) (Some b) (p, h) (q, k) = least_of_two P Q a b p h q k (cases_lt a b)

pub finds_both : (F G : ByValueFault → Type 0) (x y z : Least) → Finds F x → Finds G y → z.fixes ≡ lesser x.fixes y.fixes →
    z.pairs ≡ lesser x.pairs y.pairs → Finds (λ f. F f ⊎ G f) z
finds_both F G x y z h k e q = record {
  fixes = subst (IsLeast (λ at. F (ByValueFix at) ⊎ G (ByValueFix at))) (sym e)
      (least_both (λ at. F (ByValueFix at)) (λ at. G (ByValueFix at)) x.fixes y.fixes h.fixes k.fixes);
  pairs = subst (IsLeast (λ at. F (ByValuePair at) ⊎ G (ByValuePair at))) (sym q)
      (least_both (λ at. F (ByValuePair at)) (λ at. G (ByValuePair at)) x.pairs y.pairs h.pairs k.pairs);
}

-- the faults of a node itself
pub no_fix_at_pair : (at : ℕ) → IsLeast (λ a. ByValueFix a ≡ ByValuePair at) None
no_fix_at_pair at a e = cc

pub least_pair : (at : ℕ) → IsLeast (λ a. ByValuePair a ≡ ByValuePair at) (Some at)
least_pair at = (refl, λ a e. let q : a ≡ at = cc in omega arith)

pub no_binder_fix : (at : ℕ) (t : TyTree) → IsLeast (λ a. BinderFault at t (ByValueFix a)) None
no_binder_fix at t a (e, q) = cc

pub least_binder : (at : ℕ) (t : TyTree) (b : Bool) → has_product t ≡ b →
    IsLeast (λ a. BinderFault at t (ByValuePair a)) (where_holds b at)
least_binder at t true e = ((e, refl), λ a (h, q). let r : a ≡ at = cc in omega arith)
least_binder at t false e = λ a (h, q). cc

pub least_fix : (at : ℕ) (t : TyTree) (m : NamedTree) (b : Bool) → is_of_fun t m ≡ b →
    IsLeast (λ a. FixFault at t m (ByValueFix a)) (where_holds (not b) at)
least_fix at t m true e = λ a (h, q). cc
least_fix at t m false e = ((e, refl), λ a (h, q). let r : a ≡ at = cc in omega arith)

pub no_fix_pair : (at : ℕ) (t : TyTree) (m : NamedTree) → IsLeast (λ a. FixFault at t m (ByValuePair a)) None
no_fix_pair at t m a (e, q) = cc

-- where no fault is
pub finds_none : (z : Least) → z.fixes ≡ None → z.pairs ≡ None → Finds (λ f. ⊥) z
finds_none z e q = record {
  fixes = subst (IsLeast (λ a. ⊥)) (sym e) (λ a h. h);
  pairs = subst (IsLeast (λ a. ⊥)) (sym q) (λ a h. h);
}

pub finds_pair : (at : ℕ) (z : Least) → z.fixes ≡ None → z.pairs ≡ Some at → Finds (λ f. f ≡ ByValuePair at) z
finds_pair at z e q = record {
  fixes = subst (IsLeast (λ a. ByValueFix a ≡ ByValuePair at)) (sym e) (no_fix_at_pair at);
  pairs = subst (IsLeast (λ a. ByValuePair a ≡ ByValuePair at)) (sym q) (least_pair at);
}

pub finds_binder : (at : ℕ) (t : TyTree) (z : Least) → z.fixes ≡ None → z.pairs ≡ where_holds (has_product t) at →
    Finds (BinderFault at t) z
finds_binder at t z e q = record {
  fixes = subst (IsLeast (λ a. BinderFault at t (ByValueFix a))) (sym e) (no_binder_fix at t);
  pairs = subst (IsLeast (λ a. BinderFault at t (ByValuePair a))) (sym q) (least_binder at t (has_product t) refl);
}

pub finds_fix : (at : ℕ) (t : TyTree) (m : NamedTree) (z : Least) → z.fixes ≡ where_holds (not (is_of_fun t m)) at →
    z.pairs ≡ None → Finds (FixFault at t m) z
finds_fix at t m z e q = record {
  fixes = subst (IsLeast (λ a. FixFault at t m (ByValueFix a))) (sym e) (least_fix at t m (is_of_fun t m) refl);
  pairs = subst (IsLeast (λ a. FixFault at t m (ByValuePair a))) (sym q) (no_fix_pair at t m);
}

-- the first of the faults at the least places of both kinds is the first fault of a program that isn't too deep
module _ (tree : NamedTree) (low : named_height tree ≤ BY_VALUE_HEIGHT) where
  not_deep : BY_VALUE_HEIGHT < named_height tree → ⊥
  not_deep h = omega arith

  none_found : ((at : ℕ) → HasFault tree (ByValueFix at) → ⊥) → ((at : ℕ) → HasFault tree (ByValuePair at) → ⊥) →
      IsFaultless tree
  none_found h k NoMemory w = w
  none_found h k (ByValueFix at) w = h at w
  none_found h k (ByValuePair at) w = k at w
  none_found h k ByValueDeep w = not_deep w

  fix_first : (a : ℕ) → ((at : ℕ) → HasFault tree (ByValueFix at) → a ≤ at) →
      ((at : ℕ) → HasFault tree (ByValuePair at) → a ≤ at) → (g : ByValueFault) → IsFault tree g → NoLater (ByValueFix a) g
  fix_first a h k NoMemory w = w
  fix_first a h k (ByValueFix at) w = h at w
  fix_first a h k (ByValuePair at) w = k at w
  fix_first a h k ByValueDeep w = not_deep w

  pair_first : (a : ℕ) → ((at : ℕ) → HasFault tree (ByValueFix at) → a < at) →
      ((at : ℕ) → HasFault tree (ByValuePair at) → a ≤ at) → (g : ByValueFault) → IsFault tree g → NoLater (ByValuePair a) g
  pair_first a h k NoMemory w = w
  pair_first a h k (ByValueFix at) w = h at w
  pair_first a h k (ByValuePair at) w = k at w
  pair_first a h k ByValueDeep w = not_deep w

  abbrev IsFirstFound : Option ByValueFault → Type 0
  IsFirstFound r = MatchOption r (IsFaultless tree) (IsFirstFault tree)

  first_of_two : (a b : ℕ) → HasFault tree (ByValueFix a) → ((at : ℕ) → HasFault tree (ByValueFix at) → a ≤ at) →
      HasFault tree (ByValuePair b) → ((at : ℕ) → HasFault tree (ByValuePair at) → b ≤ at)
      → (b < a) ⊎ (a ≤ b) → IsFirstFound (first_of (Some a) (Some b))
  first_of_two a b p h q k (inl l) =
      let e : nat_le a b ≡ false = lt-leb a b l in
      subst (λ c. IsFirstFound (cond c (Some (ByValueFix a)) (Some (ByValuePair b)))) (sym e)
      (record { fault = q; first = pair_first b (λ at x. let z = h at x in omega arith) k })
  first_of_two a b p h q k (inr l) =
      let e : nat_le a b ≡ true = le-leb a b l in
      subst (λ c. IsFirstFound (cond c (Some (ByValueFix a)) (Some (ByValuePair b)))) (sym e)
      (record { fault = p; first = fix_first a h (λ at x. let z = k at x in omega arith) })

  pub told_of : (a b : Option ℕ) → IsLeast (λ at. HasFault tree (ByValueFix at)) a →
      IsLeast (λ at. HasFault tree (ByValuePair at)) b → IsFirstFound (first_of a b)
  told_of None None h k = none_found h k
  told_of (Some a) None (p, h) k = record { fault = p; first = fix_first a h (λ at x. absurd (k at x)) }
  told_of None (Some b) h (q, k) = record { fault = q; first = pair_first b (λ at x. absurd (h at x)) k }
  told_of (Some a) (Some b) (p, h) (q, k) = first_of_two a b p h q k (cases_lt b a)

pub told : (tree : NamedTree) (found : Least) (r : Option ByValueFault) → named_height tree ≤ BY_VALUE_HEIGHT →
    Finds (HasFault tree) found → r ≡ first_of found.fixes found.pairs → MatchOption r (IsFaultless tree) (IsFirstFault tree)
told tree found r l h e = subst (λ r. MatchOption r (IsFaultless tree) (IsFirstFault tree)) (sym e)
    (told_of tree l found.fixes found.pairs h.fixes h.pairs)

deep_before : (g : ByValueFault) → NoLater ByValueDeep g
deep_before g = tt

pub deep_first : (tree : NamedTree) → BY_VALUE_HEIGHT < named_height tree → IsFirstFault tree ByValueDeep
deep_first tree h = record { fault = h; first = λ g w. deep_before g }

-- each tree has such places
pub record Found (F : ByValueFault → Type 0) : Type 0 where
  pub fix : Option ℕ
  pub pair : Option ℕ
  pub fixes : IsLeast (λ at. F (ByValueFix at)) fix
  pub pairs : IsLeast (λ at. F (ByValuePair at)) pair

abbrev found_both : (F G : ByValueFault → Type 0) → Found F → Found G → Found (λ f. F f ⊎ G f)
found_both F G x y = record {
  fix = lesser x.fix y.fix;
  pair = lesser x.pair y.pair;
  fixes = least_both (λ at. F (ByValueFix at)) (λ at. G (ByValueFix at)) x.fix y.fix x.fixes y.fixes;
  pairs = least_both (λ at. F (ByValuePair at)) (λ at. G (ByValuePair at)) x.pair y.pair x.pairs y.pairs;
}

abbrev found_none : Found (λ f. ⊥)
found_none = record { fix = None; pair = None; fixes = λ at h. h; pairs = λ at h. h }

abbrev found_pair : (at : ℕ) → Found (λ f. f ≡ ByValuePair at)
found_pair at = record { fix = None; pair = Some at; fixes = no_fix_at_pair at; pairs = least_pair at }

abbrev found_binder : (at : ℕ) (t : TyTree) → Found (BinderFault at t)
found_binder at t = record {
  fix = None;
  pair = where_holds (has_product t) at;
  fixes = no_binder_fix at t;
  pairs =
      least_binder at t (has_product t) refl;
}

abbrev found_fix : (at : ℕ) (t : TyTree) (m : NamedTree) → Found (FixFault at t m)
found_fix at t m = record {
  fix = where_holds (not (is_of_fun t m)) at;
  pair = None;
  fixes = least_fix at t m (is_of_fun t m) refl;
  pairs =
      no_fix_pair at t m;
}

abbrev pub found : (tree : NamedTree) → Found (HasFault tree)
found (number_at at n) = found_none
found (name_at at x) = found_none
found (word_at at the_succ a) = found a
found (word_at at the_pred a) = found a
found (word_at at (the_part s) a) = found_both (λ f. f ≡ ByValuePair at) (HasFault a) (found_pair at) (found a)
found (binary_at at o a b) = found_both (HasFault a) (HasFault b) (found a) (found b)
found (pair_at at a b) = found_both (λ f. f ≡ ByValuePair at) (λ f. HasFault a f ⊎
    HasFault b f) (found_pair at) (found_both (HasFault a) (HasFault b) (found a) (found b))
found (ifz_at at c p q) = found_both (HasFault c) (λ f. HasFault p f ⊎ HasFault q f) (found c)
    (found_both (HasFault p) (HasFault q) (found p) (found q))
found (bind_at at the_fun x t m) = found_both (BinderFault at t) (HasFault m) (found_binder at t) (found m)
found (bind_at at the_fix x t m) =
    found_both (FixFault at t m) (λ f. BinderFault at t f ⊎ HasFault m f) (found_fix at t m)
    (found_both (BinderFault at t) (HasFault m) (found_binder at t) (found m))
found (apply_at at g a) = found_both (HasFault g) (HasFault a) (found g) (found a)

told_either : (tree : NamedTree) (r : Option ByValueFault) → MatchOption r (IsFaultless tree) (IsFirstFault tree) → IsFaultless tree ⊎
    ((f : ByValueFault) × IsFirstFault tree f)
told_either tree None h = inl h
told_either tree (Some f) h = inr (f, h)

-- what is told of the program by these places is its first fault
pub told_found : (tree : NamedTree) → named_height tree ≤ BY_VALUE_HEIGHT →
    MatchOption (first_of (found tree).fix (found tree).pair) (IsFaultless tree) (IsFirstFault tree)
told_found tree l = told_of tree l (found tree).fix (found tree).pair (found tree).fixes (found tree).pairs

-- a program has no fault or a first one
pub some_first_fault : (tree : NamedTree) → IsFaultless tree ⊎ ((f : ByValueFault) × IsFirstFault tree f)
some_first_fault tree = go (cases_lt BY_VALUE_HEIGHT (named_height tree))
  where
    go : (BY_VALUE_HEIGHT < named_height tree) ⊎ (named_height tree ≤ BY_VALUE_HEIGHT) → IsFaultless tree ⊎
        ((f : ByValueFault) × IsFirstFault tree f)
    go (inl l) = inr (ByValueDeep, deep_first tree l)
    go (inr l) = told_either tree (first_of (found tree).fix (found tree).pair) (told_found tree l)

-- of two faults of which neither is later than the other, both are one
same_fault : (f g : ByValueFault) → NoLater f g → NoLater g f → f ≡ g
same_fault ByValueDeep ByValueDeep h k = refl
same_fault ByValueDeep (ByValueFix b) h k = elim k [ ]
same_fault ByValueDeep (ByValuePair b) h k = elim k [ ]
same_fault ByValueDeep NoMemory h k = elim k [ ]
same_fault (ByValueFix a) ByValueDeep h k = elim h [ ]
same_fault (ByValueFix a) (ByValueFix b) h k = let e : a ≡ b = omega arith in cc
same_fault (ByValueFix a) (ByValuePair b) h k = absurd (omega arith)
same_fault (ByValueFix a) NoMemory h k = elim h [ ]
same_fault (ByValuePair a) ByValueDeep h k = elim h [ ]
same_fault (ByValuePair a) (ByValueFix b) h k = absurd (omega arith)
same_fault (ByValuePair a) (ByValuePair b) h k = let e : a ≡ b = omega arith in cc
same_fault (ByValuePair a) NoMemory h k = elim h [ ]
same_fault NoMemory ByValueDeep h k = elim h [ ]
same_fault NoMemory (ByValueFix b) h k = elim h [ ]
same_fault NoMemory (ByValuePair b) h k = elim h [ ]
same_fault NoMemory NoMemory h k = elim h [ ]

-- and one first fault at most
pub one_first_fault : (tree : NamedTree) (f g : ByValueFault) → IsFirstFault tree f → IsFirstFault tree g → f ≡ g
one_first_fault tree f g h k = same_fault f g (h.first g k.fault) (k.first f h.fault)

-- a tree has a height
pub named_height_positive : (t : NamedTree) → 1 ≤ named_height t
named_height_positive (number_at at n) = omega arith
named_height_positive (name_at at x) = omega arith
named_height_positive (word_at at w a) = omega arith
named_height_positive (binary_at at o a b) = omega arith
named_height_positive (pair_at at a b) = omega arith
named_height_positive (ifz_at at c p q) = omega arith
named_height_positive (bind_at at b x t m) = omega arith
named_height_positive (apply_at at f a) = omega arith
