-- Groups of names: registers, ports and wires with different names of classes that nothing above them has are right, where their widths
-- and expressions are; and what a name is that was declared above stays.
use Rattle.std.proofs.Common.{◌≡◌, ◌<◌, ◌≤◌, ◌+◌, ◌^◌, ℕ, zero, suc, Bool, true, false, not, ◌&&◌, ◌||◌, List, [], ◌∷◌, refl, ap, subst}
use Rattle.std.proofs.Common.{sym, ◌∙◌, arith}
use Rattle.std.proofs.lemmas.Bool.{and_parts, and_from, or_parts, lt-ltb, ne_eqb, not-true}
use Prim.Native.String.{String}
use lib.Text.{eqt}
use Rattle.verilog_tree.specs.Tree.{Size, count, named, more, less, Expr, num, sized, const, name, bit, part, word, cat, inverse, two}
use Rattle.verilog_tree.specs.Tree.{shift, test, logic, none, any, every, pick, Width, one, upto, wide, Item, input, reg, wire}
use Rattle.verilog_tree.specs.Meaning.{chosen}
use Rattle.verilog_tree.specs.WellFormed.{Kind, Entry, a_size, an_input, kind_of, wire_kind, is_size, parameter, vector, selects, is_memory}
use Rattle.verilog_tree.specs.WellFormed.{of_kind, member, identifier, taken, new, size_ok, width_ok, expr_ok, declare, declared, item_ok}
use Rattle.verilog_tree.specs.WellFormed.{items_ok, all_declared, driven}
use Rattle.verilog_tree.proofs.Own.{same_name, one_name, apart_names}
use Rattle.verilog_tree.proofs.Kept.{kind_taken}
use Rattle.joined_module_fits.proofs.Names.{own, and_on, class, class_apart, Group, is_identifier}
use Rattle.joined_module_fits.proofs.Own.{SameEnv, same_env, declare_foreign, own_items, own_same, own_below, below, below_taken}
use Rattle.joined_module_fits.proofs.Own.{below_more, kind_over}

-- ---- what grows

module _ (k : Kind) (x : String) (E : List Entry) (fresh : taken E x ≡ false) where
  kind_grows : (p : Kind → Bool) (y : String) → of_kind p E y ≡ true → of_kind p (declare k x E) y ≡ true
  kind_grows p y h = go (eqt x y) refl
    where
      go : (b : Bool) → eqt x y ≡ b → chosen b (p k) (of_kind p E y) ≡ true
      go true e =
          let z = kind_taken p E y h in
          let u : taken E y ≡ false = subst (λ v. taken E v ≡ false) (one_name x y e) fresh in
          let w : true ≡ false = sym z ∙ u in
          absurd cc
      go false e = h

  size_grows : (s : Size) → size_ok E s ≡ true → size_ok (declare k x E) s ≡ true
  size_grows (count n) h = refl
  size_grows (named y) h = kind_grows is_size y h
  size_grows (more a b) h = and_on h (size_grows a) (size_grows b)
  size_grows (less a b) h = and_on h (size_grows a) (size_grows b)

  width_grows : (w : Width) → width_ok E w ≡ true → width_ok (declare k x E) w ≡ true
  width_grows one h = refl
  width_grows (upto s) h = size_grows s h
  width_grows (wide s) h = size_grows s h

  pub expr_grows : (e : Expr) → expr_ok E e ≡ true → expr_ok (declare k x E) e ≡ true
  expr_grows (num n) h = refl
  expr_grows (sized w n) h = h
  expr_grows (const y) h = kind_grows parameter y h
  expr_grows (name y) h = kind_grows vector y h
  expr_grows (bit y e) h = and_on h (kind_grows selects y) (expr_grows e)
  expr_grows (part y a b) h = and_on h (kind_grows selects y) (λ d. and_on d (size_grows a) (size_grows b))
  expr_grows (word y e) h = and_on h (kind_grows is_memory y) (expr_grows e)
  expr_grows (cat a b) h = and_on h (λ c. c) (λ d. and_on d (expr_grows a) (expr_grows b))
  expr_grows (inverse a) h = expr_grows a h
  expr_grows (two o a b) h = and_on h (expr_grows a) (expr_grows b)
  expr_grows (shift o a b) h = and_on h (expr_grows a) (expr_grows b)
  expr_grows (test o a b) h = and_on h (expr_grows a) (expr_grows b)
  expr_grows (logic o a b) h = and_on h (expr_grows a) (expr_grows b)
  expr_grows (none a) h = expr_grows a h
  expr_grows (any a) h = expr_grows a h
  expr_grows (every a) h = expr_grows a h
  expr_grows (pick c a b) h = and_on h (expr_grows c) (λ d. and_on d (expr_grows a) (expr_grows b))

-- ---- items of a group

abbrev pub item_name : Item → String
item_name (input w x) = x
item_name (reg w x) = x
item_name (wire w x e) = x
item_name i = ""

abbrev pub item_kind : Item → Kind
item_kind (input w x) = an_input
item_kind (reg w x) = kind_of w
item_kind (wire w x e) = wire_kind w
item_kind i = a_size

abbrev pub names_of : List Item → List String
names_of [] = []
names_of (i ∷ is) = item_name i ∷ names_of is

abbrev pub counted : Item → Bool
counted (input (upto h) x) = true
counted (reg w x) = true
counted (wire w x e) = true
counted i = false

-- widths and expressions are right
abbrev pub fine : List Entry → Item → Bool
fine E (input w x) = width_ok E w
fine E (reg w x) = width_ok E w
fine E (wire w x e) = width_ok E w && expr_ok E e
fine E i = false

abbrev pub all_fine : List Entry → List Item → Bool
all_fine E [] = true
all_fine E (i ∷ is) = fine E i && all_fine E is

-- all different
abbrev pub distinct : List String → Bool
distinct [] = true
distinct (x ∷ xs) = not (member x xs) && distinct xs

abbrev pub untaken : List Entry → List String → Bool
untaken E [] = true
untaken E (x ∷ xs) = not (taken E x) && untaken E xs

-- a name of a class from c on, but below d
pub record OneName (c d : ℕ) (x : String) : Type 0 where
  pub named : identifier x ≡ true
  pub low : c ≤ class x
  pub high : class x < d

abbrev pub AllNames : ℕ → ℕ → List String → Type 0
AllNames c d [] = Unit {0}
AllNames c d (x ∷ xs) = OneName c d x × AllNames c d xs

pub all_more : (c d a b : ℕ) → a ≤ c → d ≤ b → (xs : List String) → AllNames c d xs → AllNames a b xs
all_more c d a b l m [] h = tt
all_more c d a b l m (x ∷ xs) h = (
  record {
    named = h.0.named;
    low = let p = h.0.low in omega (arith, l, p);
    high = let p = h.0.high in omega (arith, m, p);
  },
  all_more c d a b l m xs h.1,
)

abbrev pub all_counted : List Item → Bool
all_counted [] = true
all_counted (i ∷ is) = counted i && all_counted is

declares : (E : List Entry) (i : Item) → counted i ≡ true → declared E i ≡ declare (item_kind i) (item_name i) E
declares E (input (upto s) x) h = refl
declares E (reg w x) h = refl
declares E (wire w x e) h = refl
declares E i h = absurd cc

one_ok : (E : List Entry) (ds : List String) (i : Item) → counted i ≡ true → new E (item_name i) ≡ true → fine E i ≡ true →
    item_ok E ds i ≡ true
one_ok E ds (input w x) h n f = and_from _ _ n f
one_ok E ds (reg w x) h n f = and_from _ _ n f
one_ok E ds (wire w x e) h n f = and_from _ _ n f
one_ok E ds i h n f = absurd cc

fine_grows : (k : Kind) (x : String) (E : List Entry) → taken E x ≡ false → (i : Item) → fine E i ≡ true → fine (declare k x E) i ≡ true
fine_grows k x E t (input w y) f = width_grows k x E t w f
fine_grows k x E t (reg w y) f = width_grows k x E t w f
fine_grows k x E t (wire w y e) f = and_on f (width_grows k x E t w) (expr_grows k x E t e)
fine_grows k x E t i f = absurd cc

all_fine_grow : (k : Kind) (x : String) (E : List Entry) → taken E x ≡ false → (is : List Item) → all_fine E is ≡ true →
    all_fine (declare k x E) is ≡ true
all_fine_grow k x E t [] f = refl
all_fine_grow k x E t (i ∷ is) f = and_on f (fine_grows k x E t i) (all_fine_grow k x E t is)

-- names that aren't taken stay so if another one is declared
untaken_grow : (k : Kind) (x : String) (E : List Entry) (xs : List String) → member x xs ≡ false → untaken E xs ≡ true →
    untaken (declare k x E) xs ≡ true
untaken_grow k x E [] m h = refl
untaken_grow k x E (y ∷ ys) m h =
    let (a, b) = or_parts (eqt y x) (member x ys) m in
    let other = apart_names x y (λ e. let z : true ≡ false = sym (same_name y) ∙ ap (λ v. eqt y v) (sym e) ∙ a in absurd cc) in
    let (c, d) = and_parts _ _ h in
    and_from _ _ (ap (λ t. not (t || taken E y)) other ∙ c) (untaken_grow k x E ys b d)

driven_same : (ds : List String) (i : Item) → counted i ≡ true → driven ds i ≡ ds
driven_same ds (input w x) h = refl
driven_same ds (reg w x) h = refl
driven_same ds (wire w x e) h = refl
driven_same ds i h = absurd cc

-- all are right
group_goes : (ds : List String) (c d : ℕ) (is : List Item) (E : List Entry) → all_counted is ≡ true → AllNames c d (names_of is) →
    distinct (names_of is) ≡ true → untaken E (names_of is) ≡ true → all_fine E is ≡ true → items_ok E ds is ≡ true
group_goes ds c d [] E counts names n t f = refl
group_goes ds c d (i ∷ is) E counts names n t f =
    let (o1, o2) = and_parts _ _ counts in
    let (n1, n2) = and_parts _ _ n in
    let (t1, t2) = and_parts _ _ t in
    let (f1, f2) = and_parts _ _ f in
    let (a1, a2) = names in
    let free = not-true (taken E (item_name i)) t1 in
    let e = declares E i o1 in
    and_from _ _ (one_ok E ds i o1 (and_from _ _ a1.named t1) f1)
    (ap (λ (ts : List String). items_ok (declared E i) ts is) (driven_same ds i o1) ∙ ap (λ (G : List Entry). items_ok G ds is) e
    ∙ (group_goes ds c d is (declare (item_kind i) (item_name i) E) o2 a2 n2
    (untaken_grow (item_kind i) (item_name i) E (names_of is) (not-true (member (item_name i) (names_of is)) n1) t2)
    (all_fine_grow (item_kind i) (item_name i) E free is f2)))

-- nothing above has a class from c on, so none of them is taken
below_untaken : (c d : ℕ) (E : List Entry) → below c E ≡ true → (xs : List String) → AllNames c d xs → untaken E xs ≡ true
below_untaken c d E h [] a = refl
below_untaken c d E h (x ∷ xs) a = and_from _ _ (ap not (below_taken c x a.0.low E h)) (below_untaken c d E h xs a.1)

-- ---- a group: its items declare different names of these classes
pub record Counted (c d : ℕ) (is : List Item) : Type 0 where
  pub counted : all_counted is ≡ true
  pub named : AllNames c d (names_of is)
  pub distinct : distinct (names_of is) ≡ true

-- what is known of names with numbers stays
abbrev pub Keeps : ℕ → List Entry → List Entry → Type 0
Keeps c E G = (p : Kind → Bool) (x : String) → own x ≡ false → class x < c → of_kind p G x ≡ of_kind p E x

own_keeps : (c : ℕ) (is : List Item) → own_items is ≡ true → (E : List Entry) → Keeps c E (all_declared E is)
own_keeps c is o E = λ p x f l. kind_over x f p E is o

-- a group
pub group_ok : (ds : List String) (c d : ℕ) (is : List Item) (E : List Entry) → below c E ≡ true → all_counted is ≡ true →
    AllNames c d (names_of is) → distinct (names_of is) ≡ true → all_fine E is ≡ true → items_ok E ds is ≡ true
group_ok ds c d is E h o a n f = group_goes ds c d is E o a n (below_untaken c d E h (names_of is) a) f

group_below : (c d : ℕ) → c ≤ d → (is : List Item) (E : List Entry) → below d E ≡ true → all_counted is ≡ true →
    AllNames c d (names_of is) → below d (all_declared E is) ≡ true
group_below c d l [] E h o a = h
group_below c d l (i ∷ is) E h o a =
    let (o1, o2) = and_parts _ _ o in
    subst (λ G. below d (all_declared G is) ≡ true) (sym (declares E i o1)) (group_below c d l is (declare (item_kind i) (item_name i) E)
    (and_from _ _ (lt-ltb (class (item_name i)) d a.0.high) h) o2 a.1)

pub not_own : (c d : ℕ) → 1 ≤ c → (x : String) → OneName c d x → own x ≡ false
not_own c d l x a = ne_eqb (class x) 0 (λ z. let m = a.low in omega (arith, l, m, z))

group_same : (c d : ℕ) → 1 ≤ c → (is : List Item) (E F : List Entry) → SameEnv E F → all_counted is ≡ true →
    AllNames c d (names_of is) → SameEnv (all_declared E is) F
group_same c d l [] E F h o a = h
group_same c d l (i ∷ is) E F h o a =
    let (o1, o2) = and_parts _ _ o in
    subst (λ G. SameEnv (all_declared G is) F) (sym (declares E i o1)) (group_same c d l is (declare (item_kind i) (item_name i) E) F
    (declare_foreign (item_kind i) (item_name i) (not_own c d l (item_name i) a.0) E F h) o2 a.1)

group_keeps : (c d : ℕ) (is : List Item) (E : List Entry) → all_counted is ≡ true → AllNames c d (names_of is) →
    Keeps c E (all_declared E is)
group_keeps c d [] E o a p x f l = refl
group_keeps c d (i ∷ is) E o a p x f l =
    let (o1, o2) = and_parts _ _ o in
    let m = a.0.low in
    ap (λ G. of_kind p (all_declared G is) x) (declares E i o1) ∙ group_keeps c d is (declare (item_kind i) (item_name i) E) o2 a.1 p x f l
    ∙ ap (λ b. chosen b (p (item_kind i)) (of_kind p E x)) (class_apart (item_name i) x (λ z. omega (arith, l, m, z)))

-- ---- what a name of a group is

kind_past : (p : Kind → Bool) (x : String) (is : List Item) (E : List Entry) → all_counted is ≡ true → member x (names_of is) ≡ false →
    of_kind p (all_declared E is) x ≡ of_kind p E x
kind_past p x [] E o m = refl
kind_past p x (i ∷ is) E o m =
    let (o1, o2) = and_parts _ _ o in
    let (a, b) = or_parts (eqt (item_name i) x) (member x (names_of is)) m in
    ap (λ G. of_kind p (all_declared G is) x) (declares E i o1) ∙ kind_past p x is (declare (item_kind i) (item_name i) E) o2 b
    ∙ ap (λ t. chosen t (p (item_kind i)) (of_kind p E x)) a

-- each name of a list is what its item says
abbrev pub AllKnown : List Entry → List Item → Type 0
AllKnown G [] = Unit {0}
AllKnown G (i ∷ is) = ((p : Kind → Bool) → of_kind p G (item_name i) ≡ p (item_kind i)) × AllKnown G is

-- behind a group each of its names is what its item says
group_known : (is : List Item) (E : List Entry) → all_counted is ≡ true → distinct (names_of is) ≡ true → AllKnown (all_declared E is) is
group_known [] E o n = tt
group_known (i ∷ is) E o n =
    let (o1, o2) = and_parts _ _ o in
    let (n1, n2) = and_parts _ _ n in
    subst (λ G. AllKnown (all_declared G is) (i ∷ is)) (sym (declares E i o1)) (
      (λ p. kind_past p (item_name i) is (declare (item_kind i) (item_name i) E) o2 (not-true (member (item_name i) (names_of is)) n1)
          ∙ ap (λ t. chosen t (p (item_kind i)) (of_kind p E (item_name i))) (same_name (item_name i))),
      group_known is (declare (item_kind i) (item_name i) E) o2 n2,
    )

-- and stays so
known_on : (lo c : ℕ) → 1 ≤ lo → (E G : List Entry) → Keeps c E G → (is : List Item) → AllNames lo c (names_of is) →
    AllKnown E is → AllKnown G is
known_on lo c l E G k [] a h = tt
known_on lo c l E G k (i ∷ is) a h =
    (λ p. k p (item_name i) (not_own lo c l (item_name i) a.0) a.0.high ∙ h.0 p, known_on lo c l E G k is a.1 h.1)

-- ---- what is known where so much is declared: what own names are, that all else has a class below c, and what names of groups are

abbrev Knowns : List Entry → List (List Item) → Type 0
Knowns E [] = Unit {0}
Knowns E (is ∷ G) = AllKnown E is × Knowns E G

abbrev Nameds : ℕ → List (List Item) → Type 0
Nameds c [] = Unit {0}
Nameds c (is ∷ G) = AllNames 1 c (names_of is) × Nameds c G

pub record State (c : ℕ) (E F : List Entry) (G : List (List Item)) : Type 0 where
  pub same : SameEnv E F
  pub low : below c E ≡ true
  pub known : Knowns E G
  pub named : Nameds c G

pub no_state : State 1 [] [] []
no_state = record { same = same_env []; low = refl; known = tt; named = tt }

-- the group that stands so many in front of the last
abbrev pub group_at : List (List Item) → ℕ → List Item
group_at [] k = []
group_at (is ∷ G) zero = is
group_at (is ∷ G) (suc k) = group_at G k

pub knows : (E : List Entry) (G : List (List Item)) (k : ℕ) → Knowns E G → AllKnown E (group_at G k)
knows E [] k h = tt
knows E (is ∷ G) zero h = h.0
knows E (is ∷ G) (suc k) h = knows E G k h.1

knowns_on : (c : ℕ) (E H : List Entry) → Keeps c E H → (G : List (List Item)) → Nameds c G → Knowns E G → Knowns H G
knowns_on c E H k [] a h = tt
knowns_on c E H k (is ∷ G) a h = (known_on 1 c (omega arith) E H k is a.0 h.0, knowns_on c E H k G a.1 h.1)

nameds_more : (c d : ℕ) → c ≤ d → (G : List (List Item)) → Nameds c G → Nameds d G
nameds_more c d l [] h = tt
nameds_more c d l (is ∷ G) h = (all_more 1 c 1 d (omega arith) l (names_of is) h.0, nameds_more c d l G h.1)

-- own names one by one leave the class and what is known
pub own_step : (c : ℕ) → 1 ≤ c → (is : List Item) → own_items is ≡ true → (E F : List Entry) (G : List (List Item)) → State c E F G →
    State c (all_declared E is) (all_declared F is) ([] ∷ G)
own_step c l is o E F G h = record {
  same = own_same is o E F h.same;
  low = own_below c l is o E h.low;
  known = (tt, knowns_on c E (all_declared E is) (own_keeps c is o E) G h.named h.known);
  named = (tt, h.named);
}

-- and a group of names from c on, but below d, is known behind it
pub group_step : (c d : ℕ) → 1 ≤ c → c ≤ d → (is : List Item) (E F : List Entry) (G : List (List Item)) → State c E F G → Counted c d is →
    State d (all_declared E is) F (is ∷ G)
group_step c d least high is E F G old new = record {
  same = group_same c d least is E F old.same new.counted new.named;
  low = group_below c d high is E (below_more c d high E old.low) new.counted new.named;
  known = (
    group_known is E new.counted new.distinct,
    knowns_on c E (all_declared E is) (group_keeps c d is E new.counted new.named) G old.named old.known,
  );
  named = (all_more c d 1 d least (omega arith) (names_of is) new.named, nameds_more c d high G old.named);
}

-- ---- names by number

abbrev pub numbered_names : (ℕ → String) → (i n : ℕ) → List String
numbered_names nm i zero = []
numbered_names nm i (suc n) = nm i ∷ numbered_names nm (suc i) n

module _ (nm : ℕ → String) (c : ℕ) (g : Group nm c) where
  pub numbers_apart : (i j : ℕ) → i < 2 ^ 64 → j < 2 ^ 64 → (i ≡ j → ⊥) → eqt (nm i) (nm j) ≡ false
  numbers_apart i j p q h = apart_names (nm i) (nm j) (λ e. h (g.tells i j p q e))

  not_later : (i j n : ℕ) → i < j → j + n < 2 ^ 64 → member (nm i) (numbered_names nm j n) ≡ false
  not_later i j zero l b = refl
  not_later i j (suc n) l b = ap (λ t. t || member (nm i) (numbered_names nm (suc j) n))
      (numbers_apart j i (omega (arith, b)) (omega (arith, b, l)) (λ z. omega (arith, l, z)))
      ∙ not_later i (suc j) n (omega (arith, l)) (omega (arith, b))

  pub numbers_distinct : (i n : ℕ) → i + n < 2 ^ 64 → distinct (numbered_names nm i n) ≡ true
  numbers_distinct i zero b = refl
  numbers_distinct i (suc n) b = and_from _ _
      (ap not (not_later i (suc i) n (omega arith) (omega (arith, b)))) (numbers_distinct (suc i) n (omega (arith, b)))

  pub numbers_named : 1 ≤ c → (lo hi : ℕ) → lo ≤ c → c < hi → (i n : ℕ) → i + n < 2 ^ 64 → AllNames lo hi (numbered_names nm i n)
  numbers_named l lo hi p q i zero b = tt
  numbers_named l lo hi p q i (suc n) b = (
    record {
      named = is_identifier (nm i) (ne_eqb (class (nm i)) 0 (λ z. let e = g.class_is i in omega (arith, l, z, e)))
          (g.begun i (omega (arith, b)));
      low = let e = g.class_is i in omega (arith, e, p);
      high = let e = g.class_is i in omega (arith, e, q);
    },
    numbers_named l lo hi p q (suc i) n (omega (arith, b)),
  )
