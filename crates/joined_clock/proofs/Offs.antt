-- Names of items that stand in front of others and behind them are apart.
use Rattle.std.proofs.Common.{◌≡◌, Bool, true, false, not, ◌&&◌, ◌||◌, List, [], ◌∷◌, ◌++◌, Option, Some, None, refl, ap, sym, subst, ◌∙◌}
use Rattle.std.proofs.lemmas.Bool.{and_parts, and_from}
use Prim.Native.String.{String}
use lib.Text.{eqt}
use Rattle.verilog_tree.specs.Tree.{Target, whole, word_at, Stmt, skip, put, seq, branch, cases, Item}
use Rattle.verilog_tree.specs.WellFormed.{Entry, member, item_ok, items_ok, declared, driven}
use Rattle.verilog_tree.proofs.Own.{one_name, same_name}
use Rattle.verilog_tree.proofs.Leaves.{spares}
use Rattle.verilog_tree.specs.Items.{Has, here, further, item_name}
use Rattle.verilog_tree.proofs.Once.{is_name, other}
use Rattle.verilog_tree.proofs.Lists.{behind}
use Rattle.late_unit.specs.Works.{unit_names}
use Rattle.joined_module.specs.Unit.{unit_registers}

-- items in order, whatever is declared above
pub record Ok (is : List Item) : Type 0 where
  pub env : List Entry
  pub ds : List String
  pub ok : items_ok env ds is ≡ true

pub ok_behind : (vs bs : List Item) → Ok (vs ++ bs) → Ok bs
ok_behind [] bs h = h
ok_behind (a ∷ vs) bs h = ok_behind vs bs (record {
  env = declared h.env a;
  ds = driven h.ds a;
  ok = (and_parts (item_ok h.env h.ds a) (items_ok (declared h.env a) (driven h.ds a) (vs ++ bs)) h.ok).1;
})

front_ok : (vs bs : List Item) (env : List Entry) (ds : List String) → items_ok env ds (vs ++ bs) ≡ true → items_ok env ds vs ≡ true
front_ok [] bs env ds h = refl
front_ok (a ∷ vs) bs env ds h =
    let (b, c) = and_parts (item_ok env ds a) (items_ok (declared env a) (driven ds a) (vs ++ bs)) h in
    and_from (item_ok env ds a) (items_ok (declared env a) (driven ds a) vs) b (front_ok vs bs (declared env a) (driven ds a) c)

pub ok_in_front : (vs bs : List Item) → Ok (vs ++ bs) → Ok vs
ok_in_front vs bs h = record { env = h.env; ds = h.ds; ok = front_ok vs bs h.env h.ds h.ok }

-- it is the name of none of these
abbrev pub off : String → List Item → Bool
off x [] = true
off x (i ∷ is) = not (is_name (item_name i) x) && off x is

pub off_front : (x : String) (vs bs : List Item) → off x (vs ++ bs) ≡ true → off x vs ≡ true
off_front x [] bs h = refl
off_front x (a ∷ vs) bs h =
    let (b, c) = and_parts (not (is_name (item_name a) x)) (off x (vs ++ bs)) h in
    and_from (not (is_name (item_name a) x)) (off x vs) b (off_front x vs bs c)

pub off_behind : (x : String) (vs bs : List Item) → off x (vs ++ bs) ≡ true → off x bs ≡ true
off_behind x [] bs h = h
off_behind x (a ∷ vs) bs h = off_behind x vs bs (and_parts (not (is_name (item_name a) x)) (off x (vs ++ bs)) h).1

-- what is declared below isn't named above
pub off_above : (vs bs : List Item) → Ok (vs ++ bs) → (j : Item) → Has j bs → (x : String) → item_name j ≡ Some x → off x vs ≡ true
off_above [] bs h j m x e = refl
off_above (a ∷ vs) bs h j m x e =
    and_from (not (is_name (item_name a) x)) (off x vs)
    (ap not (other a (vs ++ bs) h.env h.ds h.ok j (behind j vs bs m) x e))
    (off_above vs bs (ok_behind (a ∷ []) (vs ++ bs) h) j m x e)

turned_name : (x y : String) → eqt x y ≡ false → eqt y x ≡ false
turned_name x y e = go (eqt y x) refl
  where
    go : (b : Bool) → eqt y x ≡ b → b ≡ false
    go true f = let z : true ≡ false = sym (same_name x) ∙ subst (λ z. eqt x z ≡ false) (one_name y x f) e in absurd cc
    go false f = refl

all_off : (x : String) (bs : List Item) → ((j : Item) → Has j bs → (y : String) → item_name j ≡ Some y → eqt y x ≡ false) → off x bs ≡ true
all_off x [] f = refl
all_off x (b ∷ bs) f =
    and_from (not (is_name (item_name b) x)) (off x bs) (ap not (go (item_name b) refl)) (all_off x bs (λ j m. f j (further b bs m)))
  where
    go : (n : Option String) → item_name b ≡ n → is_name n x ≡ false
    go None e = refl
    go (Some y) e = f b (here bs) y e

first_off : (a : Item) (bs : List Item) → Ok (a ∷ bs) → (x : String) → item_name a ≡ Some x → off x bs ≡ true
first_off a bs h x e = all_off x bs (λ j m y g. turned_name x y (ap (λ n. is_name n y) (sym e) ∙ other a bs h.env h.ds h.ok j m y g))

-- and what is declared above isn't named below
pub off_below : (vs bs : List Item) → Ok (vs ++ bs) → (i : Item) → Has i vs → (x : String) → item_name i ≡ Some x → off x bs ≡ true
off_below [] bs h i m x e = elim m [ ]
off_below (a ∷ vs) bs h i (here vs') x e = off_behind x vs bs (first_off a (vs ++ bs) h x e)
off_below (a ∷ vs) bs h i (further a' vs' m) x e = off_below vs bs (ok_behind (a ∷ []) (vs ++ bs) h) i m x e

-- ---- statements that assign to some names alone

abbrev target_among : List String → Target → Bool
target_among xs (whole y) = member y xs
target_among xs (word_at m i) = true

abbrev pub among : List String → Stmt → Bool
among xs skip = true
among xs (put t e) = target_among xs t
among xs (seq s t) = among xs s && among xs t
among xs (branch e s t) = among xs s && among xs t
among xs (cases e arms) = false

-- it is none of these names
abbrev pub none_of : String → List String → Bool
none_of x [] = true
none_of x (y ∷ ys) = not (eqt y x) && none_of x ys

not_member : (x y : String) (xs : List String) → none_of x xs ≡ true → member y xs ≡ true → not (eqt y x) ≡ true
not_member x y [] h m = absurd cc
not_member x y (z ∷ xs) h m =
    let (a, b) = and_parts (not (eqt z x)) (none_of x xs) h in go (eqt z y) refl a (not_member x y xs b)
  where
    go : (b : Bool) → eqt z y ≡ b → not (eqt z x) ≡ true → (member y xs ≡ true → not (eqt y x) ≡ true) → not (eqt y x) ≡ true
    go true e a f = subst (λ z. not (eqt z x) ≡ true) (one_name z y e) a
    go false e a f = f (ap (λ b. b || member y xs) (sym e) ∙ m)

pub spared : (x : String) (xs : List String) → none_of x xs ≡ true → (s : Stmt) → among xs s ≡ true → spares x s ≡ true
spared x xs h skip m = refl
spared x xs h (put (whole y) e) m = not_member x y xs h m
spared x xs h (put (word_at k i) e) m = refl
spared x xs h (seq s t) m =
    let (a, b) = and_parts (among xs s) (among xs t) m in and_from (spares x s) (spares x t) (spared x xs h s a) (spared x xs h t b)
spared x xs h (branch e s t) m =
    let (a, b) = and_parts (among xs s) (among xs t) m in and_from (spares x s) (spares x t) (spared x xs h s a) (spared x xs h t b)
spared x xs h (cases e arms) m = absurd cc

-- the names of items
abbrev pub name_or : Option String → List String → List String
name_or None xs = xs
name_or (Some x) xs = x ∷ xs

abbrev pub names_of : List Item → List String
names_of [] = []
names_of (i ∷ is) = name_or (item_name i) (names_of is)

pub none_named : (x : String) (is : List Item) → off x is ≡ true → none_of x (names_of is) ≡ true
none_named x [] h = refl
none_named x (i ∷ is) h =
    let (a, b) = and_parts (not (is_name (item_name i) x)) (off x is) h in go (item_name i) a (none_named x is b)
  where
    go : (n : Option String) → not (is_name n x) ≡ true → none_of x (names_of is) ≡ true → none_of x (name_or n (names_of is)) ≡ true
    go None a b = b
    go (Some y) a b = and_from (not (eqt y x)) (none_of x (names_of is)) a b

-- ---- what holds of each name

either_name : (p : String → Type 0) (y x : String) (more : Bool) → p y → (more ≡ true → p x) → (c : Bool) → eqt y x ≡ c →
    (c || more) ≡ true → p x
either_name p y x more h f true e m = subst p (one_name y x e) h
either_name p y x more h f false e m = f m

abbrev pub every_name : (String → Bool) → List String → Bool
every_name q [] = true
every_name q (x ∷ xs) = q x && every_name q xs

-- what is checked of each is so of one that is among them
pub among_names : (q : String → Bool) (xs : List String) → every_name q xs ≡ true → (x : String) → member x xs ≡ true → q x ≡ true
among_names q [] h x m = absurd cc
among_names q (y ∷ xs) h x m =
    let (a, b) = and_parts (q y) (every_name q xs) h in
    either_name (λ z. q z ≡ true) y x (member x xs) a (among_names q xs b x) (eqt y x) refl m

-- what holds of each item's name is so of a name among them
pub item_named : (p : String → Type 0) (is : List Item) → ((i : Item) → Has i is → (x : String) → item_name i ≡ Some x → p x) →
    (x : String) → member x (names_of is) ≡ true → p x
item_named p [] f x m = absurd cc
item_named p (i ∷ is) f x m = go (item_named p is (λ j h. f j (further i is h)) x) (item_name i) refl m
  where
    go : (member x (names_of is) ≡ true → p x) → (o : Option String) → item_name i ≡ o → member x (name_or o (names_of is)) ≡ true → p x
    go k None e m = k m
    go k (Some y) e m = either_name p y x (member x (names_of is)) (f i (here is) y e) k (eqt y x) refl m

-- the unit's names are those of its registers
pub unit_named : (b : Bool) (x : String) → member x (unit_names b) ≡ true → member x (names_of (unit_registers b)) ≡ true
unit_named false = among_names (λ x. member x (names_of (unit_registers false))) (unit_names false) refl
unit_named true = among_names (λ x. member x (names_of (unit_registers true))) (unit_names true) refl
