-- Each name is declared once, so its item tells all of it.
use Rattle.std.proofs.Common.{◌≡◌, ℕ, Bool, true, false, not, ◌&&◌, ◌||◌, List, [], ◌∷◌, Option, Some, None, refl, ap, sym, subst, ◌∙◌}
use Rattle.std.proofs.lemmas.Bool.{and_parts, or_parts, not-true}
use Prim.Native.String.{String}
use lib.Text.{eqt}
use Rattle.verilog_tree.specs.Tree.{Size, Width, Item, note, size, constant, input, output, reg, memory, wire}
use Rattle.verilog_tree.specs.Meaning.{amount, named_here, param_in, width_in, words_in, scope}
use Rattle.verilog_tree.specs.WellFormed.{Entry, taken, new, identifier, width_ok, size_ok, number_width, expr_ok, item_ok, items_ok}
use Rattle.verilog_tree.specs.WellFormed.{declared, driven, in_order, limits, ports_first, items_fit, WellFormed}
use Rattle.verilog_tree.specs.Items.{Has, here, further, item_name, item_wide}
use Rattle.verilog_tree.specs.Laws.{TreeDeclares}
use Rattle.verilog_tree.proofs.Own.{same_name}

-- whether a name is this one
abbrev pub is_name : Option String → String → Bool
is_name None x = false
is_name (Some y) x = eqt y x

-- ---- what an item declares is new

module _ (env : List Entry) (ds : List String) (j : Item) (is : List Item) (o : items_ok env ds (j ∷ is) ≡ true) where
  pub head_ok : item_ok env ds j ≡ true
  head_ok = (and_parts (item_ok env ds j) (items_ok (declared env j) (driven ds j) is) o).0

  pub tail_ok : items_ok (declared env j) (driven ds j) is ≡ true
  tail_ok = (and_parts (item_ok env ds j) (items_ok (declared env j) (driven ds j) is) o).1

-- a name is declared behind an item if it's the item's, or declared above
pub taken_step : (env : List Entry) (i : Item) (x : String) → taken (declared env i) x ≡ (is_name (item_name i) x || taken env x)
taken_step env (note s) x = refl
taken_step env i x = refl

fresh : (env : List Entry) (y x : String) → new env y ≡ true → y ≡ x → taken env x ≡ false
fresh env y x h e =
    subst (λ z. taken env z ≡ false) e (not-true (taken env y) (and_parts (identifier y) (not (taken env y)) h).1)

-- the name of an item that is in order isn't declared above it
pub new_here : (env : List Entry) (ds : List String) (i : Item) → item_ok env ds i ≡ true → (x : String) → item_name i ≡ Some x →
    taken env x ≡ false
new_here env ds (size y n) h x e = fresh env y x h cc
new_here env ds (constant w y n) h x e = fresh env y x (and_parts (new env y) (number_width w) h).0 cc
new_here env ds (input w y) h x e = fresh env y x (and_parts (new env y) (width_ok env w) h).0 cc
new_here env ds (output w y) h x e = fresh env y x (and_parts (new env y) (width_ok env w) h).0 cc
new_here env ds (reg w y) h x e = fresh env y x (and_parts (new env y) (width_ok env w) h).0 cc
new_here env ds (memory w y k) h x e = fresh env y x (and_parts (new env y) (width_ok env w && size_ok env k) h).0 cc
new_here env ds (wire w y f) h x e = fresh env y x (and_parts (new env y) (width_ok env w && expr_ok env f) h).0 cc
new_here env ds i h x e = absurd cc

-- nor is that of an item further down
pub later : (is : List Item) (env : List Entry) (ds : List String) → items_ok env ds is ≡ true → (i : Item) → Has i is →
    (x : String) → item_name i ≡ Some x → taken env x ≡ false
later [] env ds o i h x e = elim h [ ]
later (j ∷ is) env ds o i (here is') x e = new_here env ds j (head_ok env ds j is o) x e
later (j ∷ is) env ds o i (further j' is' h) x e =
    (or_parts (is_name (item_name j) x) (taken env x)
    (sym (taken_step env j x) ∙ later is (declared env j) (driven ds j) (tail_ok env ds j is o) i h x e)).1

-- nor is what is declared above it its name
pub other : (j : Item) (is : List Item) (env : List Entry) (ds : List String) → items_ok env ds (j ∷ is) ≡ true → (i : Item) →
    Has i is → (x : String) → item_name i ≡ Some x → is_name (item_name j) x ≡ false
other j is env ds o i h x e =
    (or_parts (is_name (item_name j) x) (taken env x)
    (sym (taken_step env j x) ∙ later is (declared env j) (driven ds j) (tail_ok env ds j is o) i h x e)).0

-- ---- what is told of a name

-- a number, if a name is here, and else another
abbrev here_or : ℕ → ℕ → Bool → ℕ
here_or n m b = elim b [ true ↦ n | false ↦ m ]

pub not_here : (y x : String) → eqt y x ≡ false → (n m : ℕ) → named_here y x n m ≡ m
not_here y x e n m = ap (here_or n m) e

module _ (p : String → ℕ) where
  width_step : (i : Item) (is : List Item) (x : String) →
      width_in p (i ∷ is) x ≡ here_or (item_wide p i) (width_in p is x) (is_name (item_name i) x)
  width_step (note s) is x = refl
  width_step i is x = refl

  width_is : (is : List Item) (env : List Entry) (ds : List String) → items_ok env ds is ≡ true → (i : Item) → Has i is →
      (x : String) → item_name i ≡ Some x → width_in p is x ≡ item_wide p i
  width_is [] env ds o i h x e = elim h [ ]
  width_is (j ∷ is) env ds o i (here is') x e =
      width_step j is x ∙ ap (here_or (item_wide p j) (width_in p is x)) (ap (λ n. is_name n x) e ∙ same_name x)
  width_is (j ∷ is) env ds o i (further j' is' h) x e =
      width_step j is x ∙ ap (here_or (item_wide p j) (width_in p is x)) (other j is env ds o i h x e)
      ∙ width_is is (declared env j) (driven ds j) (tail_ok env ds j is o) i h x e

  words_past : (i : Item) (is : List Item) (x : String) → is_name (item_name i) x ≡ false → words_in p (i ∷ is) x ≡ words_in p is x
  words_past (memory w y k) is x e = not_here y x e _ _
  words_past i is x e = refl

  words_is : (is : List Item) (env : List Entry) (ds : List String) → items_ok env ds is ≡ true → (w : Width) (x : String) (k : Size) →
      Has (memory w x k) is → words_in p is x ≡ amount p k
  words_is [] env ds o w x k h = elim h [ ]
  words_is (j ∷ is) env ds o w x k (here is') = ap (here_or _ _) (same_name x)
  words_is (j ∷ is) env ds o w x k (further j' is' h) =
      words_past j is x (other j is env ds o (memory w x k) h x refl)
      ∙ words_is is (declared env j) (driven ds j) (tail_ok env ds j is o) w x k h

-- an item of another name leaves a parameter's number as it is
param_past : (i : Item) (is : List Item) (x : String) → is_name (item_name i) x ≡ false → param_in (i ∷ is) x ≡ param_in is x
param_past (size y n) is x e = not_here y x e _ _
param_past (constant w y n) is x e = not_here y x e _ _
param_past i is x e = refl

number_is : (is : List Item) (env : List Entry) (ds : List String) → items_ok env ds is ≡ true → (w : Width) (x : String) (n : ℕ) →
    Has (constant w x n) is → param_in is x ≡ n
number_is [] env ds o w x n h = elim h [ ]
number_is (j ∷ is) env ds o w x n (here is') = ap (here_or _ _) (same_name x)
number_is (j ∷ is) env ds o w x n (further j' is' h) =
    param_past j is x (other j is env ds o (constant w x n) h x refl)
    ∙ number_is is (declared env j) (driven ds j) (tail_ok env ds j is o) w x n h

-- ---- of a module

pub items_of : (is : List Item) → WellFormed is ≡ true → items_ok [] [] is ≡ true
items_of is h =
    let (a, b) = and_parts (ports_first is && items_ok [] [] is) (in_order is && items_fit (limits is) is) h in
    (and_parts (ports_first is) (items_ok [] [] is) a).1

pub tree_declares : TreeDeclares
tree_declares is h = let o = items_of is h in record {
  width = λ i m x e. width_is (scope is).param is [] [] o i m x e;
  words = λ w x k m. words_is (scope is).param is [] [] o w x k m;
  number = λ w x n m. number_is is [] [] o w x n m;
}
