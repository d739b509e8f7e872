-- Lists of items one behind the other: what stands in them, what settles of them, and what the blocks of the clock write.
use Rattle.std.proofs.Common.{◌≡◌, ℕ, zero, suc, Bool, true, false, ◌&&◌, List, [], ◌∷◌, ◌++◌, Option, Some, None, refl, subst}
use Rattle.std.proofs.lemmas.Bool.{and_parts}
use Rattle.std.proofs.lemmas.List.{append-nil}
use Prim.Native.String.{String}
use Rattle.verilog_tree.specs.Tree.{Item, wire, settles, clocked, whole}
use Rattle.verilog_tree.specs.Meaning.{Store, Scope, write, run, settled, clocked_in}
use Rattle.verilog_tree.specs.Items.{Has, here, further}
use Rattle.verilog_tree.proofs.Frames.{items_leave, settled_leaves}
use Rattle.verilog_tree.proofs.Alike as alike

pub in_front : (i : Item) (is js : List Item) → Has i is → Has i (is ++ js)
in_front i [] js h = elim h [ ]
in_front i (j ∷ is) js (here is') = here (is ++ js)
in_front i (j ∷ is) js (further j' is' h) = further j (is ++ js) (in_front i is js h)

pub behind : (i : Item) (is js : List Item) → Has i js → Has i (is ++ js)
behind i [] js h = h
behind i (j ∷ is) js h = further j (is ++ js) (behind i is js h)

-- the item at a place
abbrev pub item_at : List Item → ℕ → Option Item
item_at [] n = None
item_at (i ∷ is) zero = Some i
item_at (i ∷ is) (suc n) = item_at is n

pub stands_at : (is : List Item) (n : ℕ) (i : Item) → item_at is n ≡ Some i → Has i is
stands_at [] n i e = absurd cc
stands_at (j ∷ is) zero i e = subst (λ k. Has k (j ∷ is)) (let h : j ≡ i = cc in h) (here is)
stands_at (j ∷ is) (suc n) i e = further j is (stands_at is n i e)

-- what settles of a list, and then of the next
pub settled_append : (P : Scope) (is js : List Item) (S : Store) → settled P (is ++ js) S ≡ settled P js (settled P is S)
settled_append P [] js S = refl
settled_append P (wire w x e ∷ is) js S = settled_append P is js (write P S (whole x) e S)
settled_append P (settles s ∷ is) js S = settled_append P is js (run P s S)
settled_append P (i ∷ is) js S = settled_append P is js S

-- items of which none is a block of the clock: it writes what the next list does
abbrev pub unclocked : List Item → Bool
unclocked [] = true
unclocked (clocked s ∷ is) = false
unclocked (i ∷ is) = unclocked is

pub clocked_over : (P : Scope) (R : Store) (is : List Item) → unclocked is ≡ true → (js : List Item) (S : Store) →
    clocked_in P (is ++ js) R S ≡ clocked_in P js R S
clocked_over P R [] o js S = refl
clocked_over P R (clocked s ∷ is) o js S = absurd cc
clocked_over P R (i ∷ is) o js S = clocked_over P R is o js S

-- items of which none settles either
abbrev pub idle : List Item → Bool
idle [] = true
idle (wire w x e ∷ is) = false
idle (settles s ∷ is) = false
idle (clocked s ∷ is) = false
idle (i ∷ is) = idle is

pub idle_unclocked : (is : List Item) → idle is ≡ true → unclocked is ≡ true
idle_unclocked [] o = refl
idle_unclocked (wire w x e ∷ is) o = absurd cc
idle_unclocked (settles s ∷ is) o = absurd cc
idle_unclocked (clocked s ∷ is) o = absurd cc
idle_unclocked (i ∷ is) o = idle_unclocked is o

pub settled_past : (P : Scope) (is : List Item) → idle is ≡ true → (js : List Item) (S : Store) →
    settled P (is ++ js) S ≡ settled P js S
settled_past P [] o js S = refl
settled_past P (wire w x e ∷ is) o js S = absurd cc
settled_past P (settles s ∷ is) o js S = absurd cc
settled_past P (clocked s ∷ is) o js S = absurd cc
settled_past P (i ∷ is) o js S = settled_past P is o js S

module _ (own : String → Bool) where
  -- own items without a block of the clock
  abbrev pub tame : List Item → Bool
  tame is = alike.own_items own is && unclocked is

  pub own_of : (is : List Item) → tame is ≡ true → alike.own_items own is ≡ true
  own_of is t = (and_parts (alike.own_items own is) (unclocked is) t).0

  pub unclocked_of : (is : List Item) → tame is ≡ true → unclocked is ≡ true
  unclocked_of is t = (and_parts (alike.own_items own is) (unclocked is) t).1

  -- what isn't own, they leave as it was
  pub own_kept : (P : Scope) (x : String) → own x ≡ false → (is : List Item) → tame is ≡ true → (S : Store) →
      (settled P is S).vec x ≡ S.vec x
  own_kept P x f is t S =
      settled_leaves P x is
      (subst (λ is. items_leave P x is ≡ true) (append-nil is) (alike.own_items_leave own P x f is (own_of is t) [] refl)) S
