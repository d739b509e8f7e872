-- The entries of the finite map are those of the map of maps, one node after the other: both stand in the order of keys.
use Rattle.std.proofs.Common.{◌≡◌, ℕ, List, [], ◌∷◌, ◌++◌, refl, sym, ap, ◌∙◌}
use Rattle.std.specs.declared.cmp.Ordering.TheVariants.{Less}
use Rattle.std.specs.Ordering.{nat_cmp, ordering_then}
use Rattle.std.specs.List.{AllByRecursion}
use Rattle.std.specs.List.Sorted.{IsStrictlySortedBy}
use Rattle.std.specs.FinMap.{from_entries, empty, entries, entries-insert, len-empty, len-entries}
use Rattle.std.specs.FinMap.Entries.{put, by_order}
use Rattle.std.specs.Map.{keys_of}
use Rattle.std.specs.BTreeMap.{IsOrdered}
use Rattle.std.specs.Cmp.{tied_itself}
use Rattle.std.proofs.lemmas.Cmp.{nat_cmp_total}
use Rattle.std.proofs.lemmas.List.{nil_from_length}
use Rattle.token_stacks.specs.Signatures.{Boxes}
use Rattle.token_stacks.specs.Order.{box_cmp}
use Rattle.fork_join.specs.Entries.{Entry, Key, key_cmp}
use Rattle.fork_join.specs.declared.forks.Kept.{Kept}
use Rattle.fork_join.specs.Nested.{Forks, tagged, flat}
use Rattle.fork_join.proofs.Keys.{key_total}

-- the key is below the first of the list, if there is one
abbrev Before : Key → List (Key × Entry) → Type 0
Before k [] = Unit {0}
Before k (e ∷ es) = key_cmp k e.0 ≡ Less

-- each key is below the next one
abbrev Rises : List (Key × Entry) → Type 0
Rises [] = Unit {0}
Rises (e ∷ es) = Before e.0 es × Rises es

-- what is below the first goes before it
put_first : (k : Key) (x : Entry) (es : List (Key × Entry)) → Before k es → put key_cmp k x es ≡ (k, x) ∷ es
put_first k x [] h = refl
put_first k x (e ∷ es) h = ap (λ r. by_order r ((k, x) ∷ e ∷ es) ((e.0, x) ∷ es) (e ∷ put key_cmp k x es)) h

-- a list whose keys rise is the list of entries of its map
risen : (es : List (Key × Entry)) → Rises es → entries (from_entries {R = key_cmp} es) ≡ es
risen [] h = nil_from_length _ (sym (len-entries (empty {R = key_cmp})) ∙ len-empty key_cmp Entry)
risen (e ∷ es) h =
    entries-insert key_total (from_entries es) e.0 e.1
    ∙ ap (put key_cmp e.0 e.1) (risen es h.1)
    ∙ put_first e.0 e.1 es h.0

-- a key of a lower node is below all of a node's
before_node : (n : ℕ) (t : Boxes) (m : ℕ) (xs : List (Boxes × Kept)) (rest : List (Key × Entry)) → nat_cmp n m ≡ Less
    → Before (n, t) rest → Before (n, t) (tagged m xs ++ rest)
before_node n t m [] rest below h = h
before_node n t m (x ∷ xs) rest below h = ap (λ r. ordering_then r (box_cmp t x.0)) below

-- and of all nodes above it
before_all : (n : ℕ) (t : Boxes) (es : List (ℕ × Forks)) → AllByRecursion (λ m. nat_cmp n m ≡ Less) (keys_of es) →
    Before (n, t) (flat es)
before_all n t [] h = tt
before_all n t (e ∷ es) h = before_node n t e.0 e.1.entries (flat es) h.0 (before_all n t es h.1)

-- within a node, keys rise as box stacks do
rises_node : (n : ℕ) (xs : List (Boxes × Kept)) (rest : List (Key × Entry)) → IsStrictlySortedBy box_cmp (keys_of xs)
    → ((t : Boxes) → Before (n, t) rest) → Rises rest → Rises (tagged n xs ++ rest)
unfolding IsStrictlySortedBy
rises_node n [] rest sorted before rises = rises
rises_node n (x ∷ []) rest sorted before rises = (before x.0, rises)
rises_node n (x ∷ y ∷ xs) rest sorted before rises = (
  ap (λ r. ordering_then r (box_cmp x.0 y.0)) (tied_itself nat_cmp_total n) ∙ sorted.0.0,
  rises_node n (y ∷ xs) rest sorted.1 before rises,
)

-- the maps of all nodes are in order
abbrev pub AllOrdered : List (ℕ × Forks) → Type 0
AllOrdered [] = Unit {0}
AllOrdered (e ∷ es) = IsOrdered box_cmp e.1 × AllOrdered es

-- over all nodes, keys rise
rises_all : (es : List (ℕ × Forks)) → IsStrictlySortedBy nat_cmp (keys_of es) → AllOrdered es → Rises (flat es)
unfolding IsStrictlySortedBy
rises_all [] sorted ordered = tt
rises_all (e ∷ es) sorted ordered =
    rises_node e.0 e.1.entries (flat es) ordered.0 (λ t. before_all e.0 t es sorted.0) (rises_all es sorted.1 ordered.1)

-- the entries of all nodes, one node after the other, are those of the finite map
pub listed : (es : List (ℕ × Forks)) → IsStrictlySortedBy nat_cmp (keys_of es) → AllOrdered es
    → entries (from_entries {R = key_cmp} (flat es)) ≡ flat es
listed es sorted ordered = risen (flat es) (rises_all es sorted ordered)
