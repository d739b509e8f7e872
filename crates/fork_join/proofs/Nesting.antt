-- The map of maps and the finite map answer alike, and change alike.
use Rattle.std.proofs.Common.{◌≡◌, ℕ, Bool, true, false, cond, ◌&&◌, List, [], ◌∷◌, ◌++◌, Option, Some, None, Result}
use Rattle.std.proofs.Common.{Ok, Err}
use Rattle.std.proofs.Common.{refl, sym, ap, ◌∙◌, subst}
use Rattle.std.specs.Prelude.{nat_eq}
use Rattle.std.specs.declared.cmp.Ordering.{Ordering}
use Rattle.std.specs.declared.cmp.Ordering.TheVariants.{Less, Equal, Greater}
use Rattle.std.specs.Ordering.{nat_cmp, eq_by_cmp, is_eq, ordering_then}
use Rattle.std.specs.Option.{option_map}
use Rattle.std.specs.List.{AllByRecursion}
use Rattle.std.specs.List.Sorted.{IsStrictlySortedBy}
use Rattle.std.specs.FinMap as finite
use Rattle.std.specs.FinMap.{FinMap, find, get-insert, get-remove, get-from_entries, same_map, nat_cmp-IsAntisymmetric}
use Rattle.std.specs.Map.{lookup, keys_of}
use Rattle.std.specs.BTreeMap as tree
use Rattle.std.specs.BTreeMap.{is_at, IsOrdered}
use Rattle.std.proofs.lemmas.Bool.{eqb-true, eqb-false}
use Rattle.std.proofs.lemmas.Cmp.{nat_cmp_total}
use Rattle.std.specs.Cmp.{tied_itself}
use Rattle.std.specs.Option.{IsSome}
use Rattle.std.specs.Result.{OnOk, OnErr}
use Rattle.pcf_values.specs.declared.val.Val.{Val}
use Rattle.token_stacks.specs.Signatures.{Boxes}
use Rattle.token_stacks.specs.Order.{box_eq, box_cmp}
use Rattle.token_stacks.proofs.BoxOrder.{box_cmp-total, box_cmp-same}
use Rattle.token_stacks.proofs.WordLaws.{boxes_in_order}
use Rattle.fork_join.specs.Entries.{Entry, same_key, kept_as, Key, key_cmp}
use Rattle.fork_join.specs.Arrivals.{IsOpenFor, arrival, with_arrival, after_arrival}
use Rattle.pcf_values.specs.declared.side.Side.{Side}
use Rattle.pcf_values.specs.declared.side.Side.TheVariants.{Left as LeftSide, Right as RightSide}
use Rattle.fork_join.specs.declared.outcome.Arrived.TheVariants.{Both}
use Rattle.fork_join.specs.declared.forks.Kept.{Kept}
use Rattle.fork_join.specs.declared.forks.Kept.TheVariants.{Nothing, Left, Right}
use Rattle.fork_join.specs.Nested.{entry_of, kept_at, arrival_at, kept_after, Forks, Nodes, in_forks, entry_at, tagged, flat, table_of}
use Rattle.fork_join.specs.Nested.{PutsIn, Puts, Keeps}
use Rattle.fork_join.proofs.Keys.{key_total, key_cmp-same, test_key}

-- where the nodes differ, so do the keys
eq_other : (r s : Ordering) → (r ≡ Equal → ⊥) → is_eq (ordering_then r s) ≡ false
eq_other Less s h = refl
eq_other Equal s h = absurd (h refl)
eq_other Greater s h = refl

-- what is less isn't equal
not_equal : (r : Ordering) → r ≡ Less → r ≡ Equal → ⊥
not_equal Less p q = cc
not_equal Equal p q = cc
not_equal Greater p q = cc

-- what is greater isn't equal
not_greater : (r : Ordering) → r ≡ Greater → r ≡ Equal → ⊥
not_greater Less p q = cc
not_greater Equal p q = cc
not_greater Greater p q = cc

-- the entries of another node don't matter
find_other : (n m : ℕ) (t : Boxes) (es : List (Boxes × Kept)) (rest : List (Key × Entry)) → (nat_cmp n m ≡ Equal → ⊥)
    → find key_cmp (n, t) (tagged m es ++ rest) ≡ find key_cmp (n, t) rest
find_other n m t [] rest h = refl
find_other n m t (e ∷ es) rest h =
    ap (λ (b : Bool). cond b (Some (entry_of e.1)) (find key_cmp (n, t) (tagged m es ++ rest))) (eq_other (nat_cmp n m) (box_cmp t e.0) h)
    ∙ find_other n m t es rest h

-- what is kept, or else what the rest has
abbrev or_rest : Option Kept → Option Entry → Option Entry
or_rest None o = o
or_rest (Some k) o = Some (entry_of k)

-- a test goes in
or_cond : (b : Bool) (x : Kept) (o : Option Kept) (p : Option Entry)
    → cond b (Some (entry_of x)) (or_rest o p) ≡ or_rest (cond b (Some x) o) p
or_cond true x o p = refl
or_cond false x o p = refl

-- among the entries of the node itself the box stack decides
find_same : (n m : ℕ) (t : Boxes) (es : List (Boxes × Kept)) (rest : List (Key × Entry)) → nat_cmp n m ≡ Equal
    → find key_cmp (n, t) (tagged m es ++ rest) ≡ or_rest (lookup (is_at (box_cmp t)) es) (find key_cmp (n, t) rest)
find_same n m t [] rest h = refl
find_same n m t (e ∷ es) rest h =
    let below = find key_cmp (n, t) (tagged m es ++ rest) in
    ap (λ (r : Ordering). cond (is_eq (ordering_then r (box_cmp t e.0))) (Some (entry_of e.1)) below) h
    ∙ ap (λ (o : Option Entry). cond (is_eq (box_cmp t e.0)) (Some (entry_of e.1)) o) (find_same n m t es rest h)
    ∙ or_cond (is_eq (box_cmp t e.0)) e.1 (lookup (is_at (box_cmp t)) es) (find key_cmp (n, t) rest)

-- below all nodes of a list there is no entry in it
find_none : (n : ℕ) (t : Boxes) (es : List (ℕ × Forks)) → AllByRecursion (λ k. nat_cmp n k ≡ Less) (keys_of es)
    → find key_cmp (n, t) (flat es) ≡ None
find_none n t [] h = refl
find_none n t (e ∷ es) h = find_other n e.0 t e.1.entries (flat es) (not_equal (nat_cmp n e.0) h.0) ∙ find_none n t es h.1

-- nothing in the rest
none_or : (o : Option Kept) → or_rest o None ≡ option_map entry_of o
none_or None = refl
none_or (Some x) = refl

-- what a list of nodes in order has at a node
abbrev at_node : List (ℕ × Forks) → ℕ → Option Forks
at_node es n = lookup (is_at (nat_cmp n)) es

-- all entries, one after the other, have at a key what the node's own forks have
find_flat : (es : List (ℕ × Forks)) (n : ℕ) (t : Boxes) → IsStrictlySortedBy nat_cmp (keys_of es)
    → find key_cmp (n, t) (flat es) ≡ option_map entry_of (in_forks (at_node es n) t)
unfolding IsStrictlySortedBy
find_flat [] n t s = refl
find_flat (e ∷ es) n t s = go (nat_cmp n e.0) refl (find_flat es n t s.1)
  where
    go : (o : Ordering) → nat_cmp n e.0 ≡ o → find key_cmp (n, t) (flat es) ≡ option_map entry_of (in_forks (at_node es n) t)
        → find key_cmp (n, t) (flat (e ∷ es)) ≡ option_map entry_of (in_forks (cond (is_eq o) (Some e.1) (at_node es n)) t)
    go Less h ih = find_other n e.0 t e.1.entries (flat es) (not_equal (nat_cmp n e.0) h) ∙ ih
    go Greater h ih = find_other n e.0 t e.1.entries (flat es) (not_greater (nat_cmp n e.0) h) ∙ ih
    go Equal h ih =
        let same : n ≡ e.0 = nat_cmp-IsAntisymmetric n e.0 h in
        let below = subst (λ m. AllByRecursion (λ k. nat_cmp m k ≡ Less) (keys_of es)) (sym same) s.0 in
        find_same n e.0 t e.1.entries (flat es) h
        ∙ ap (or_rest (lookup (is_at (box_cmp t)) e.1.entries)) (find_none n t es below)
        ∙ none_or (lookup (is_at (box_cmp t)) e.1.entries)

-- the table answers what the map of maps answers
table_get : (m : Nodes) (n : ℕ) (t : Boxes) → IsOrdered nat_cmp m
    → finite.get (table_of m) (n, t) ≡ option_map entry_of (entry_at m n t)
table_get m n t s = get-from_entries key_total (flat m.entries) (n, t) ∙ find_flat m.entries n t s

-- a test of two that differ
apart : {A : Type 0} (r : Ordering) (x y : A) → (r ≡ Equal → ⊥) → cond (is_eq r) x y ≡ y
apart Less x y h = refl
apart Equal x y h = absurd (h refl)
apart Greater x y h = refl

-- one entry changes in the map of its node, which stands in the table afterwards
pub puts : (old new : Nodes) (n : ℕ) (t : Boxes) (o : Option Forks) (f' : Forks) (kept : Option Kept)
    → tree.get nat_cmp old n ≡ o
    → ((q : ℕ) → tree.get nat_cmp new q ≡ cond (is_eq (nat_cmp n q)) (Some f') (tree.get nat_cmp old q))
    → ((u : Boxes) → tree.get box_cmp f' u ≡ cond (is_eq (box_cmp t u)) kept (in_forks o u)) → Puts old new n t kept
puts old new n t o f' kept e outer inner =
    let tied = tied_itself nat_cmp_total n in
    let at_n : tree.get nat_cmp new n ≡ Some f' = outer n ∙
    ap (λ (r : Ordering). cond (is_eq r) (Some f') (tree.get nat_cmp old n)) tied in
    record {
      here =
          ap (λ (z : Option Forks). in_forks z t) at_n ∙ inner t
          ∙ ap (λ (r : Ordering). cond (is_eq r) kept (in_forks o t)) (tied_itself box_cmp-total t);
      same_node = λ u ne.
          ap (λ (z : Option Forks). in_forks z u) at_n ∙ inner u
          ∙ apart (box_cmp t u) kept (in_forks o u) (λ h. ne (sym (box_cmp-same t u h)))
          ∙ ap (λ (z : Option Forks). in_forks z u) (sym e);
      other_nodes = λ m u ne.
          let other = apart (nat_cmp n m) (Some f') (tree.get nat_cmp old m) (λ h. ne (sym (nat_cmp-IsAntisymmetric n m h))) in
          ap (λ (z : Option Forks). in_forks z u) (outer m ∙ other);
    }

-- where a node has no forks, there is nothing to take out
pub puts_nothing : (old : Nodes) (n : ℕ) (t : Boxes) → tree.get nat_cmp old n ≡ None → Puts old old n t None
puts_nothing old n t e = record {
  here = ap (λ (z : Option Forks). in_forks z t) e;
  same_node = λ u ne. refl;
  other_nodes = λ m u ne. refl;
}

-- what is put at one key, key by key
put_at : (old new : Nodes) (n : ℕ) (t : Boxes) (kept : Option Kept) → Puts old new n t kept → (m : ℕ) (u : Boxes)
    → entry_at new m u ≡ cond (same_key m u n t) kept (entry_at old m u)
put_at old new n t kept p m u = go (nat_eq m n) (box_eq u t) refl refl
  where
    go : (a b : Bool) → nat_eq m n ≡ a → box_eq u t ≡ b → entry_at new m u ≡ cond (a && b) kept (entry_at old m u)
    go true true h g = ap (λ m. entry_at new m u) (eqb-true m n h) ∙ ap (λ u. entry_at new n u) ((boxes_in_order.equal u t).0 g) ∙
        p.here
    go true false h g =
        let same = eqb-true m n h in
        let differs : u ≡ t → ⊥ = λ e. let y = (boxes_in_order.equal u t).1 e in let bad : true ≡ false = sym y ∙ g in cc in
        ap (λ m. entry_at new m u) same ∙ p.same_node u differs ∙ ap (λ m. entry_at old m u) (sym same)
    go false b h g = p.other_nodes m u (λ e. eqb-false m n h e)

-- a test goes through
map_cond : (b : Bool) (x o : Option Kept) → option_map entry_of (cond b x o) ≡ cond b (option_map entry_of x) (option_map entry_of o)
map_cond true x o = refl
map_cond false x o = refl

module _ (old new : Nodes) (n : ℕ) (t : Boxes) (so : IsOrdered nat_cmp old) (sn : IsOrdered nat_cmp new) where
  -- the finite map changes at one key
  changed : (kept : Option Kept) → Puts old new n t kept → (q : Key)
      → finite.get (table_of new) q ≡ cond (eq_by_cmp key_cmp q (n, t)) (option_map entry_of kept) (finite.get (table_of old) q)
  changed kept p q =
      table_get new q.0 q.1 sn ∙ ap (option_map entry_of) (put_at old new n t kept p q.0 q.1)
      ∙ map_cond (same_key q.0 q.1 n t) kept (entry_at old q.0 q.1)
      ∙ ap (λ b. cond b (option_map entry_of kept) (option_map entry_of (entry_at old q.0 q.1))) (sym (test_key q.0 q.1 n t))
      ∙ ap (cond (eq_by_cmp key_cmp q (n, t)) (option_map entry_of kept)) (sym (table_get old q.0 q.1 so))

  -- it is an insertion
  table_put : (k : Kept) → Puts old new n t (Some k) → table_of new ≡ finite.insert (table_of old) (n, t) (entry_of k)
  table_put k p = same_map key_total key_cmp-same _ _
      (λ q. changed (Some k) p q ∙ sym (get-insert key_total (table_of old) (n, t) (entry_of k) q))

  -- or a removal
  table_gone : Puts old new n t None → table_of new ≡ finite.remove (table_of old) (n, t)
  table_gone p = same_map key_total key_cmp-same _ _ (λ q. changed None p q ∙ sym (get-remove key_total (table_of old) (n, t) q))

  -- or nothing
  table_keeps : Keeps old new → table_of new ≡ table_of old
  table_keeps h = same_map key_total key_cmp-same _ _
      (λ q. table_get new q.0 q.1 sn ∙ ap (option_map entry_of) (h q.0 q.1) ∙ sym (table_get old q.0 q.1 so))

-- the later of two writes counts
cond_again : (b : Bool) (x y o : Option Kept) → cond b y (cond b x o) ≡ cond b y o
cond_again true x y o = refl
cond_again false x y o = refl

-- where the other side's value comes, nothing is kept afterwards
closes : (o : Option Kept) (s : Side) (v w : Val) → arrival_at o ≡ Both w → kept_after o s v ≡ None
closes None s v w h = cc
closes (Some Nothing) s v w h = cc
closes (Some (Left u)) s v w h = refl
closes (Some (Right u)) s v w h = refl

-- the second answer takes out what the first one put in
pub taken_out : (old middle new : Forks) (t : Boxes) (x : Option Kept) (s : Side) (v w : Val)
    → arrival_at (tree.get box_cmp old t) ≡ Both w → PutsIn old middle t x → PutsIn middle new t None
    → PutsIn old new t (kept_after (tree.get box_cmp old t) s v)
taken_out old middle new t x s v w h p q u =
    let b = tree.is_at (box_cmp t) u in
    q u ∙ ap (cond b None) (p u) ∙ cond_again b x None (tree.get box_cmp old u)
    ∙ ap (λ (y : Option Kept). cond b y (tree.get box_cmp old u)) (sym (closes (tree.get box_cmp old t) s v w h))

-- the code's word for the first answer stands for the definition's
kept_side : (s : Side) (v : Val) → entry_of (kept_at s v) ≡ kept_as s v
kept_side LeftSide v = refl
kept_side RightSide v = refl

-- what is open for an answer is there
open_there : (o : Option Kept) (s : Side) → IsOpenFor (option_map entry_of o) s → IsSome o
open_there None s h = elim h [ ]
open_there (Some k) s h = refl

-- what comes of an answer is the same by either word
same_arrival : (o : Option Kept) → arrival_at o ≡ arrival (option_map entry_of o)
same_arrival None = refl
same_arrival (Some Nothing) = refl
same_arrival (Some (Left w)) = refl
same_arrival (Some (Right w)) = refl

-- the finite map changes as an answer changes it
arrived : (old new : Nodes) (n : ℕ) (t : Boxes) (s : Side) (v : Val) (o : Option Kept)
    → IsOrdered nat_cmp old → IsOrdered nat_cmp new → IsOpenFor (option_map entry_of o) s →
    Puts old new n t (kept_after o s v)
    → table_of new ≡ with_arrival (option_map entry_of o) (table_of old) (n, t) s v
arrived old new n t s v None so sn h q = elim h [ ]
arrived old new n t s v (Some Nothing) so sn h q =
    table_put old new n t so sn (kept_at s v) q ∙ ap (finite.insert (table_of old) (n, t)) (kept_side s v)
arrived old new n t s v (Some (Left w)) so sn h q = table_gone old new n t so sn q
arrived old new n t s v (Some (Right w)) so sn h q = table_gone old new n t so sn q

-- what is seen of an entry is there where it is
some_there : (o : Option Kept) → IsSome o → IsSome (option_map entry_of o)
some_there None h = cc
some_there (Some x) h = refl

some_back : (o : Option Kept) → IsSome (option_map entry_of o) → IsSome o
some_back None h = cc
some_back (Some x) h = refl

-- the same, by what the table is seen as
module _ (m : Nodes) (f : FinMap key_cmp Entry) (view : table_of m ≡ f) (n : ℕ) (t : Boxes) (so : IsOrdered nat_cmp m) where
  -- what is kept
  seen_get : finite.get f (n, t) ≡ option_map entry_of (entry_at m n t)
  seen_get = ap (λ f. finite.get f (n, t)) (sym view) ∙ table_get m n t so

  -- it is there where the finite map has it
  pub seen_has : (IsSome (entry_at m n t) → IsSome (finite.get f (n, t))) × (IsSome (finite.get f (n, t)) → IsSome (entry_at m n t))
  seen_has = (λ h. subst IsSome (sym seen_get) (some_there (entry_at m n t) h), λ h. some_back (entry_at m n t) (subst IsSome seen_get h))

  -- the entry that an answer wants is there
  pub seen_there : (s : Side) → IsOpenFor (finite.get f (n, t)) s → IsSome (entry_at m n t)
  seen_there s h = open_there (entry_at m n t) s (subst (λ o. IsOpenFor o s) seen_get h)

  -- what comes of the answer
  pub seen_arrival : arrival_at (entry_at m n t) ≡ arrival (finite.get f (n, t))
  seen_arrival = same_arrival (entry_at m n t) ∙ ap arrival (sym seen_get)

  -- the table after the answer
  pub seen_arrived : (new : Nodes) (s : Side) (v : Val) → IsOrdered nat_cmp new
      → IsOpenFor (finite.get f (n, t)) s → Puts m new n t (kept_after (entry_at m n t) s v)
      → table_of new ≡ after_arrival f (n, t) s v
  seen_arrived new s v sn h q =
      arrived m new n t s v (entry_at m n t) so sn (subst (λ o. IsOpenFor o s) seen_get h) q
      ∙ ap (λ o. with_arrival o (table_of m) (n, t) s v) (sym seen_get)
      ∙ ap (λ g. with_arrival (finite.get f (n, t)) g (n, t) s v) view

  -- the table with the new entry
  pub seen_put : (new : Nodes) (k : Kept) → IsOrdered nat_cmp new → Puts m new n t (Some k)
      → table_of new ≡ finite.insert f (n, t) (entry_of k)
  seen_put new k sn q = table_put m new n t so sn k q ∙ ap (λ f. finite.insert f (n, t) (entry_of k)) view

  -- the table without the entry
  pub seen_removed : (new : Nodes) → IsOrdered nat_cmp new → Puts m new n t None → table_of new ≡ finite.remove f (n, t)
  seen_removed new sn q = table_gone m new n t so sn q ∙ ap (λ f. finite.remove f (n, t)) view

  -- the table where nothing changed
  pub seen_kept : (new : Nodes) → IsOrdered nat_cmp new → Keeps m new → table_of new ≡ f
  seen_kept new sn h = table_keeps m new n t so sn h ∙ view

-- a clause on an Ok, by what it says
pub on_ok : {T E P Q : Type 0} (r : Result T E) → OnOk r P → (P → Q) → OnOk r Q
on_ok (Ok x) p f = f p
on_ok (Err x) p f = tt

-- a clause on an Err, by what it says
pub on_err : {T E P Q : Type 0} (r : Result T E) → OnErr r P → (P → Q) → OnErr r Q
on_err (Ok x) p f = tt
on_err (Err x) p f = f p
