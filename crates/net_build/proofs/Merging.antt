-- Contractions and doors of loose wires: what the code's loops make of two lists of loose wires is what the definition makes of the
-- aligned lists.
use Rattle.std.proofs.Common.{◌≡◌, ◌⊎◌, ℕ, zero, suc, ◌+◌, ◌≤◌, List, [], ◌∷◌, length, Some, None, refl, sym, ap, ◌∙◌, subst, inl, inr}
use Rattle.std.proofs.Common.{arith}
use Rattle.std.specs.Prelude.{slice_get, nat_eq, nat_lt, if◌then◌else◌}
use Rattle.std.proofs.lemmas.Bool.{cases_eq, eq-eqb, ne_eqb, lt-ltb, le-ltb}
use Rattle.pcf_values.specs.Terms.{TyTree}
use Rattle.net_build.specs.declared.node.Node.{Node}
use Rattle.net_build.specs.declared.node.Node.TheVariants.{Con, Door}
use Rattle.net_build.specs.declared.parts.Loose.{Loose}
use Rattle.net_build.specs.Nets.{WireTree, var_wire}
use Rattle.net_build.specs.NetOf.{Bundle, also, keep, contract, doors, type_or_nat}
use Rattle.net_build.specs.Building.{spread, Falling}

abbrev pub type_at : List TyTree → ℕ → TyTree
type_at c b = type_or_nat (slice_get c b)

-- the types of the innermost k binders but of the first ones, the nearest first
abbrev pub levels : ℕ → List TyTree → List TyTree
levels zero c = []
levels (suc k) c = type_at c k ∷ levels k c

pub record Merged : Type 0 where
  pub wires : List WireTree
  pub nodes : List Node
  pub free : List Loose

abbrev pub more : WireTree → Node → Loose → Merged → Merged
more w n u m = record { wires = w ∷ m.wires; nodes = n ∷ m.nodes; free = u ∷ m.free }

abbrev pub put : Loose → Merged → Merged
put u m = record { wires = m.wires; nodes = m.nodes; free = u ∷ m.free }

abbrev pub left_over : List Loose → Merged
left_over us = record { wires = []; nodes = []; free = us }

abbrev pub loose : ℕ → ℕ → Loose
loose b w = record { binder = b; wire = w }

-- contractions of two lists, the innermost binder first
abbrev pub merge : ℕ → ℕ → List TyTree → ℕ → List Loose → List Loose → Merged
merge zero d c n us vs = left_over []
merge (suc f) d c n [] vs = left_over vs
merge (suc f) d c n (u ∷ us) [] = left_over (u ∷ us)
merge (suc f) d c n (u ∷ us) (v ∷ vs) =
    if nat_eq u.binder v.binder then more (var_wire d (type_at c u.binder)) (Con u.wire v.wire n) (loose u.binder n)
    (merge f d c (suc n) us vs)
    else (if nat_lt v.binder u.binder then put u (merge f d c n us (v ∷ vs)) else put v (merge f d c n (u ∷ us) vs))

-- doors of a list, the innermost binder first
abbrev pub leave : ℕ → List TyTree → ℕ → List Loose → Merged
leave d c n [] = left_over []
leave d c n (u ∷ us) = more (var_wire d (type_at c u.binder)) (Door u.wire n) (loose u.binder n) (leave d c (suc n) us)

pub record Same (k : ℕ) (b : Bundle) (m : Merged) : Type 0 where
  pub wires : b.wires ≡ m.wires
  pub nodes : b.nodes ≡ m.nodes
  pub free : b.free ≡ spread k m.free
  pub falling : Falling k m.free

-- the first is the innermost binder's, or none is
pub data Top (k : ℕ) : List Loose → Type 0 where
  at : (u : Loose) (us : List Loose) → u.binder ≡ k → Falling k us → Top k (u ∷ us)
  under : (us : List Loose) → Falling k us → Top k us

pub top_of : (k : ℕ) (us : List Loose) → Falling (suc k) us → Top k us
top_of k [] h = under [] tt
top_of k (u ∷ us) h = go (cases_eq u.binder k)
  where
    go : (u.binder ≡ k) ⊎ (u.binder ≡ k → ⊥) → Top k (u ∷ us)
    go (inl e) = at u us e (subst (λ b. Falling b us) e h.1)
    go (inr e) = under (u ∷ us) (omega (arith, h.0, e), h.1)

pub falling_more : (k : ℕ) (us : List Loose) → Falling k us → Falling (suc k) us
falling_more k [] h = tt
falling_more k (u ∷ us) h = (omega (arith, h.0), h.1)

pub spread_under : (k : ℕ) (us : List Loose) → Falling k us → spread (suc k) us ≡ None ∷ spread k us
spread_under k [] h = refl
spread_under k (u ∷ us) h = let e = ne_eqb u.binder k (λ q. omega (arith, h.0, q)) in rw e refl

pub spread_at : (k : ℕ) (u : Loose) (us : List Loose) → u.binder ≡ k → spread (suc k) (u ∷ us) ≡ Some u.wire ∷ spread k us
spread_at k u us e = rw (eq-eqb u.binder k e) refl

same_under : (k : ℕ) (b : Bundle) (m : Merged) → Same k b m → Same (suc k) (keep None b) m
same_under k b m h = record {
  wires = h.wires;
  nodes = h.nodes;
  free = ap (λ f. None ∷ f) h.free ∙ sym (spread_under k m.free h.falling);
  falling = falling_more k m.free h.falling;
}

same_put : (k : ℕ) (b : Bundle) (m : Merged) (u : Loose) → u.binder ≡ k → Same k b m → Same (suc k) (keep (Some u.wire) b) (put u m)
same_put k b m u e h = record {
  wires = h.wires;
  nodes = h.nodes;
  free = ap (λ f. Some u.wire ∷ f) h.free ∙ sym (spread_at k u m.free e);
  falling = (omega (arith, e), subst (λ j. Falling j m.free) (sym e) h.falling);
}

same_more : (k : ℕ) (b : Bundle) (m : Merged) (w : WireTree) (n : Node) (j x : ℕ) → j ≡ k → Same k b m
    → Same (suc k) (also w n x b) (more w n (loose j x) m)
same_more k b m w n j x e h = record {
  wires = ap (λ l. w ∷ l) h.wires;
  nodes = ap (λ l. n ∷ l) h.nodes;
  free = ap (λ f. Some x ∷ f) h.free ∙ sym (spread_at k (loose j x) m.free e);
  falling = (omega (arith, e), subst (λ j. Falling j m.free) (sym e) h.falling);
}

pub merge_none : (f d : ℕ) (c : List TyTree) (n : ℕ) (us : List Loose) → length us ≤ f → merge f d c n us [] ≡ left_over us
merge_none zero d c n [] h = refl
merge_none zero d c n (u ∷ us) h = absurd (omega arith)
merge_none (suc f) d c n [] h = refl
merge_none (suc f) d c n (u ∷ us) h = refl

pub none_merge : (f d : ℕ) (c : List TyTree) (n : ℕ) (vs : List Loose) → length vs ≤ f → merge f d c n [] vs ≡ left_over vs
none_merge zero d c n [] h = refl
none_merge zero d c n (u ∷ us) h = absurd (omega arith)
none_merge (suc f) d c n vs h = refl

-- the left list's first is further in
put_left : (f d : ℕ) (c : List TyTree) (n k : ℕ) (u : Loose) (us vs : List Loose) → u.binder ≡ k → Falling k vs
    → suc (length us) + length vs ≤ suc f → merge (suc f) d c n (u ∷ us) vs ≡ put u (merge f d c n us vs)
put_left f d c n k u us [] e h l = ap (put u) (sym (merge_none f d c n us (omega arith)))
put_left f d c n k u us (v ∷ vs) e h l =
    let p = ne_eqb u.binder v.binder (λ q. omega (arith, h.0, q, e)) in
    let q = lt-ltb v.binder u.binder (omega (arith, h.0, e)) in
    rw (p, q) refl

put_right : (f d : ℕ) (c : List TyTree) (n k : ℕ) (v : Loose) (us vs : List Loose) → v.binder ≡ k → Falling k us
    → length us + suc (length vs) ≤ suc f → merge (suc f) d c n us (v ∷ vs) ≡ put v (merge f d c n us vs)
put_right f d c n k v [] vs e h l = ap (put v) (sym (none_merge f d c n vs (omega arith)))
put_right f d c n k v (u ∷ us) vs e h l =
    let p = ne_eqb u.binder v.binder (λ q. omega (arith, h.0, q, e)) in
    let q = le-ltb v.binder u.binder (omega (arith, h.0, e)) in
    rw (p, q) refl

-- two falling lists of loose wires are merged as the aligned lists are contracted: an induction on how many entries
-- are left (f bounds them)
pub merge_contract : (k f d : ℕ) (c : List TyTree) (n : ℕ) (us vs : List Loose) → length us + length vs ≤ f → Falling k us → Falling k vs →
    Same k (contract n d (levels k c) (spread k us) (spread k vs)) (merge f d c n us vs)
merge_contract zero f d c n (u ∷ us) vs enough falling falling' = absurd (omega (arith, falling.0))
merge_contract zero f d c n [] (v ∷ vs) enough falling falling' = absurd (omega (arith, falling'.0))
merge_contract zero f d c n [] [] enough falling falling' =
    rw (none_merge f d c n [] (omega arith)) (record { wires = refl; nodes = refl; free = refl; falling = tt })
merge_contract (suc k) f d c n us vs enough falling falling' =
    go f (merge_contract k) us vs enough (top_of k us falling) (top_of k vs falling')
  where
    go : (f : ℕ) →
        ((f d : ℕ) (c : List TyTree) (n : ℕ) (us vs : List Loose) → length us + length vs ≤ f → Falling k us → Falling k vs → Same k
        (contract n d (levels k c) (spread k us) (spread k vs)) (merge f d c n us vs)) →
        (us vs : List Loose) → length us + length vs ≤ f → Top k us → Top k vs →
        Same (suc k) (contract n d (levels (suc k) c) (spread (suc k) us) (spread (suc k) vs)) (merge f d c n us vs)
    go f ih _ _ l (under us h) (under vs i) = rw (spread_under k us h, spread_under k vs i) (same_under k _ _ (ih f d c n us vs l h i))
    go zero ih _ _ l (at u us' e h) t = absurd (omega arith)
    go zero ih _ _ l (under us h) (at v vs' e i) = absurd (omega arith)
    go (suc f) ih _ _ l (at u us' e h) (under vs i) =
        rw (spread_at k u us' e, spread_under k vs i, put_left f d c n k u us' vs e i l)
        (same_put k _ _ u e (ih f d c n us' vs (omega arith) h i))
    go (suc f) ih _ _ l (under us h) (at v vs' e i) =
        rw (spread_under k us h, spread_at k v vs' e, put_right f d c n k v us vs' e h l)
        (same_put k _ _ v e (ih f d c n us vs' (omega arith) h i))
    go (suc f) ih _ _ l (at u us' e h) (at v vs' e' i) =
        let p = eq-eqb u.binder v.binder (e ∙ sym e') in
        let q : type_at c k ≡ type_at c u.binder = ap (type_at c) (sym e) in
        rw (spread_at k u us' e, spread_at k v vs' e', p, q) (same_more k _ _ _ _ u.binder n e (ih f d c (suc n) us' vs' (omega arith) h i))

-- doors for loose wires, by rising index, are those for the aligned list: an induction on the number of binders
pub leave_doors : (k d : ℕ) (c : List TyTree) (n : ℕ) (us : List Loose) → Falling k us
    → Same k (doors n d (levels k c) (spread k us)) (leave d c n us)
leave_doors zero d c n [] h = record { wires = refl; nodes = refl; free = refl; falling = tt }
leave_doors zero d c n (u ∷ us) h = absurd (omega (arith, h.0))
leave_doors (suc k) d c n us h = go (leave_doors k) us (top_of k us h)
  where
    go : ((d : ℕ) (c : List TyTree) (n : ℕ) (us : List Loose) → Falling k us → Same k (doors n d (levels k c) (spread k us))
        (leave d c n us)) →
        (us : List Loose) → Top k us → Same (suc k) (doors n d (levels (suc k) c) (spread (suc k) us)) (leave d c n us)
    go ih _ (under us h) = rw (spread_under k us h) (same_under k _ _ (ih d c n us h))
    go ih _ (at u us' e h) =
        let q : type_at c k ≡ type_at c u.binder = ap (type_at c) (sym e) in
        rw (spread_at k u us' e, q) (same_more k _ _ _ _ u.binder n e (ih d c (suc n) us' h))
