-- The loops over loose wires: what they have added so far, and what is left to do.
use Rattle.std.proofs.Common.{◌≡◌, ◌⊎◌, ℕ, zero, suc, ◌+◌, ◌<◌, ◌≤◌, ◌^◌, List, [], ◌∷◌, ◌++◌, length, map, reverse, refl, sym, ap, ◌∙◌}
use Rattle.std.proofs.Common.{subst, inl, inr, arith}
use Rattle.std.proofs.lemmas.Bool.{eq-eqb, ne_eqb, lt-ltb, le-ltb}
use Rattle.std.proofs.lemmas.List.{append_assoc, append-nil, length-append, reverse-reverse}
use Rattle.pcf_values.specs.Terms.{TyTree}
use Rattle.pcf_values.specs.Views.{ty_of}
use Rattle.net_build.specs.declared.node.Node.{Node}
use Rattle.net_build.specs.declared.node.Node.TheVariants.{Con, Door}
use Rattle.net_build.specs.declared.parts.Parts.{Parts}
use Rattle.net_build.specs.declared.parts.Loose.{Loose}
use Rattle.net_build.specs.Nets.{WireTree, var_wire}
use Rattle.net_build.specs.NetOf.{Bundle, contract, doors}
use Rattle.net_build.specs.Building.{spread, Falling, Grows, Bundles, Varies, Takes, both, first, second, IsFirst, binder_type, context_of}
use Rattle.net_build.proofs.Growing.{grows_none, grows_then, grows_length}
use Rattle.net_build.proofs.Merging.{Merged, more, put, left_over, loose, merge, leave, type_at, Same, merge_contract, leave_doors}
use Rattle.net_build.proofs.Merging.{merge_none, none_merge}
use Rattle.net_build.proofs.Spreading.{context_levels}

-- the entry that was looked at is the one that was taken off
first_eq : (u x : Loose) (us vs : List Loose) → IsFirst u us → us ≡ x ∷ vs → u ≡ x
first_eq u x us vs h e = subst (IsFirst u) e h

first_some : (u : Loose) (us : List Loose) → IsFirst u us → (vs : List Loose) × (us ≡ u ∷ vs)
first_some u [] h = elim h [ ]
first_some u (v ∷ vs) h = (vs, ap (λ x. x ∷ vs) (sym h))

pub take_both : (old new : Parts) (d n : ℕ) (us vs us' vs' : List Loose) (u v x y w : Loose) → IsFirst u us → IsFirst v vs → us ≡ x ∷ us'
    → vs ≡ y ∷ vs' → u.binder ≡ v.binder → n ≡ length old.wires.items →
    Varies old new d u.binder (Con u.wire v.wire n) w → Takes old new d us vs us' vs' w
take_both old new d n us vs us' vs' u v x y w hu hv eu ev e en h =
    let p : us ≡ u ∷ us' = eu ∙ ap (λ z. z ∷ us') (sym (first_eq u x us us' hu eu)) in
    let q : vs ≡ v ∷ vs' = ev ∙ ap (λ z. z ∷ vs') (sym (first_eq v y vs vs' hv ev)) in
    let g : Takes old new d (u ∷ us') (v ∷ vs') us' vs' w =
    both u v w us' vs' e (subst (λ n. Varies old new d u.binder (Con u.wire v.wire n) w) en h) in
    subst (λ us. Takes old new d us vs us' vs' w) (sym p) (subst (λ vs. Takes old new d (u ∷ us') vs us' vs' w) (sym q) g)

pub take_first : (s : Parts) (d : ℕ) (us vs us' : List Loose) (u v x : Loose) → IsFirst u us → IsFirst v vs → us ≡ x ∷ us'
    → v.binder < u.binder → Takes s s d us vs us' vs x
take_first s d us vs us' u v x hu hv eu l =
    let (vs', q) = first_some v vs hv in
    let z = first_eq u x us us' hu eu in
    let g : Takes s s d (x ∷ us') (v ∷ vs') us' (v ∷ vs') x = first x v us' vs' (subst (λ u. v.binder < u.binder) z l) refl in
    subst (λ us. Takes s s d us vs us' vs x) (sym eu) (subst (λ vs. Takes s s d (x ∷ us') vs us' vs x) (sym q) g)

pub take_second : (s : Parts) (d : ℕ) (us vs vs' : List Loose) (u v y : Loose) → IsFirst u us → IsFirst v vs → vs ≡ y ∷ vs'
    → u.binder < v.binder → Takes s s d us vs us vs' y
take_second s d us vs vs' u v y hu hv ev l =
    let (us', q) = first_some u us hu in
    let z = first_eq v y vs vs' hv ev in
    let g : Takes s s d (u ∷ us') (y ∷ vs') (u ∷ us') vs' y = second u y us' vs' (subst (λ v. u.binder < v.binder) z l) refl in
    subst (λ us. Takes s s d us vs us vs' y) (sym q) (subst (λ vs. Takes s s d (u ∷ us') vs (u ∷ us') vs' y) (sym ev) g)

-- all that is to be made, from the start
abbrev pub whole : Parts → ℕ → List Loose → List Loose → Merged
whole s d us vs = merge (length us + length vs) d (map ty_of s.context.items) (length s.wires.items) us vs

-- some was made, and merging what is left makes the rest
pub record Merging (start now : Parts) (d : ℕ) (us vs us' vs' joined : List Loose) (fuel : ℕ) (ws : List WireTree) (ns : List Node) : Type 0
  where
    pub enough : length us' + length vs' ≤ fuel
    pub grows : Grows start now ws ns
    pub wires : (whole start d us vs).wires ≡ ws ++ (merge fuel d (map ty_of start.context.items) (length now.wires.items) us' vs').wires
    pub nodes : (whole start d us vs).nodes ≡ ns ++ (merge fuel d (map ty_of start.context.items) (length now.wires.items) us' vs').nodes
    pub free : (whole start d us vs).free ≡ joined ++ (merge fuel d (map ty_of start.context.items) (length now.wires.items) us' vs').free
    pub lefts : Falling (length start.context.items) us'
    pub rights : Falling (length start.context.items) vs'

abbrev pub IsMerging : Parts → Parts → ℕ → List Loose → List Loose → List Loose → List Loose → List Loose → Type 0
IsMerging start now d us vs us' vs' joined =
    (fuel : ℕ) × (ws : List WireTree) × (ns : List Node) × Merging start now d us vs us' vs' joined fuel ws ns

pub merging_starts : (s : Parts) (d : ℕ) (us vs : List Loose) → Falling (length s.context.items) us → Falling (length s.context.items) vs
    → IsMerging s s d us vs us vs []
merging_starts s d us vs h i = (
  length us + length vs,
  [],
  [],
  record { enough = omega arith; grows = grows_none s; wires = refl; nodes = refl; free = refl; lefts = h; rights = i },
)

falling_le : (j k : ℕ) (us : List Loose) → j ≤ k → Falling j us → Falling k us
falling_le j k [] l h = tt
falling_le j k (u ∷ us) l h = (omega (arith, h.0), h.1)

shift : {A : Type 0} (a : List A) (x : A) (b : List A) → a ++ x ∷ b ≡ (a ++ x ∷ []) ++ b
shift a x b = sym (append_assoc a (x ∷ []) b)

same_loose : (w : Loose) (b n : ℕ) → w.binder ≡ b → w.wire ≡ n → loose b n ≡ w
same_loose w b n e f = sym (λ k. loose (e k) (f k))

merge_both : (f d : ℕ) (c : List TyTree) (n : ℕ) (u v : Loose) (us vs : List Loose) → u.binder ≡ v.binder →
    merge (suc f) d c n (u ∷ us) (v ∷ vs) ≡ more (var_wire d (type_at c u.binder)) (Con u.wire v.wire n) (loose u.binder n)
    (merge f d c (suc n) us vs)
merge_both f d c n u v us vs e = rw (eq-eqb u.binder v.binder e) refl

merge_first : (f d : ℕ) (c : List TyTree) (n : ℕ) (u v : Loose) (us vs : List Loose) → v.binder < u.binder
    → merge (suc f) d c n (u ∷ us) (v ∷ vs) ≡ put u (merge f d c n us (v ∷ vs))
merge_first f d c n u v us vs l =
    let p = ne_eqb u.binder v.binder (λ q. omega (arith, q)) in
    let q = lt-ltb v.binder u.binder l in
    rw (p, q) refl

merge_second : (f d : ℕ) (c : List TyTree) (n : ℕ) (u v : Loose) (us vs : List Loose) → u.binder < v.binder
    → merge (suc f) d c n (u ∷ us) (v ∷ vs) ≡ put v (merge f d c n (u ∷ us) vs)
merge_second f d c n u v us vs l =
    let p = ne_eqb u.binder v.binder (λ q. omega (arith, q)) in
    let q = le-ltb v.binder u.binder (omega arith) in
    rw (p, q) refl

-- both lists begin with one binder: a contraction of both wires is joined, and what is left to do gets one less
step_both : (start now new : Parts) (d : ℕ) (us vs us' vs' joined : List Loose) (u v w : Loose) (fuel : ℕ) (ws : List WireTree)
    (ns : List Node) → u.binder ≡ v.binder →
    Varies now new d u.binder (Con u.wire v.wire (length now.wires.items)) w → Merging start now d us vs (u ∷ us') (v ∷ vs') joined
    (suc fuel) ws ns →
    IsMerging start new d us vs us' vs' (joined ++ w ∷ [])
step_both start now new d us vs us' vs' joined u v w fuel ws ns e h g =
    let c = map ty_of start.context.items in
    let n = length now.wires.items in
    let wire = var_wire d (type_at c u.binder) in
    let node = Con u.wire v.wire n in
    let p = merge_both fuel d c n u v us' vs' e in
    let h' : Grows now new (wire ∷ []) (node ∷ []) =
    subst (λ t. Grows now new (var_wire d t ∷ []) (node ∷ [])) (ap (λ c. binder_type c u.binder) g.grows.context) h.grows in
    let q : suc n ≡ length new.wires.items = omega (arith, grows_length now new (wire ∷ []) (node ∷ []) h') in
    let r = same_loose w u.binder n h.binder h.wire in (
      fuel,
      ws ++ wire ∷ [],
      ns ++ node ∷ [],
      record {
        enough = omega (arith, g.enough);
        grows = grows_then start now new ws (wire ∷ []) ns (node ∷ []) g.grows h';
        wires = g.wires ∙ ap (λ m. ws ++ m.wires) p ∙ shift ws wire _ ∙ ap (λ n. (ws ++ wire ∷ []) ++ (merge fuel d c n us' vs').wires) q;
        nodes = g.nodes ∙ ap (λ m. ns ++ m.nodes) p ∙ shift ns node _ ∙ ap (λ n. (ns ++ node ∷ []) ++ (merge fuel d c n us' vs').nodes) q;
        free = g.free ∙ ap (λ m. joined ++ m.free) p ∙ shift joined (loose u.binder n) _
            ∙ ap (λ x. (joined ++ x ∷ []) ++ (merge fuel d c (suc n) us' vs').free) r
            ∙ ap (λ n. (joined ++ w ∷ []) ++ (merge fuel d c n us' vs').free) q;
        lefts = falling_le u.binder (length start.context.items) us' (omega (arith, g.lefts.0)) g.lefts.1;
        rights = falling_le v.binder (length start.context.items) vs' (omega (arith, g.rights.0)) g.rights.1;
      },
    )

-- the left list's first binder is further in: its wire is joined as it is
step_first : (start now : Parts) (d : ℕ) (us vs us' vs' joined : List Loose) (u v : Loose) (fuel : ℕ) (ws : List WireTree) (ns : List Node)
    → v.binder < u.binder →
    Merging start now d us vs (u ∷ us') (v ∷ vs') joined (suc fuel) ws ns → IsMerging start now d us vs us' (v ∷ vs') (joined ++ u ∷ [])
step_first start now d us vs us' vs' joined u v fuel ws ns l g =
    let p = merge_first fuel d (map ty_of start.context.items) (length now.wires.items) u v us' vs' l in (
      fuel,
      ws,
      ns,
      record {
        enough = omega (arith, g.enough);
        grows = g.grows;
        wires = g.wires ∙ ap (λ m. ws ++ m.wires) p;
        nodes = g.nodes ∙ ap (λ m. ns ++ m.nodes) p;
        free = g.free ∙ ap (λ m. joined ++ m.free) p ∙ shift joined u _;
        lefts = falling_le u.binder (length start.context.items) us' (omega (arith, g.lefts.0)) g.lefts.1;
        rights = g.rights;
      },
    )

-- the right list's first binder is further in: its wire is joined as it is
step_second : (start now : Parts) (d : ℕ) (us vs us' vs' joined : List Loose) (u v : Loose) (fuel : ℕ) (ws : List WireTree) (ns : List Node)
    → u.binder < v.binder →
    Merging start now d us vs (u ∷ us') (v ∷ vs') joined (suc fuel) ws ns → IsMerging start now d us vs (u ∷ us') vs' (joined ++ v ∷ [])
step_second start now d us vs us' vs' joined u v fuel ws ns l g =
    let p = merge_second fuel d (map ty_of start.context.items) (length now.wires.items) u v us' vs' l in (
      fuel,
      ws,
      ns,
      record {
        enough = omega (arith, g.enough);
        grows = g.grows;
        wires = g.wires ∙ ap (λ m. ws ++ m.wires) p;
        nodes = g.nodes ∙ ap (λ m. ns ++ m.nodes) p;
        free = g.free ∙ ap (λ m. joined ++ m.free) p ∙ shift joined v _;
        lefts = g.lefts;
        rights = falling_le v.binder (length start.context.items) vs' (omega (arith, g.rights.0)) g.rights.1;
      },
    )

-- one turn of the loop, whichever wire was taken
steps : (start now new : Parts) (d : ℕ) (us vs us' vs' us'' vs'' joined : List Loose) (w : Loose) (fuel : ℕ) (ws : List WireTree)
    (ns : List Node) → Takes now new d us' vs' us'' vs'' w →
    Merging start now d us vs us' vs' joined fuel ws ns → IsMerging start new d us vs us'' vs'' (joined ++ w ∷ [])
steps start now new d us vs _ _ _ _ joined _ zero ws ns (both u v w us'' vs'' e h) merging = absurd (omega (arith, merging.enough))
steps start now new d us vs _ _ _ _ joined _ zero ws ns (first u v us'' vs'' l e) merging = absurd (omega (arith, merging.enough))
steps start now new d us vs _ _ _ _ joined _ zero ws ns (second u v us'' vs'' l e) merging = absurd (omega (arith, merging.enough))
steps start now new d us vs _ _ _ _ joined _ (suc fuel) ws ns (both u v w us' vs' e h) merging =
    step_both start now new d us vs us' vs' joined u v w fuel ws ns e h merging
steps start now new d us vs _ _ _ _ joined _ (suc fuel) ws ns (first u v us' vs' l e) merging =
    subst (λ s. IsMerging start s d us vs us' (v ∷ vs') (joined ++ u ∷ [])) (sym e)
    (step_first start now d us vs us' vs' joined u v fuel ws ns l merging)
steps start now new d us vs _ _ _ _ joined _ (suc fuel) ws ns (second u v us' vs' l e) merging =
    subst (λ s. IsMerging start s d us vs (u ∷ us') vs' (joined ++ v ∷ [])) (sym e)
    (step_second start now d us vs us' vs' joined u v fuel ws ns l merging)

pub merging_steps : (start now new : Parts) (d : ℕ) (us vs us' vs' us'' vs'' joined : List Loose) (w : Loose)
    → Takes now new d us' vs' us'' vs'' w → IsMerging start now d us vs us' vs' joined →
    IsMerging start new d us vs us'' vs'' (joined ++ w ∷ [])
merging_steps start now new d us vs us' vs' us'' vs'' joined w t m =
    steps start now new d us vs us' vs' us'' vs'' joined w m.0 m.1 m.2 t m.3

-- what the contractions make is what the definition says
pub whole_contract : (s : Parts) (d : ℕ) (us vs : List Loose) → Falling (length s.context.items) us → Falling (length s.context.items) vs →
    Same (length s.context.items)
    (contract (length s.wires.items) d (context_of s.context.items) (spread (length s.context.items) us)
    (spread (length s.context.items) vs)) (whole s d us vs)
whole_contract s d us vs h i =
    rw (context_levels s.context.items)
    (merge_contract (length s.context.items) (length us + length vs) d (map ty_of s.context.items) (length s.wires.items) us vs
    (omega arith) h i)

-- there is room for one wire more
pub merging_room : (start now : Parts) (d : ℕ) (us vs us' vs' joined : List Loose) → IsMerging start now d us vs us' vs' joined
    → length start.wires.items + length (whole start d us vs).wires < 2 ^ 32 → length now.wires.items < 2 ^ 32
merging_room start now d us vs us' vs' joined m l =
    let g = m.3 in
    let e = ap length g.wires in
    let f = length-append m.1 (merge m.0 d (map ty_of start.context.items) (length now.wires.items) us' vs').wires in
    omega (arith, grows_length start now m.1 m.2 g.grows, e, f)

ended : (f d : ℕ) (c : List TyTree) (n : ℕ) (us vs : List Loose) → length us + length vs ≤ f → (us ≡ []) ⊎ (vs ≡ [])
    → merge f d c n us vs ≡ left_over (us ++ vs)
ended f d c n us vs l (inl e) = subst (λ us. merge f d c n us vs ≡ left_over (us ++ vs)) (sym e) (none_merge f d c n vs (omega arith))
ended f d c n us vs l (inr e) =
    subst (λ vs. merge f d c n us vs ≡ left_over (us ++ vs)) (sym e)
    (merge_none f d c n us (omega arith) ∙ ap left_over (sym (append-nil us)))

-- once a list is empty, what was joined and what is left of the other are the definition's contractions
pub merging_ends : (start now : Parts) (d : ℕ) (us vs us' vs' joined rest : List Loose) → Falling (length start.context.items) us
    → Falling (length start.context.items) vs → IsMerging start now d us vs us' vs' joined →
    (us' ≡ []) ⊎ (vs' ≡ []) → reverse rest ≡ joined ++ (us' ++ vs') →
    Bundles start now (contract (length start.wires.items) d (context_of start.context.items) (spread (length start.context.items) us)
    (spread (length start.context.items) vs)) rest
merging_ends start now d us vs us' vs' joined rest h i m z e =
    let g = m.3 in
    let s = whole_contract start d us vs h i in
    let p = ended m.0 d (map ty_of start.context.items) (length now.wires.items) us' vs' g.enough z in
    let w : (whole start d us vs).wires ≡ m.1 = g.wires ∙ ap (λ x. m.1 ++ x.wires) p ∙ append-nil m.1 in
    let n : (whole start d us vs).nodes ≡ m.2 = g.nodes ∙ ap (λ x. m.2 ++ x.nodes) p ∙ append-nil m.2 in
    let f : (whole start d us vs).free ≡ reverse rest = g.free ∙ ap (λ x. joined ++ x.free) p ∙ sym e in
    record {
      grows = rw (s.wires ∙ w, s.nodes ∙ n) g.grows;
      free = record {
        spreads = sym (s.free ∙ ap (spread (length start.context.items)) f);
        falling = subst (Falling (length start.context.items)) f s.falling;
      };
    }

-- all doors that are to be made, from the start
abbrev pub whole_doors : Parts → ℕ → List Loose → Merged
whole_doors s d us = leave d (map ty_of s.context.items) (length s.wires.items) us

-- some were made, and doors for what is left are the rest
pub record Leaving (start now : Parts) (d : ℕ) (us us' out : List Loose) (ws : List WireTree) (ns : List Node) : Type 0 where
  pub grows : Grows start now ws ns
  pub wires : (whole_doors start d us).wires ≡ ws ++ (leave d (map ty_of start.context.items) (length now.wires.items) us').wires
  pub nodes : (whole_doors start d us).nodes ≡ ns ++ (leave d (map ty_of start.context.items) (length now.wires.items) us').nodes
  pub free : (whole_doors start d us).free ≡ out ++ (leave d (map ty_of start.context.items) (length now.wires.items) us').free
  pub inside : Falling (length start.context.items) us'

abbrev pub IsLeaving : Parts → Parts → ℕ → List Loose → List Loose → List Loose → Type 0
IsLeaving start now d us us' out = (ws : List WireTree) × (ns : List Node) × Leaving start now d us us' out ws ns

pub leaving_starts : (s : Parts) (d : ℕ) (us : List Loose) → Falling (length s.context.items) us → IsLeaving s s d us us []
leaving_starts s d us h = ([], [], record { grows = grows_none s; wires = refl; nodes = refl; free = refl; inside = h })

-- one more door: the first loose wire has left, and what is left to do gets one less
leaving_step : (start now new : Parts) (d : ℕ) (us us' out : List Loose) (u w : Loose) (ws : List WireTree) (ns : List Node)
    → Varies now new d u.binder (Door u.wire (length now.wires.items)) w →
    Leaving start now d us (u ∷ us') out ws ns → IsLeaving start new d us us' (out ++ w ∷ [])
leaving_step start now new d us us' out u w ws ns h g =
    let c = map ty_of start.context.items in
    let n = length now.wires.items in
    let wire = var_wire d (type_at c u.binder) in
    let node = Door u.wire n in
    let h' : Grows now new (wire ∷ []) (node ∷ []) =
    subst (λ t. Grows now new (var_wire d t ∷ []) (node ∷ [])) (ap (λ c. binder_type c u.binder) g.grows.context) h.grows in
    let q : suc n ≡ length new.wires.items = omega (arith, grows_length now new (wire ∷ []) (node ∷ []) h') in
    let r = same_loose w u.binder n h.binder h.wire in (
      ws ++ wire ∷ [],
      ns ++ node ∷ [],
      record {
        grows = grows_then start now new ws (wire ∷ []) ns (node ∷ []) g.grows h';
        wires = g.wires ∙ shift ws wire _ ∙ ap (λ n. (ws ++ wire ∷ []) ++ (leave d c n us').wires) q;
        nodes = g.nodes ∙ shift ns node _ ∙ ap (λ n. (ns ++ node ∷ []) ++ (leave d c n us').nodes) q;
        free = g.free ∙ shift out (loose u.binder n) _ ∙ ap (λ x. (out ++ x ∷ []) ++ (leave d c (suc n) us').free) r
            ∙ ap (λ n. (out ++ w ∷ []) ++ (leave d c n us').free) q;
        inside = falling_le u.binder (length start.context.items) us' (omega (arith, g.inside.0)) g.inside.1;
      },
    )

pub leaving_steps : (start now new : Parts) (d n : ℕ) (us us' us'' out : List Loose) (u w : Loose) → us' ≡ u ∷ us''
    → n ≡ length now.wires.items → Varies now new d u.binder (Door u.wire n) w → IsLeaving start now d us us' out →
    IsLeaving start new d us us'' (out ++ w ∷ [])
leaving_steps start now new d n us us' us'' out u w e en h m =
    leaving_step start now new d us us'' out u w m.0 m.1 (subst (λ n. Varies now new d u.binder (Door u.wire n) w) en h)
    (subst (λ us'. Leaving start now d us us' out m.0 m.1) e m.2)

pub leaving_room : (start now : Parts) (d : ℕ) (us us' out : List Loose) → IsLeaving start now d us us' out
    → length start.wires.items + length (whole_doors start d us).wires < 2 ^ 32 → length now.wires.items < 2 ^ 32
leaving_room start now d us us' out m l =
    let g = m.2 in
    let e = ap length g.wires in
    let f = length-append m.0 (leave d (map ty_of start.context.items) (length now.wires.items) us').wires in
    omega (arith, grows_length start now m.0 m.1 g.grows, e, f)

pub whole_leave : (s : Parts) (d : ℕ) (us : List Loose) → Falling (length s.context.items) us →
    Same (length s.context.items) (doors (length s.wires.items) d (context_of s.context.items) (spread (length s.context.items) us))
    (whole_doors s d us)
whole_leave s d us h =
    rw (context_levels s.context.items) (leave_doors (length s.context.items) d (map ty_of s.context.items) (length s.wires.items) us h)

-- once no loose wire is left inside, those outside are the definition's doors
pub leaving_ends : (start now : Parts) (d : ℕ) (us us' out rest : List Loose) → Falling (length start.context.items) us
    → IsLeaving start now d us us' out → us' ≡ [] → rest ≡ reverse out →
    Bundles start now (doors (length start.wires.items) d (context_of start.context.items) (spread (length start.context.items) us)) rest
leaving_ends start now d us us' out rest h m z e =
    let g = subst (λ us'. Leaving start now d us us' out m.0 m.1) z m.2 in
    let s = whole_leave start d us h in
    let w : (whole_doors start d us).wires ≡ m.0 = g.wires ∙ append-nil m.0 in
    let n : (whole_doors start d us).nodes ≡ m.1 = g.nodes ∙ append-nil m.1 in
    let r : out ≡ reverse rest = sym (reverse-reverse out) ∙ ap reverse (sym e) in
    let f : (whole_doors start d us).free ≡ reverse rest = g.free ∙ append-nil out ∙ r in
    record {
      grows = rw (s.wires ∙ w, s.nodes ∙ n) g.grows;
      free = record {
        spreads = sym (s.free ∙ ap (spread (length start.context.items)) f);
        falling = subst (Falling (length start.context.items)) f s.falling;
      };
    }

-- room for the definition's wires is room for the whole
pub rooms : (k n : ℕ) (b : Bundle) (m : Merged) → Same k b m → n + length b.wires < 2 ^ 32 → n + length m.wires < 2 ^ 32
rooms k n b m s l = subst (λ w. n + length w < 2 ^ 32) s.wires l
