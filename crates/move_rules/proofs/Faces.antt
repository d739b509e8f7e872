-- In a sound net each wire of a node leads to that node.
use Rattle.std.proofs.Common.{◌≡◌, ◌⊎◌, ℕ, zero, suc, ◌+◌, ◌≤◌, Bool, true, false, cond, List, [], ◌∷◌}
use Rattle.std.proofs.Common.{◌++◌, length, Option, Some, None}
use Rattle.std.proofs.Common.{refl, sym, ap, ◌∙◌, subst, ⊎_elim, inl, inr, arith}
use Rattle.std.proofs.lemmas.Bool.{eqb-true, eq-eqb, cases_lt, lt-ltb}
use Rattle.std.specs.Prelude.{nat_eq, nat_lt, slice_get, ◌<◌}
use Rattle.net_build.specs.declared.node.Node.{Node}
use Rattle.net_build.specs.Nets.{NetTree, premises, conclusions}
use Rattle.net_build.specs.Faces.{has, least, node_above, node_below}
use Rattle.net_build.specs.Sound.{how_often, named, In, Sound}

abbrev pub Among : ℕ → List ℕ → Type 0
Among w [] = ⊥
Among w (x ∷ xs) = (x ≡ w) ⊎ Among w xs

abbrev pub Apart : List ℕ → Type 0
Apart [] = Unit {0}
Apart (x ∷ xs) = (Among x xs → ⊥) × Apart xs

-- each wire of the node leads to it, and no two on one side are one
pub record Faced (net : NetTree) (n : Node) : Type 0 where
  pub at : ℕ
  pub stands : slice_get net.nodes at ≡ Some n
  pub ups : (w : ℕ) → Among w (conclusions n) → node_above net w ≡ Some (at, n)
  pub downs : (w : ℕ) → Among w (premises n) → node_below net w ≡ Some (at, n)
  pub apart_up : Apart (conclusions n)
  pub apart_down : Apart (premises n)

-- each node of a list is faced in the net
pub record Faces (net : NetTree) (ns : List Node) : Type 0 where
  pub each : (n : Node) → In n ns → Faced net n

pub in_left : (n : Node) (a b : List Node) → In n a → In n (a ++ b)
in_left n [] b h = elim h [ ]
in_left n (x ∷ a) b (inl e) = inl e
in_left n (x ∷ a) b (inr h) = inr (in_left n a b h)

pub in_right : (n : Node) (a b : List Node) → In n b → In n (a ++ b)
in_right n [] b h = h
in_right n (x ∷ a) b h = inr (in_right n a b h)

often_among : (w : ℕ) (xs : List ℕ) → Among w xs → 1 ≤ how_often w xs
often_among w [] h = elim h [ ]
often_among w (x ∷ xs) (inl e) = rw (eq-eqb x w e) (omega arith)
often_among w (x ∷ xs) (inr h) = let k = often_among w xs h in omega arith

pub has_among : (xs : List ℕ) (w : ℕ) → has xs w ≡ true → Among w xs
has_among [] w h = cc
has_among (x ∷ xs) w h = go (has_among xs w) (nat_eq x w) refl h
  where
    go : (has xs w ≡ true → Among w xs) → (b : Bool) → nat_eq x w ≡ b → (cond b true (has xs w)) ≡ true → Among w (x ∷ xs)
    go ih true e h = inl (eqb-true x w e)
    go ih false e h = inr (ih h)

pub among_has : (xs : List ℕ) (w : ℕ) → Among w xs → has xs w ≡ true
among_has [] w h = elim h [ ]
among_has (x ∷ xs) w (inl e) = ap (λ b. cond b true (has xs w)) (eq-eqb x w e)
among_has (x ∷ xs) w (inr h) = go (among_has xs w h) (nat_eq x w)
  where
    go : has xs w ≡ true → (b : Bool) → (cond b true (has xs w)) ≡ true
    go ih true = refl
    go ih false = ih

-- where a node of a list stands
pub at_in : (n : Node) (ns : List Node) → In n ns → (i : ℕ) × (slice_get ns i ≡ Some n)
at_in n [] h = elim h [ ]
at_in n (x ∷ ns) (inl e) = (zero, ap Some (sym e))
at_in n (x ∷ ns) (inr h) = let (i, q) = at_in n ns h in (suc i, q)

-- what is named is at a node of the list
named_at : (side : Node → List ℕ) (ns : List Node) (i : ℕ) (n : Node) (w : ℕ) → slice_get ns i ≡ Some n → Among w (side n)
    → 1 ≤ named side ns w
named_at side [] i n w h a = cc
named_at side (x ∷ ns) zero n w h a = let e : n ≡ x = cc in
    let k = often_among w (side x) (subst (λ n. Among w (side n)) e a) in omega arith
named_at side (x ∷ ns) (suc i) n w h a = let k = named_at side ns i n w h a in omega arith

-- the least node that has the wire is the only one
least_is : (side : Node → List ℕ) (ns : List Node) (k i : ℕ) (n : Node) (w : ℕ) → named side ns w ≤ 1 →
    slice_get ns i ≡ Some n
    → Among w (side n) → least side k ns w ≡ Some (k + i, n)
least_is side [] k i n w le h a = cc
least_is side (x ∷ ns) k zero n w le h a =
    let e : n ≡ x = cc in
    let z : k ≡ k + zero = omega arith in
    rw (among_has (side x) w (subst (λ n. Among w (side n)) e a)) (ap (λ y. Some (k, y)) (sym e) ∙ ap (λ k. Some (k, n)) z)
least_is side (x ∷ ns) k (suc i) n w le h a = go (least_is side ns (suc k) i n w (omega arith) h a) (has (side x) w) refl
  where
    go : least side (suc k) ns w ≡ Some (suc k + i, n) → (b : Bool) → has (side x) w ≡ b
        → cond b (Some (k, x)) (least side (suc k) ns w) ≡ Some (k + suc i, n)
    go ih true e =
        let p = often_among w (side x) (has_among (side x) w e) in
        let q = named_at side ns i n w h a in
        absurd (omega arith)
    go ih false e = let z : suc k + i ≡ k + suc i = omega arith in ih ∙ ap (λ k. Some (k, n)) z

often_apart : (xs : List ℕ) → ((w : ℕ) → how_often w xs ≤ 1) → Apart xs
often_apart [] h = tt
often_apart (x ∷ xs) h = (
  (λ a. let k = often_among x xs a in let e = eq-eqb x x refl in let j = rw e at (h x) in omega (arith, j)),
  often_apart xs (λ w. omega (arith, h w)),
)

often_named : (side : Node → List ℕ) (ns : List Node) (i : ℕ) (n : Node) (w : ℕ) → slice_get ns i ≡ Some n
    → how_often w (side n) ≤ named side ns w
often_named side [] i n w h = cc
often_named side (x ∷ ns) zero n w h = let e : n ≡ x = cc in rw e (omega arith)
often_named side (x ∷ ns) (suc i) n w h = omega (arith, often_named side ns i n w h)

-- what was found is there
pub least_in : (side : Node → List ℕ) (ns : List Node) (k : ℕ) (w i : ℕ) (n : Node) → least side k ns w ≡ Some (i, n)
    → (j : ℕ) × (i ≡ k + j) × (slice_get ns j ≡ Some n) × Among w (side n)
least_in side [] k w i n h = cc
least_in side (x ∷ ns) k w i n h = go (least_in side ns (suc k) w i n) (has (side x) w) refl h
  where
    go : (least side (suc k) ns w ≡ Some (i, n) → (j : ℕ) × (i ≡ suc k + j) × (slice_get ns j ≡ Some n) × Among w (side n)) →
        (b : Bool)
        → has (side x) w ≡ b → cond b (Some (k, x)) (least side (suc k) ns w) ≡ Some (i, n)
        → (j : ℕ) × (i ≡ k + j) × (slice_get (x ∷ ns) j ≡ Some n) × Among w (side n)
    go ih true e h =
        let pairs : ◌≡◌ {A = ℕ × Node} (k, x) (i, n) = cc in
        let e' : x ≡ n = ap (λ (p : ℕ × Node). p.1) pairs in
        let z : k ≡ i = ap (λ (p : ℕ × Node). p.0) pairs in
        (zero, omega arith, ap Some e', subst (λ y. Among w (side y)) e' (has_among (side x) w e))
    go ih false e h = let (j, q, a, b) = ih h in (suc j, omega arith, a, b)

-- within the list of wires the test of the length is passed
within : {A : Type 0} (w k : ℕ) (o : Option A) → w < k → cond (nat_lt w k) o None ≡ o
within w k o l = ap (λ b. cond b o None) (lt-ltb w k l)

-- what the test lets through is there
pub let_through : {A : Type 0} (b : Bool) (o : Option A) (r : A) → cond b o None ≡ Some r → o ≡ Some r
let_through true o r h = h
let_through false o r h = cc

-- a sound net: each wire is named at most once on either side, so that a wire of a node has that node as its least there, and a node
-- names no wire twice
module _ (net : NetTree) (sound : Sound net) where
  at_most : (w : ℕ) → (named conclusions net.nodes w ≤ 1) × (named premises net.nodes w ≤ 1)
  at_most w = ⊎_elim (λ l. let h = sound.once w l in (omega arith, omega arith))
      (λ l. let h = sound.outside w l in (omega arith, omega arith)) (cases_lt w (length net.wires))

  -- a wire that a node names is in the list
  pub inside : (side : Node → List ℕ) (i : ℕ) (n : Node) (w : ℕ) →
      ((v : ℕ) → length net.wires ≤ v → named side net.nodes v ≡ 0)
      → slice_get net.nodes i ≡ Some n → Among w (side n) → w < length net.wires
  inside side i n w out h a =
      ⊎_elim (λ l. l) (λ l. let z = out w l in let k = named_at side net.nodes i n w h a in absurd (omega (arith, z, k)))
      (cases_lt w (length net.wires))

  pub faced_at : (i : ℕ) (n : Node) → slice_get net.nodes i ≡ Some n → Faced net n
  faced_at i n h =
      let z : zero + i ≡ i = omega arith in
      record {
        at = i;
        stands = h;
        ups = λ w a.
            within w (length net.wires) (least conclusions zero net.nodes w) (inside conclusions i n w (λ v l. (sound.outside v l).0) h a)
            ∙ least_is conclusions net.nodes zero i n w (at_most w).0 h a
            ∙ ap (λ k. Some (k, n)) z;
        downs = λ w a.
            within w (length net.wires) (least premises zero net.nodes w) (inside premises i n w (λ v l. (sound.outside v l).1) h a)
            ∙ least_is premises net.nodes zero i n w (at_most w).1 h a
            ∙ ap (λ k. Some (k, n)) z;
        apart_up = often_apart (conclusions n)
            (λ w. let a = often_named conclusions net.nodes i n w h in let b = (at_most w).0 in omega arith);
        apart_down = often_apart (premises n) (λ w. let a = often_named premises net.nodes i n w h in let b = (at_most w).1 in
            omega arith);
      }

  pub faced_at-at : (i : ℕ) (n : Node) (h : slice_get net.nodes i ≡ Some n) → (faced_at i n h).at ≡ i
  unfolding faced_at
  faced_at-at i n h = refl

  -- what a wire leads to is faced there
  pub above_faced : (w i : ℕ) (n : Node) → node_above net w ≡ Some (i, n) → (f : Faced net n) × (f.at ≡ i) ×
      Among w (conclusions n)
  above_faced w i n h =
      let (j, e, q, a) = least_in conclusions net.nodes zero w i n (let_through (nat_lt w (length net.wires)) _ _ h) in
      (faced_at j n q, omega (arith, faced_at-at j n q), a)

  pub below_faced : (w i : ℕ) (n : Node) → node_below net w ≡ Some (i, n) → (f : Faced net n) × (f.at ≡ i) ×
      Among w (premises n)
  below_faced w i n h =
      let (j, e, q, a) = least_in premises net.nodes zero w i n (let_through (nat_lt w (length net.wires)) _ _ h) in
      (faced_at j n q, omega (arith, faced_at-at j n q), a)

  pub net_faces : Faces net net.nodes
  net_faces = record { each = λ n h. let (i, q) = at_in n net.nodes h in faced_at i n q }
