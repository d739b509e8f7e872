-- The least number that isn't held, by counts and by the least number past the list.
use Rattle.std.proofs.Common.{◌≡◌, ◌⊎◌, ℕ, zero, suc, ◌+◌, ◌<◌, ◌≤◌, List, [], ◌∷◌, ◌++◌, length, take, get_or, Option, Some, None, refl}
use Rattle.std.proofs.Common.{sym, ap, ◌∙◌, subst, inl, inr, arith}
use Rattle.std.specs.Prelude.{slice_get, nat_eq, nat_lt, if◌then◌else◌}
use Rattle.std.specs.Option.{unwrap_or}
use Rattle.std.proofs.lemmas.Bool.{cases_lt, eq-eqb, ne_eqb, lt-ltb, le-ltb}
use Rattle.std.proofs.lemmas.Option.{slice_get-get_or}
use Rattle.std.proofs.Math.Seq.{take-suc}
use Rattle.net_build.specs.declared.node.Node.{Node}
use Rattle.net_build.specs.declared.node.Node.TheVariants.{Root}
use Rattle.net_build.specs.Nets.{NetTree, premises, conclusions}
use Rattle.net_build.specs.Sound.{how_often, named, roots}
use Rattle.net_check.specs.Counts.{capped, Counted, IsLeastOdd, lesser, lesser_of, past_from}
use Rattle.net_check.specs.Rows.{TypesMeet, DepthsMeet}
use Rattle.net_check.specs.Faults.{MeetBelow}
use Rattle.net_check.specs.Steps.{IsFirstLoose}

-- a number past the list is the least one that is counted there, or none is
abbrev PastOk : (ℕ → ℕ) → ℕ → Option ℕ → Type 0
PastOk f count None = (w : ℕ) → count ≤ w → f w ≡ 0
PastOk f count (Some n) = (count ≤ n) × (0 < f n) × ((m : ℕ) → count ≤ m → m < n → f m ≡ 0)

-- the same of equal counts
past_same : (f g : ℕ → ℕ) (count : ℕ) (o : Option ℕ) → ((w : ℕ) → f w ≡ g w) → PastOk f count o → PastOk g count o
past_same f g count None e h = λ w l. sym (e w) ∙ h w l
past_same f g count (Some n) e h = (h.0, subst (λ k. 0 < k) (e n) h.1, λ m l k. sym (e m) ∙ h.2 m l k)

-- one wire more
abbrev one : ℕ → ℕ → ℕ
one x w = if nat_eq x w then 1 else 0

-- a wire counts once for itself, and for no other
one_same : (x : ℕ) → one x x ≡ 1
one_same x = rw (eq-eqb x x refl) refl

one_other : (x w : ℕ) → (x ≡ w → ⊥) → one x w ≡ 0
one_other x w n = rw (ne_eqb x w n) refl

-- a lesser number that is past the list
past_new : (f : ℕ → ℕ) (count x : ℕ) → count ≤ x → ((m : ℕ) → count ≤ m → m < x → f m ≡ 0) → PastOk (λ w. f w + one x w) count (Some x)
past_new f count x l h = (l, omega (arith, one_same x), λ m k j. omega (arith, h m k j, one_other x m (λ e. omega (arith, e, j))))

-- over one wire, over a node's wires, over all nodes
past_one : (f : ℕ → ℕ) (count x : ℕ) (o : Option ℕ) → PastOk f count o
    → PastOk (λ w. f w + one x w) count (if nat_lt x count then o else lesser x o)
past_one f count x o h = go (cases_lt x count) o h
  where
    go : (x < count) ⊎ (count ≤ x) → (o : Option ℕ) → PastOk f count o
        → PastOk (λ w. f w + one x w) count (if nat_lt x count then o else lesser x o)
    go (inl l) None h = rw (lt-ltb x count l) (λ w k. omega (arith, h w k, one_other x w (λ e. omega (arith, e))))
    go (inl l) (Some n) h =
        rw (lt-ltb x count l) (h.0, omega (arith, h.1), λ m k j. omega (arith, h.2 m k j, one_other x m (λ e. omega (arith, e))))
    go (inr l) None h = rw (le-ltb x count l) (past_new f count x l (λ m k j. h m k))
    go (inr l) (Some n) h = rw (le-ltb x count l) (least (cases_lt x n))
      where
        least : (x < n) ⊎ (n ≤ x) → PastOk (λ w. f w + one x w) count (lesser x (Some n))
        least (inl k) = rw (lt-ltb x n k) (past_new f count x l (λ m i j. h.2 m i (omega (arith, j, k))))
        least (inr k) = rw (le-ltb x n k)
            (h.0, omega (arith, h.1), λ m i j. omega (arith, h.2 m i j, one_other x m (λ e. omega (arith, e, j, k))))

past_list : (ws : List ℕ) (f : ℕ → ℕ) (count : ℕ) (o : Option ℕ) → PastOk f count o
    → PastOk (λ w. f w + how_often w ws) count (lesser_of count ws o)
past_list [] f count o h = past_same f (λ w. f w + 0) count o (λ w. omega arith) h
past_list (x ∷ ws) f count o h =
    let p = past_list ws (λ w. f w + one x w) count (if nat_lt x count then o else lesser x o) (past_one f count x o h) in
    past_same (λ w. f w + one x w + how_often w ws) (λ w. f w + how_often w (x ∷ ws)) count (lesser_of count (x ∷ ws) o) (λ w. omega arith)
    p

-- over all nodes, of each its conclusions first and then its premises
past_nodes : (ns : List Node) (f : ℕ → ℕ) (count : ℕ) (o : Option ℕ) → PastOk f count o
    → PastOk (λ w. f w + (named conclusions ns w + named premises ns w)) count (past_from count ns o)
past_nodes [] f count o h = past_same f (λ w. f w + (0 + 0)) count o (λ w. omega arith) h
past_nodes (n ∷ ns) f count o h =
    let p = past_list (conclusions n) f count o h in
    let q = past_list (premises n) (λ w. f w + how_often w (conclusions n)) count (lesser_of count (conclusions n) o) p in
    let r = past_nodes ns (λ w. f w + how_often w (conclusions n) + how_often w (premises n)) count
    (lesser_of count (premises n) (lesser_of count (conclusions n) o)) q in
    past_same (λ w. f w + how_often w (conclusions n) + how_often w (premises n) + (named conclusions ns w + named premises ns w))
    (λ w. f w + (named conclusions (n ∷ ns) w + named premises (n ∷ ns) w)) count
    (past_from count (n ∷ ns) o) (λ w. omega arith) r

-- the least number past the list that any node names
past_all : (ns : List Node) (count : ℕ) → PastOk (λ w. 0 + (named conclusions ns w + named premises ns w)) count (past_from count ns None)
past_all ns count = past_nodes ns (λ w. 0) count None (λ w l. refl)

-- a capped count of 1 is 1
capped_one : (n : ℕ) → capped n ≡ 1 → n ≡ 1
capped_one zero e = absurd (omega (arith, e))
capped_one (suc zero) e = refl
capped_one (suc (suc n)) e = absurd (omega (arith, e))

-- what two equal options hold
some_in : (a b : ℕ) → Some a ≡ Some b → a ≡ b
some_in a b e = ap (λ o. unwrap_or o a) e

-- both counts are 1 where the wire stands once on each side
counts_one : (net : NetTree) (cs ds : List ℕ) → Counted conclusions (length net.wires) net.nodes cs
    → Counted premises (length net.wires) net.nodes ds → (n : ℕ) → n < length net.wires
    → (slice_get cs n ≡ Some 1) × (slice_get ds n ≡ Some 1) →
    (named conclusions net.nodes n ≡ 1) × (named premises net.nodes n ≡ 1)
counts_one net cs ds h i n l e =
    (capped_one _ (some_in _ _ (sym (h.entry n l) ∙ e.0)), capped_one _ (some_in _ _ (sym (i.entry n l) ∙ e.1)))

-- where each wire of the list stands once on both sides, the least number past it decides
pub loose_past : (net : NetTree) (cs ds : List ℕ) → Counted conclusions (length net.wires) net.nodes cs
    → Counted premises (length net.wires) net.nodes ds → IsLeastOdd cs ds None → (o : Option ℕ)
    → o ≡ past_from (length net.wires) net.nodes None →
    IsFirstLoose net o
loose_past net cs ds h i odd o e =
    go o (subst (PastOk (λ w. 0 + (named conclusions net.nodes w + named premises net.nodes w)) (length net.wires)) (sym e)
    (past_all net.nodes (length net.wires)))
  where
    inside : (m : ℕ) → m < length net.wires → (named conclusions net.nodes m ≡ 1) × (named premises net.nodes m ≡ 1)
    inside m l = counts_one net cs ds h i m l (odd m (omega (arith, l, h.size)))

    go : (o : Option ℕ) → PastOk (λ w. 0 + (named conclusions net.nodes w + named premises net.nodes w)) (length net.wires) o
        → IsFirstLoose net o
    go None p = λ n. (inside n, λ l. let z = p n l in (omega (arith, z), omega (arith, z)))
    go (Some n) p = (
      λ m k. (inside m, λ l. let z = p.2 m l k in (omega (arith, z), omega (arith, z))),
      λ held. let z = held.1 p.0 in absurd (omega (arith, z.0, z.1, p.1)),
    )

-- roots, over one node more
roots_snoc : (ns : List Node) (n : Node) → roots (ns ++ n ∷ []) ≡ roots ns + roots (n ∷ [])
roots_snoc [] n = omega arith
roots_snoc (Root w ∷ ns) n = let h = roots_snoc ns n in omega arith
roots_snoc (m ∷ ns) n = roots_snoc ns n

-- one root more or none: that of the node at i, of a list that is the nodes
pub roots_more : (xs nodes : List Node) (i j k c : ℕ) (d : Node) → xs ≡ nodes → i < length xs → j ≡ suc i → c ≡ roots (take i nodes)
    → k ≡ roots (get_or xs i d ∷ []) →
    c + k ≡ roots (take j nodes)
roots_more xs nodes i j k c d e l ej ec ek =
    let r : roots (take j nodes) ≡ roots (take i nodes) + roots (get_or xs i d ∷ []) =
    subst (λ ns. roots (take j ns) ≡ roots (take i ns) + roots (get_or xs i d ∷ [])) e
    (rw (ej, take-suc xs i d l) (roots_snoc (take i xs) (get_or xs i d))) in
    omega (arith, r, ec, ek)

-- the node at i stands in a list that is that one
pub stands_at : (xs nodes : List Node) (i : ℕ) (d : Node) → xs ≡ nodes → i < length xs → slice_get nodes i ≡ Some (get_or xs i d)
stands_at xs nodes i d e l = subst (λ ns. slice_get ns i ≡ Some (get_or xs i d)) e (slice_get-get_or xs i d l)

-- one row more is met
pub meet_more : (net : NetTree) (i j : ℕ) (n : Node) → MeetBelow net i → slice_get net.nodes i ≡ Some n → TypesMeet net n → DepthsMeet net n
    → j ≡ suc i → MeetBelow net j
meet_more net i j n below found types depths next m node less at = go (cases_lt m i)
  where
    go : (m < i) ⊎ (i ≤ m) → TypesMeet net node × DepthsMeet net node
    go (inl k) = below m node k at
    go (inr k) =
        let q : m ≡ i = omega (arith, less, next, k) in
        let p : Some n ≡ Some node = sym found ∙ ap (slice_get net.nodes) (sym q) ∙ at in
        let r : n ≡ node = ap (λ o. unwrap_or o n) p in
        (subst (TypesMeet net) r types, subst (DepthsMeet net) r depths)
