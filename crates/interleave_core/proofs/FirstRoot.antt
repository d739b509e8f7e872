-- The first root, found node by node, or at once where it is the only one and the last node.
use Rattle.std.proofs.Common.{◌≡◌, ℕ, zero, suc, ◌+◌, List, [], ◌∷◌, drop, slice_get, Option, Some, None, refl, ap}
use Rattle.std.proofs.Common.{◌∙◌, ◌-◌, ◌≤◌, length, subst, sym, arith}
use Rattle.net_build.specs.declared.node.Node.{Node}
use Rattle.net_build.specs.declared.node.Node.TheVariants.{Root}
use Rattle.net_build.specs.Sound.{roots}
use Rattle.interleave_laws.specs.Start.{root_wire}
use Rattle.interleave_core.specs.Roots.{root_at}

-- the wire of a root, or else what is found behind it
abbrev or_root : Option ℕ → ℕ → ℕ
or_root (Some w) r = w
or_root None r = r

-- at the front of a list
at_front : (n : Node) (ns : List Node) → root_wire (n ∷ ns) ≡ or_root (root_at n) (root_wire ns)
at_front (Root w) ns = refl
at_front n ns = refl

-- and at any place of it
at_place : (ns : List Node) (i : ℕ) (n : Node) → slice_get ns i ≡ Some n →
    root_wire (drop i ns) ≡ or_root (root_at n) (root_wire (drop (suc i) ns))
at_place [] zero n e = absurd cc
at_place [] (suc i) n e = absurd cc
at_place (m ∷ ns) zero n e = let q : m ≡ n = cc in at_front m ns ∙ ap (λ n. or_root (root_at n) (root_wire ns)) q
at_place (m ∷ ns) (suc i) n e = at_place ns i n e

-- a node that is no root is passed
pub next_root : (ns : List Node) (i : ℕ) (n : Node) → slice_get ns i ≡ Some n → root_at n ≡ None →
    root_wire (drop i ns) ≡ root_wire (drop (i + 1) ns)
next_root ns i n e h = let k : suc i ≡ i + 1 = omega arith in at_place ns i n e ∙
    ap (λ o. or_root o (root_wire (drop (suc i) ns))) h ∙ ap (λ k. root_wire (drop k ns)) k

-- and a root is what is looked for
pub this_root : (ns : List Node) (i w : ℕ) (n : Node) → slice_get ns i ≡ Some n → root_at n ≡ Some w →
    root_wire (drop i ns) ≡ w
this_root ns i w n e h = at_place ns i n e ∙ ap (λ o. or_root o (root_wire (drop (suc i) ns))) h

-- one more where a node is a root
abbrev one_more : Option ℕ → ℕ → ℕ
one_more (Some w) r = suc r
one_more None r = r

-- how many roots a node and those behind it are
counted : (n : Node) (ns : List Node) → roots (n ∷ ns) ≡ one_more (root_at n) (roots ns)
counted (Root w) ns = refl
counted n ns = refl

-- where a root stands somewhere, there is one at least
some_root : (ns : List Node) (i w : ℕ) (n : Node) → slice_get ns i ≡ Some n → root_at n ≡ Some w → 1 ≤ roots ns
some_root [] zero w n e h = absurd cc
some_root [] (suc i) w n e h = absurd cc
some_root (m ∷ ns) zero w n e h =
    let q : m ≡ n = cc in
    let k : roots (m ∷ ns) ≡ suc (roots ns) = counted m ns ∙ ap (λ o. one_more o (roots ns)) (ap root_at q ∙ h) in omega (arith, k)
some_root (m ∷ ns) (suc i) w n e h = subst (λ r. 1 ≤ r) (sym (counted m ns)) (more (root_at m) (roots ns) (some_root ns i w n e h)) where
  more : (o : Option ℕ) (r : ℕ) → 1 ≤ r → 1 ≤ one_more o r
  more (Some w) r h = omega arith
  more None r h = h

-- of one root, one is behind a node: that node is none
passed : (o : Option ℕ) (r found w : ℕ) → one_more o r ≡ 1 → 1 ≤ r → (r ≡ 1 → found ≡ w) → or_root o found ≡ w
passed (Some v) r found w e some h = absurd (omega (arith, e, some))
passed None r found w e some h = h e

-- the only root, where the last node is it
pub last_root : (ns : List Node) (w : ℕ) (n : Node) → roots ns ≡ 1 → slice_get ns (length ns - 1) ≡ Some n → root_at n ≡ Some w →
    root_wire ns ≡ w
last_root [] w n one e h = absurd cc
last_root (m ∷ []) w n one e h = this_root (m ∷ []) 0 w n e h
last_root (m ∷ k ∷ ns) w n one e h =
    let i : suc (suc (length ns)) - 1 ≡ suc (length ns) = omega arith in
    let e : slice_get (k ∷ ns) (length ns) ≡ Some n = subst (λ i. slice_get (m ∷ k ∷ ns) i ≡ Some n) i e in
    at_front m (k ∷ ns) ∙ passed (root_at m) (roots (k ∷ ns)) (root_wire (k ∷ ns)) w (sym (counted m (k ∷ ns)) ∙ one)
    (some_root (k ∷ ns) (length ns) w n e h)
    (λ one. last_root (k ∷ ns) w n one (subst (λ i. slice_get (k ∷ ns) i ≡ Some n) (omega arith) e) h)
