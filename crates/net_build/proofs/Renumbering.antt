-- Another number at a node: the node has the same wires, and so each wire the same nodes on both sides.
use Rattle.std.proofs.Common.{◌≡◌, ℕ, zero, suc, ◌<◌, ◌≤◌, ◌^◌, Bool, true, false, cond, List, [], ◌∷◌, length, Option, Some, refl}
use Rattle.std.proofs.Common.{sym, ap}
use Rattle.std.proofs.Common.{◌∙◌, subst, get_or, set, arith}
use Rattle.net_build.specs.declared.node.Node.{Node}
use Rattle.net_build.specs.declared.node.Node.TheVariants.{Const, Succ, Pred, Binary, Ifz, Der, Con, Weak, Lam, App, BoxNode}
use Rattle.net_build.specs.declared.node.Node.TheVariants.{Door, FixBox, Root, Pair, Proj}
use Rattle.net_build.specs.declared.wire.Wire.{Wire}
use Rattle.net_build.specs.Nets.{premises, conclusions}
use Rattle.net_build.specs.Faces.{has, least}
use Rattle.net_build.specs.Found.{number_of}
use Rattle.net_build.specs.Index.{Indexes}
use Rattle.net_build.specs.Kept.{Kept}
use Rattle.net_build.specs.Numbers.{set_number, set_at}

-- both sides of the node stay
sides : (v : ℕ) (n : Node) → (premises (set_number v n) ≡ premises n) × (conclusions (set_number v n) ≡ conclusions n)
sides v (Const u w) = (refl, refl)
sides v (Succ a w) = (refl, refl)
sides v (Pred a w) = (refl, refl)
sides v (Binary o a b w) = (refl, refl)
sides v (Ifz c p q w) = (refl, refl)
sides v (Der w x) = (refl, refl)
sides v (Con l r w) = (refl, refl)
sides v (Weak x) = (refl, refl)
sides v (Lam b x w) = (refl, refl)
sides v (App f a w) = (refl, refl)
sides v (BoxNode i o) = (refl, refl)
sides v (Door i o) = (refl, refl)
sides v (FixBox b x w) = (refl, refl)
sides v (Root w) = (refl, refl)
sides v (Pair a b w) = (refl, refl)
sides v (Proj s a w) = (refl, refl)

-- there are as many nodes
pub set_length : (i v : ℕ) (ns : List Node) → length (set_at i v ns) ≡ length ns
set_length i v [] = refl
set_length zero v (n ∷ ns) = refl
set_length (suc i) v (n ∷ ns) = ap suc (set_length i v ns)

module _ (side : Node → List ℕ) (same : (v : ℕ) (n : Node) → side (set_number v n) ≡ side n) where
  least_number : (k i v : ℕ) (ns : List Node) (w : ℕ) → number_of (least side k (set_at i v ns) w) ≡ number_of (least side k ns w)
  least_number k i v [] w = refl
  least_number k zero v (n ∷ ns) w =
      ap (λ l. number_of (cond (has l w) (Some (k, set_number v n)) (least side (suc k) ns w))) (same v n) ∙ go (has (side n) w)
    where
      go : (b : Bool) → number_of (cond b (Some (k, set_number v n)) (least side (suc k) ns w)) ≡
          number_of (cond b (Some (k, n)) (least side (suc k) ns w))
      go true = refl
      go false = refl
  least_number k (suc i) v (n ∷ ns) w = go (has (side n) w) (least_number (suc k) i v ns w)
    where
      go : (b : Bool) → number_of (least side (suc k) (set_at i v ns) w) ≡ number_of (least side (suc k) ns w) →
          number_of (cond b (Some (k, n)) (least side (suc k) (set_at i v ns) w)) ≡
          number_of (cond b (Some (k, n)) (least side (suc k) ns w))
      go true h = refl
      go false h = h

  indexes_same : (count i v : ℕ) (ns : List Node) (index : List (Option ℕ)) → Indexes side count 0 ns index →
      Indexes side count 0 (set_at i v ns) index
  indexes_same count i v ns index h = record {
    size = h.size;
    entry = λ w l. h.entry w l ∙ ap Some (sym (least_number 0 i v ns w));
  }

-- a net that keeps its indexes goes on keeping them
pub kept_numbered : (wires : List Wire) (ns : List Node) (above below : List (Option ℕ)) (i v : ℕ) → Kept wires ns above below →
    Kept wires (set_at i v ns) above below
kept_numbered wires ns above below i v h = record {
  few_wires = h.few_wires;
  few_nodes = subst (λ k. k < 2 ^ 32) (sym (set_length i v ns)) h.few_nodes;
  above_each = indexes_same conclusions (λ v n. (sides v n).1) (length wires) i v ns above h.above_each;
  below_each = indexes_same premises (λ v n. (sides v n).0) (length wires) i v ns below h.below_each;
}

-- one node of a number gets another number
pub set_there : (ns : List Node) (i v u w : ℕ) (d : Node) → get_or ns i d ≡ Const u w → i < length ns →
    set ns i (Const v w) ≡ set_at i v ns
set_there [] i v u w d e l = absurd (omega arith)
set_there (n ∷ ns) zero v u w d e l = ap (λ x. set_number v x ∷ ns) (sym e)
set_there (n ∷ ns) (suc i) v u w d e l = ap (λ xs. n ∷ xs) (set_there ns i v u w d e (omega arith))

-- and so it is where it is no number's
not_number : (v : ℕ) (n : Node) → ((x y : ℕ) → n ≡ Const x y → ⊥) → set_number v n ≡ n
not_number v (Const u w) h = absurd (h u w refl)
not_number v (Succ a w) h = refl
not_number v (Pred a w) h = refl
not_number v (Binary o a b w) h = refl
not_number v (Ifz c p q w) h = refl
not_number v (Der w x) h = refl
not_number v (Con l r w) h = refl
not_number v (Weak x) h = refl
not_number v (Lam b x w) h = refl
not_number v (App f a w) h = refl
not_number v (BoxNode i o) h = refl
not_number v (Door i o) h = refl
not_number v (FixBox b x w) h = refl
not_number v (Root w) h = refl
not_number v (Pair a b w) h = refl
not_number v (Proj s a w) h = refl

pub set_other : (ns : List Node) (i v : ℕ) (d : Node) → ((x y : ℕ) → get_or ns i d ≡ Const x y → ⊥) → set_at i v ns ≡ ns
set_other [] i v d h = refl
set_other (n ∷ ns) zero v d h = ap (λ x. x ∷ ns) (not_number v n h)
set_other (n ∷ ns) (suc i) v d h = ap (λ xs. n ∷ xs) (set_other ns i v d h)

-- past the list nothing changes
pub set_past : (ns : List Node) (i v : ℕ) → length ns ≤ i → set_at i v ns ≡ ns
set_past [] i v l = refl
set_past (n ∷ ns) zero v l = absurd (omega arith)
set_past (n ∷ ns) (suc i) v l = ap (λ xs. n ∷ xs) (set_past ns i v (omega arith))
