-- From what was looked at to soundness, and from a fault to unsoundness.
use Rattle.std.proofs.Common.{◌≡◌, ◌⊎◌, ℕ, zero, suc, ◌<◌, ◌≤◌, List, [], ◌∷◌, length, Some, refl, sym, ap, ◌∙◌, subst, inl, inr, arith}
use Rattle.std.specs.Prelude.{slice_get}
use Rattle.std.specs.Option.{unwrap_or}
use Rattle.std.proofs.lemmas.Bool.{cases_lt}
use Rattle.net_build.specs.declared.node.Node.{Node}
use Rattle.net_build.specs.Nets.{NetTree}
use Rattle.net_build.specs.Sound.{In, Sound, roots}
use Rattle.net_build.proofs.Entries.{in_at}
use Rattle.net_check.specs.declared.fault.NetFault.{NetFault}
use Rattle.net_check.specs.declared.fault.NetFault.TheVariants.{NoMemory, LooseWire, TypeClash, DepthClash, RootCount}
use Rattle.net_check.specs.Rows.{TypesMeet, DepthsMeet}
use Rattle.net_check.specs.Faults.{Held, MeetBelow, FirstFault, root_count, loose_wire, type_clash, depth_clash}
use Rattle.net_check.specs.Steps.{RowFault, IsFirstLoose, IsNodeFault, in_types, in_depths}
use Rattle.net_check.proofs.Meeting.{meets_both, meets_types, meets_depths}

place_of_in : (n : Node) (ns : List Node) → In n ns → (i : ℕ) × (i < length ns) × (slice_get ns i ≡ Some n)
place_of_in n [] h = elim h [ ]
place_of_in n (m ∷ ns) (inl e) = (zero, omega arith, ap Some (sym e))
place_of_in n (m ∷ ns) (inr h) = let (i, l, e) = place_of_in n ns h in (suc i, omega arith, e)

pub sound_of : (net : NetTree) → roots net.nodes ≡ 1 → ((n : ℕ) → Held net n) → MeetBelow net (length net.nodes) → Sound net
sound_of net r h m = record {
  one_root = r;
  outside = λ w l. (h w).1 l;
  once = λ w l. (h w).0 l;
  rows = λ n i. let (k, l, e) = place_of_in n net.nodes i in let b = m k n l e in meets_both net n b.0 b.1;
}

held_of : (net : NetTree) → Sound net → (n : ℕ) → Held net n
held_of net s n = (s.once n, s.outside n)

pub fault_unsound : (net : NetTree) (e : NetFault) → FirstFault net e → Sound net → ⊥
fault_unsound net _ (root_count r) s = r s.one_root
fault_unsound net _ (loose_wire n r m h) s = h (held_of net s n)
fault_unsound net _ (type_clash n node r h m e t) s = t (meets_types net node (s.rows node (in_at node net.nodes n e)))
fault_unsound net _ (depth_clash n node r h m e t d) s = d (meets_depths net node (s.rows node (in_at node net.nodes n e)))

pub row_fault_first : (net : NetTree) (e : NetFault) → roots net.nodes ≡ 1 → ((n : ℕ) → Held net n) → RowFault net e → FirstFault net e
row_fault_first net _ r h (in_types n node m e t) = type_clash n node r h m e t
row_fault_first net _ r h (in_depths n node m e t d) = depth_clash n node r h m e t d

pub roots_fault : (net : NetTree) (k : ℕ) → k ≡ roots net.nodes → (k ≡ 1 → ⊥) → FirstFault net (RootCount k)
roots_fault net k e n = subst (λ k. FirstFault net (RootCount k)) (sym e) (root_count (λ q. n (e ∙ q)))

pub loose_fault : (net : NetTree) (n : ℕ) → roots net.nodes ≡ 1 → IsFirstLoose net (Some n) → FirstFault net (LooseWire n)
loose_fault net n r h = loose_wire n r h.0 h.1

pub node_row_fault : (net : NetTree) (n : ℕ) (node : Node) (e : NetFault) → MeetBelow net n → slice_get net.nodes n ≡ Some node
    → IsNodeFault net n node (Some e) → RowFault net e
node_row_fault net n node (TypeClash m) b g f = subst (λ m. RowFault net (TypeClash m)) (sym f.0) (in_types n node b g f.1)
node_row_fault net n node (DepthClash m) b g f = subst (λ m. RowFault net (DepthClash m)) (sym f.0) (in_depths n node b g f.1 f.2)
node_row_fault net n node (LooseWire m) b g f = elim f [ ]
node_row_fault net n node (RootCount m) b g f = elim f [ ]
node_row_fault net n node NoMemory b g f = elim f [ ]

-- what the least of two numbers leaves no room for
least_is : (P : ℕ → Type 0) (n m : ℕ) → ((k : ℕ) → k < n → P k) → ¬ P n → ((k : ℕ) → k < m → P k) → ¬ P m → n ≡ m
least_is P n m a b c d = go (cases_lt n m) (cases_lt m n)
  where
    go : (n < m) ⊎ (m ≤ n) → (m < n) ⊎ (n ≤ m) → n ≡ m
    go (inl l) k = absurd (b (c n l))
    go (inr l) (inl k) = absurd (d (a m k))
    go (inr l) (inr k) = omega arith

row_place : (net : NetTree) (n m : ℕ) (a b : Node) → MeetBelow net n → slice_get net.nodes n ≡ Some a
    → ¬ (TypesMeet net a × DepthsMeet net a) → MeetBelow net m → slice_get net.nodes m ≡ Some b → ¬ (TypesMeet net b × DepthsMeet net b)
    → n ≡ m
row_place net n m a b p e x q f y = go (cases_lt n m) (cases_lt m n)
  where
    go : (n < m) ⊎ (m ≤ n) → (m < n) ⊎ (n ≤ m) → n ≡ m
    go (inl l) k = absurd (x (q n a l e))
    go (inr l) (inl k) = absurd (y (p m b k f))
    go (inr l) (inr k) = omega arith

row_node : (net : NetTree) (n m : ℕ) (a b : Node) → n ≡ m → slice_get net.nodes n ≡ Some a → slice_get net.nodes m ≡ Some b → a ≡ b
row_node net n m a b q e f = let p : Some a ≡ Some b = sym e ∙ ap (slice_get net.nodes) q ∙ f in ap (λ o. unwrap_or o a) p

-- a net has one first fault
pub one_fault : (net : NetTree) (e f : NetFault) → FirstFault net e → FirstFault net f → e ≡ f
one_fault net _ _ (root_count r) (root_count r') = refl
one_fault net _ _ (root_count r) (loose_wire m r' a b) = absurd (r r')
one_fault net _ _ (root_count r) (type_clash m node r' h p e t) = absurd (r r')
one_fault net _ _ (root_count r) (depth_clash m node r' h p e t d) = absurd (r r')
one_fault net _ _ (loose_wire n r a b) (root_count r') = absurd (r' r)
one_fault net _ _ (loose_wire n r a b) (loose_wire m r' a' b') = ap LooseWire (least_is (Held net) n m a b a' b')
one_fault net _ _ (loose_wire n r a b) (type_clash m node r' h p e t) = absurd (b (h n))
one_fault net _ _ (loose_wire n r a b) (depth_clash m node r' h p e t d) = absurd (b (h n))
one_fault net _ _ (type_clash n node r h p e t) (root_count r') = absurd (r' r)
one_fault net _ _ (type_clash n node r h p e t) (loose_wire m r' a b) = absurd (b (h m))
one_fault net _ _ (type_clash n node r h p e t) (type_clash m node' r' h' p' e' t') =
    ap TypeClash (row_place net n m node node' p e (λ x. t x.0) p' e' (λ x. t' x.0))
one_fault net _ _ (type_clash n node r h p e t) (depth_clash m node' r' h' p' e' t' d') =
    let q = row_place net n m node node' p e (λ x. t x.0) p' e' (λ x. d' x.1) in
    absurd (t (subst (TypesMeet net) (sym (row_node net n m node node' q e e')) t'))
one_fault net _ _ (depth_clash n node r h p e t d) (root_count r') = absurd (r' r)
one_fault net _ _ (depth_clash n node r h p e t d) (loose_wire m r' a b) = absurd (b (h m))
one_fault net _ _ (depth_clash n node r h p e t d) (type_clash m node' r' h' p' e' t') =
    let q = row_place net n m node node' p e (λ x. d x.1) p' e' (λ x. t' x.0) in
    absurd (t' (subst (TypesMeet net) (row_node net n m node node' q e e') t))
one_fault net _ _ (depth_clash n node r h p e t d) (depth_clash m node' r' h' p' e' t' d') =
    ap DepthClash (row_place net n m node node' p e (λ x. d x.1) p' e' (λ x. d' x.1))
