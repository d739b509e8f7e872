-- One node more in front of an indexed list.
use Rattle.std.proofs.Common.{◌≡◌, ◌⊎◌, ℕ, suc, ◌<◌, List, [], ◌∷◌, length, Option, Some, None, Bool, true, false, refl, ap, ◌∙◌, inl, inr}
use Rattle.std.proofs.Common.{replicate, drop, get_or, arith}
use Rattle.std.proofs.Math.Seq.{drop-length, drop-cons}
use Rattle.std.proofs.lemmas.List.{length-replicate, length-set}
use Rattle.std.specs.Prelude.{slice_get, slice_set, if◌then◌else◌}
use Rattle.std.proofs.lemmas.Bool.{cases_eq, eq-eqb, ne_eqb}
use Rattle.net_build.specs.declared.node.Node.{Node}
use Rattle.net_build.specs.Faces.{has, least}
use Rattle.net_build.specs.Found.{number_of}
use Rattle.net_build.specs.Index.{Indexes, marked}
use Rattle.net_build.proofs.Entries.{get_set_same, get_set_other, get_replicate}

-- as many entries as before
marked_length : (k : ℕ) (ws : List ℕ) (index : List (Option ℕ)) → length (marked k ws index) ≡ length index
marked_length k [] index = refl
marked_length k (w ∷ ws) index = marked_length k ws (slice_set index w (Some k)) ∙ length-set index w (Some k)

-- an entry that is k stays k
marked_kept : (k : ℕ) (ws : List ℕ) (index : List (Option ℕ)) (w : ℕ) → slice_get index w ≡ Some (Some k) → w < length index
    → slice_get (marked k ws index) w ≡ Some (Some k)
marked_kept k [] index w h l = h
marked_kept k (x ∷ ws) index w h l =
    marked_kept k ws (slice_set index x (Some k)) w (go (cases_eq x w)) (rw (length-set index x (Some k)) l)
  where
    go : (x ≡ w) ⊎ (x ≡ w → ⊥) → slice_get (slice_set index x (Some k)) w ≡ Some (Some k)
    go (inl e) = rw e (get_set_same index w (Some k) l)
    go (inr e) = get_set_other index x w (Some k) e ∙ h

-- what is found at a wire then
marked_at : (k : ℕ) (ws : List ℕ) (index : List (Option ℕ)) (w : ℕ) → w < length index
    → slice_get (marked k ws index) w ≡ (if has ws w then Some (Some k) else slice_get index w)
marked_at k [] index w l = refl
marked_at k (x ∷ ws) index w l = go (cases_eq x w) (marked_at k ws (slice_set index x (Some k)) w)
  where
    go : (x ≡ w) ⊎ (x ≡ w → ⊥)
        → (w < length (slice_set index x (Some k)) → slice_get (marked k ws (slice_set index x (Some k))) w ≡
        (if has ws w then Some (Some k) else slice_get (slice_set index x (Some k)) w)) →
        slice_get (marked k (x ∷ ws) index) w ≡ (if has (x ∷ ws) w then Some (Some k) else slice_get index w)
    go (inl e) ih = rw (eq-eqb x w e)
        (marked_kept k ws (slice_set index x (Some k)) w (rw e (get_set_same index w (Some k) l)) (rw (length-set index x (Some k)) l))
    go (inr e) ih = rw (ne_eqb x w e)
        (ih (rw (length-set index x (Some k)) l) ∙ ap (λ o. if has ws w then Some (Some k) else o) (get_set_other index x w (Some k) e))

-- one node more in front
pub indexes_more : (side : Node → List ℕ) (count k : ℕ) (n : Node) (ns : List Node) (index : List (Option ℕ))
    → Indexes side count (suc k) ns index → Indexes side count k (n ∷ ns) (marked k (side n) index)
indexes_more side count k n ns index h = record {
  size = marked_length k (side n) index ∙ h.size;
  entry = λ w l. marked_at k (side n) index w (omega (arith, h.size)) ∙ go w (has (side n) w) (h.entry w l);
}
  where
    go : (w : ℕ) (b : Bool) → slice_get index w ≡ Some (number_of (least side (suc k) ns w)) →
        (if b then Some (Some k) else slice_get index w) ≡ Some (number_of (if b then Some (k, n) else least side (suc k) ns w))
    go w true e = refl
    go w false e = e

-- no node yet
pub indexes_none : (side : Node → List ℕ) (count : ℕ) (nodes : List Node) (index : List (Option ℕ)) → index ≡ replicate count None
    → Indexes side count (length nodes) (drop (length nodes) nodes) index
indexes_none side count nodes index e =
    rw (e, drop-length nodes) (record { size = length-replicate count None; entry = λ w h. get_replicate count w None h })

-- the node before the ones that are indexed
pub indexes_next : (side : Node → List ℕ) (count m : ℕ) (d : Node) (nodes : List Node) (old new : List (Option ℕ)) → m < length nodes
    → Indexes side count (suc m) (drop (suc m) nodes) old →
    new ≡ marked m (side (get_or nodes m d)) old → Indexes side count m (drop m nodes) new
indexes_next side count m d nodes old new l h e =
    rw (e, drop-cons nodes m d l) (indexes_more side count m (get_or nodes m d) (drop (suc m) nodes) old h)
