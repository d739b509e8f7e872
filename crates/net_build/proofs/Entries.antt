-- The entries of a list, after one is written, and of a list of equals: what std has of `get_or`, said of `slice_get`.
use Rattle.std.proofs.Common.{◌≡◌, ℕ, zero, suc, ◌<◌, List, [], ◌∷◌, length, Some, refl, ap, ◌∙◌, replicate, arith, inl, inr}
use Rattle.std.specs.Prelude.{slice_get, slice_set}
use Rattle.std.proofs.lemmas.List.{get_or-set_same, get_or-replicate, length-set, length-replicate}
use Rattle.std.proofs.lemmas.Option.{slice_get-get_or}
use Rattle.net_build.specs.declared.node.Node.{Node}
use Rattle.net_build.specs.Sound.{In}

-- the entry that was written
pub get_set_same : {A : Type 0} (xs : List A) (i : ℕ) (x : A) → i < length xs → slice_get (slice_set xs i x) i ≡ Some x
get_set_same xs i x h = slice_get-get_or (slice_set xs i x) i x (omega (arith, h, length-set xs i x)) ∙ ap Some (get_or-set_same xs i x x h)

-- the other entries stay
pub get_set_other : {A : Type 0} (xs : List A) (i j : ℕ) (x : A) → (i ≡ j → ⊥) → slice_get (slice_set xs i x) j ≡ slice_get xs j
get_set_other [] i j x h = refl
get_set_other (y ∷ xs) zero zero x h = absurd (h refl)
get_set_other (y ∷ xs) zero (suc j) x h = refl
get_set_other (y ∷ xs) (suc i) zero x h = refl
get_set_other (y ∷ xs) (suc i) (suc j) x h = get_set_other xs i j x (λ e. h (ap suc e))

-- a node that stands in a list is one of it
pub in_at : (n : Node) (ns : List Node) (i : ℕ) → slice_get ns i ≡ Some n → In n ns
in_at n [] i h = absurd cc
in_at n (m ∷ ns) zero h = inl cc
in_at n (m ∷ ns) (suc i) h = inr (in_at n ns i h)

-- an entry of a list of equals
pub get_replicate : {A : Type 0} (n w : ℕ) (x : A) → w < n → slice_get (replicate n x) w ≡ Some x
get_replicate n w x h = slice_get-get_or (replicate n x) w x (omega (arith, h, length-replicate n x)) ∙ ap Some (get_or-replicate n w x x h)
