-- Loose wires as a list that is aligned with the context.
use Rattle.std.proofs.Common.{◌≡◌, ℕ, zero, suc, List, [], ◌∷◌, length, reverse, None, take, get_or, ◌≤◌, refl, sym, ap, ◌∙◌, arith, map}
use Rattle.std.proofs.Math.Seq.{take-suc, take-length}
use Rattle.std.proofs.lemmas.Option.{slice_get-map, slice_get-get_or}
use Rattle.std.specs.Option.{option_map}
use Rattle.std.proofs.lemmas.List.{length-map, length-reverse, reverse-append}
use Rattle.pcf_values.specs.declared.ty.Ty.{Ty}
use Rattle.pcf_values.specs.declared.ty.Ty.TheVariants.{Nat}
use Rattle.pcf_values.specs.Terms.{TyTree}
use Rattle.pcf_values.specs.Views.{ty_of}
use Rattle.net_build.specs.declared.parts.Loose.{Loose}
use Rattle.net_build.specs.NetOf.{none_free, type_or_nat}
use Rattle.net_build.specs.Building.{context_of, spread, Spreads}
use Rattle.net_build.proofs.Merging.{type_at, levels}

pub context_length : (c : List Ty) → length (context_of c) ≡ length c
context_length c = length-map (reverse c) ty_of ∙ length-reverse c

pub spread_none : (k : ℕ) (g : List TyTree) → length g ≡ k → spread k [] ≡ none_free g
spread_none zero [] h = refl
spread_none zero (t ∷ g) h = absurd (omega arith)
spread_none (suc k) [] h = absurd (omega arith)
spread_none (suc k) (t ∷ g) h = ap (λ f. None ∷ f) (spread_none k g (omega arith))

pub none_spreads : (c : List Ty) (us : List Loose) → us ≡ [] → Spreads (length c) (none_free (context_of c)) us
none_spreads c us e = rw e (record { spreads = spread_none (length c) (context_of c) (context_length c); falling = tt })

-- the context as levels
levels_take : (c : List Ty) (k : ℕ) → k ≤ length c → map ty_of (reverse (take k c)) ≡ levels k (map ty_of c)
levels_take c zero h = refl
levels_take c (suc k) h =
    let e : reverse (take (suc k) c) ≡ get_or c k Nat ∷ reverse (take k c) =
    ap reverse (take-suc c k Nat (omega arith)) ∙ reverse-append (take k c) (get_or c k Nat ∷ []) in
    let g : type_at (map ty_of c) k ≡ ty_of (get_or c k Nat) =
    ap type_or_nat (slice_get-map ty_of c k ∙ ap (option_map ty_of) (slice_get-get_or c k Nat (omega arith))) in
    ap (map ty_of) e ∙ ap (λ t. t ∷ map ty_of (reverse (take k c))) (sym g)
    ∙ ap (λ l. type_at (map ty_of c) k ∷ l) (levels_take c k (omega arith))

pub context_levels : (c : List Ty) → context_of c ≡ levels (length c) (map ty_of c)
context_levels c = ap (λ l. map ty_of (reverse l)) (sym (take-length c)) ∙ levels_take c (length c) (omega arith)
