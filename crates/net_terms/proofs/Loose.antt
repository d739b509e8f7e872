-- Which wires a part's variables have: each once, and all of them among the part's own.
use Rattle.std.proofs.Common.{◌≡◌, ℕ, suc, ◌+◌, ◌<◌, ◌≤◌, List, [], ◌∷◌, length, Option, Some, None, refl, ap, inl, inr, arith}
use Rattle.std.specs.Prelude.{if◌then◌else◌}
use Rattle.std.proofs.lemmas.Bool.{ne_eqb, cases_eq, cases_lt}
use Rattle.pcf_values.specs.Terms.{TyTree, TermTree}
use Rattle.pcf_values.specs.Typing.{HasType}
use Rattle.net_build.specs.Nets.{WireTree}
use Rattle.net_build.specs.NetOf.{contract, doors, bound, bound_wire, part}
use Rattle.net_build.proofs.Count.{ends, made, Aligned, contract_counted, counted}
use Rattle.net_build.proofs.Built.{made_past, made_before}
use Rattle.net_terms.proofs.Marking.{hit, hit_same, inside}

-- other wires don't count
pub hit_off : (x y : ℕ) → (x ≡ y → ⊥) → hit x y ≡ 0
hit_off x y h = ap (λ b. if b then 1 else 0) (ne_eqb x y h)

-- a wire counts once at most
pub hit_most : (x y : ℕ) → hit x y ≤ 1
hit_most x y = elim (cases_eq x y) [ inl e ↦ omega (arith, ap (hit x) e, hit_same x) | inr e ↦ omega (arith, hit_off x y e) ]

-- each new wire is one
pub made_once : (n : ℕ) (ws : List WireTree) (w : ℕ) → made n ws w ≤ 1
made_once n [] w = omega arith
made_once n (k ∷ ks) w =
    elim (cases_eq n w) [
      | inl e ↦ omega (arith, hit_most n w, made_before (suc n) ks w (omega (arith, e)))
      | inr e ↦ omega
          (arith, hit_off n w e, made_once (suc n) ks w)
    ]

-- each wire of the list stands in it once, and they are all from n on and below b
pub record Loose (n b : ℕ) (f : List (Option ℕ)) : Type 0 where
  pub once : (y : ℕ) → ends f y ≤ 1
  pub low : (y : ℕ) → y < n → ends f y ≡ 0
  pub high : (y : ℕ) → b ≤ y → ends f y ≡ 0

-- the variables of a part
pub part_loose : (m : TermTree) (n d : ℕ) (g : List TyTree) (a : TyTree) → HasType g m a
    → Loose n (n + length (part n d g m).wires) (part n d g m).free
part_loose m n d g a h =
    let p = part n d g m in
    let c = counted m n d g a h in
    record {
      once = λ y. omega (arith, c.downs y, made_once n p.wires y);
      low = λ y l. omega (arith, c.downs y, made_before n p.wires y l);
      high = λ y l. omega (arith, c.downs y, made_past n p.wires y l);
    }

-- the variables behind doors
pub doors_loose : (n d : ℕ) (g : List TyTree) (f : List (Option ℕ)) → Loose n (n + length (doors n d g f).wires) (doors n d g f).free
doors_loose n d [] f = record { once = λ y. omega arith; low = λ y l. refl; high = λ y l. refl }
doors_loose n d (t ∷ g) [] = record { once = λ y. omega arith; low = λ y l. refl; high = λ y l. refl }
doors_loose n d (t ∷ g) (None ∷ f) = let i = doors_loose n d g f in record { once = i.once; low = i.low; high = i.high }
doors_loose n d (t ∷ g) (Some x ∷ f) =
    let i = doors_loose (suc n) d g f in
    record {
      once = λ y. elim (cases_eq n y) [
        | inl e ↦ omega (arith, hit_most n y, i.low y (omega (arith, e)))
        | inr e ↦ omega
            (arith, hit_off n y e, i.once y)
      ];
      low = λ y l. omega (arith, hit_off n y (λ e. omega (arith, e, l)), i.low y (omega (arith, l)));
      high = λ y l. omega (arith, hit_off n y (λ e. omega (arith, e, l)), i.high y (omega (arith, l)));
    }

-- contracted lists, the second behind the first
pub contract_loose : (n d a b : ℕ) (g : List TyTree) (f f' : List (Option ℕ)) → Aligned g f → Aligned g f' → Loose a b f → Loose b n f'
    → a ≤ b → b ≤ n → Loose a (n + length (contract n d g f f').wires) (contract n d g f f').free
contract_loose n d a b g f f' aligned aligned' first second low high =
    let c = contract_counted n d g f f' aligned aligned' in
    let ws = (contract n d g f f').wires in
    record {
      once = λ y. elim (cases_lt y n) [
        | inl k ↦ elim (cases_lt y b) [
          | inl j ↦ omega (arith, c.downs y, made_before n ws y k, first.once y, second.low y j)
          | inr j ↦ omega
              (arith, c.downs y, made_before n ws y k, second.once y, first.high y j)
        ]
        | inr k ↦ omega (arith, c.downs y, made_once n ws y, first.high y (omega (arith, high, k)), second.high y k)
      ];
      low = λ y k. omega (
        arith,
        c.downs y,
        made_before n ws y (omega (arith, k, low, high)),
        first.low y k,
        second.low y (omega (arith, k, low)),
      );
      high = λ y k. omega (arith, c.downs y, made_past n ws y k, first.high y (omega (arith, k, high)), second.high y (omega (arith, k)));
    }

-- both lists together
pub both_once : (a b c : ℕ) (f f' : List (Option ℕ)) → Loose a b f → Loose b c f' → (y : ℕ) → ends f y + ends f' y ≤ 1
both_once a b c f f' l l' y =
    elim (cases_lt y b) [ inl j ↦ omega (arith, l.once y, l'.low y j) | inr j ↦ omega (arith, l'.once y, l.high y j) ]

-- and none is past the end
pub both_high : (a b c n : ℕ) (f f' : List (Option ℕ)) → Loose a b f → Loose b c f' → b ≤ n → c ≤ n → (y : ℕ) → n ≤ y
    → ends f y + ends f' y ≡ 0
both_high a b c n f f' l l' u v y k = omega (arith, l.high y (omega (arith, u, k)), l'.high y (omega (arith, v, k)))

-- a binder's wire, and the other variables' wires
pub bound_once : (n m d : ℕ) (t : TyTree) (f : List (Option ℕ)) → Loose n m f → (y : ℕ)
    → hit (bound_wire m f) y + ends (bound m d t f).free y ≤ 1
bound_once n m d t [] l y = omega (arith, hit_most m y)
bound_once n m d t (None ∷ f) l y =
    elim (cases_eq m y) [
      | inl e ↦ omega (arith, hit_most m y, l.high y (omega (arith, e)))
      | inr e ↦ omega
          (arith, hit_off m y e, l.once y)
    ]
bound_once n m d t (Some x ∷ f) l y = l.once y

-- a binder's wire is among the part's own
pub bound_inside : (n m d : ℕ) (t : TyTree) (f : List (Option ℕ)) → Loose n m f → bound_wire m f < m + length (bound m d t f).wires
bound_inside n m d t [] l = omega arith
bound_inside n m d t (None ∷ f) l = omega arith
bound_inside n m d t (Some x ∷ f) l = let i = inside x m (ends (Some x ∷ f) x) (l.high x) (omega (arith, hit_same x)) in omega (arith, i)

-- and not before them
pub bound_low : (n m : ℕ) (f : List (Option ℕ)) → Loose n m f → n ≤ m → (y : ℕ) → y < n → hit (bound_wire m f) y ≡ 0
bound_low n m [] l u y k = hit_off m y (λ e. omega (arith, e, u, k))
bound_low n m (None ∷ f) l u y k = hit_off m y (λ e. omega (arith, e, u, k))
bound_low n m (Some x ∷ f) l u y k = omega (arith, l.low y k)

-- the other variables, without the binder's
pub bound_loose : (n m d : ℕ) (t : TyTree) (f : List (Option ℕ)) → Loose n m f → Loose n m (bound m d t f).free
bound_loose n m d t [] l = record { once = λ y. omega arith; low = λ y k. refl; high = λ y k. refl }
bound_loose n m d t (None ∷ f) l = record { once = λ y. l.once y; low = λ y k. l.low y k; high = λ y k. l.high y k }
bound_loose n m d t (Some x ∷ f) l = record {
  once = λ y. omega (arith, l.once y);
  low = λ y k. omega (arith, l.low y k);
  high = λ y k. omega (arith, l.high y k);
}
