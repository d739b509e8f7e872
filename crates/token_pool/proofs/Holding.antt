-- The list of what workers hold, and what it is after a change at one place.
use Rattle.std.proofs.Common.{◌≡◌, ◌⊎◌, ℕ, zero, suc, ◌+◌, ◌<◌, ◌≤◌, Bool, true, false, ◌||◌, List, []}
use Rattle.std.proofs.Common.{◌∷◌, length, set, replicate, slice_get, nat_eq, Option, Some, None, refl, sym, ap, ◌∙◌, inl, inr}
use Rattle.std.proofs.Common.{⊎_elim, arith}
use Rattle.std.proofs.lemmas.Bool.{eq-eqb, eqb-true}
use Rattle.token_pool.specs.declared.entries.Held.{Held}
use Rattle.token_pool.specs.Pools.{Holds, allowance_of, allowances}
use Rattle.token_pool.specs.Turns.{has_ticket, is_held, none_held}

pub at_place : (held : List (Option Held)) (w : ℕ) (o : Option Held) → w < length held → slice_get (set held w o) w ≡ Some o
at_place [] w o l = absurd (omega arith)
at_place (x ∷ xs) zero o l = refl
at_place (x ∷ xs) (suc w) o l = at_place xs w o (omega arith)

-- what a place holds afterwards is what was put there, or what another place held before
pub held_after_set : (held : List (Option Held)) (w v : ℕ) (o : Option Held) (g : Held) → Holds (set held w o) v g →
    ((v ≡ w) × (o ≡ Some g)) ⊎ ((v ≡ w → ⊥) × Holds held v g)
held_after_set [] w v o g h = absurd cc
held_after_set (x ∷ xs) zero zero o g h = inl (refl, cc)
held_after_set (x ∷ xs) zero (suc v) o g h = inr ((λ e. omega arith), h)
held_after_set (x ∷ xs) (suc w) zero o g h = inr ((λ e. omega arith), h)
held_after_set (x ∷ xs) (suc w) (suc v) o g h =
    ⊎_elim (λ p. inl (ap suc p.0, p.1)) (λ p. inr ((λ e. p.0 (omega arith)), p.1)) (held_after_set xs w v o g h)

pub set_same : (held : List (Option Held)) (w : ℕ) (o : Option Held) → slice_get held w ≡ Some o → set held w o ≡ held
set_same [] w o h = refl
set_same (x ∷ xs) zero o h = let e : x ≡ o = cc in ap (λ y. y ∷ xs) (sym e)
set_same (x ∷ xs) (suc w) o h = ap (λ ys. x ∷ ys) (set_same xs w o h)

-- the sum changes by what is put in the place of what was there
pub sum_after_set : (held : List (Option Held)) (w : ℕ) (a o : Option Held) → slice_get held w ≡ Some a →
    allowances (set held w o) + allowance_of a ≡ allowances held + allowance_of o
sum_after_set [] w a o h = absurd cc
sum_after_set (x ∷ xs) zero a o h = let e : x ≡ a = cc in let s = ap allowance_of e in omega (arith, s)
sum_after_set (x ∷ xs) (suc w) a o h = let ih = sum_after_set xs w a o h in omega (arith, ih)

-- one worker's allowance is part of the sum
pub in_sum : (held : List (Option Held)) (w : ℕ) (h : Held) → Holds held w h → h.allowance ≤ allowances held
in_sum [] w g h = absurd cc
in_sum (x ∷ xs) zero g h = let e : x ≡ Some g = cc in let s = ap allowance_of e in omega (arith, s)
in_sum (x ∷ xs) (suc w) g h = let ih = in_sum xs w g h in omega (arith, ih)

pub held_is : (held : List (Option Held)) (w : ℕ) (h : Held) → Holds held w h → is_held held h.ticket ≡ true
held_is [] w g h = absurd cc
held_is (x ∷ xs) zero g h = let e : x ≡ Some g = cc in ap (λ o. has_ticket g.ticket o || is_held xs g.ticket) e ∙
    ap (λ b. b || is_held xs g.ticket) (eq-eqb g.ticket g.ticket refl)
held_is (x ∷ xs) (suc w) g h = go (has_ticket g.ticket x) (held_is xs w g h)
  where
    go : (b : Bool) {c : Bool} → c ≡ true → (b || c) ≡ true
    go true e = refl
    go false e = e

-- what is not held is held nowhere
pub not_held : (held : List (Option Held)) (i : ℕ) → is_held held i ≡ false → (w : ℕ) (h : Held) → Holds held w h →
    h.ticket ≡ i → ⊥
not_held held i f w h at e = let t = held_is held w h at in let f' = ap (is_held held) e ∙ f in absurd cc

-- nobody holds anything, or somebody does
pub some_held : (held : List (Option Held)) → none_held held ≡ false → (v : ℕ) × (h : Held) × Holds held v h
some_held [] e = absurd cc
some_held (None ∷ held) e = let (v, h, at) = some_held held e in (suc v, h, at)
some_held (Some h ∷ held) e = (0, h, refl)

pub none_is : (held : List (Option Held)) → none_held held ≡ true → (i : ℕ) → is_held held i ≡ false
none_is [] e i = refl
none_is (None ∷ held) e i = none_is held e i
none_is (Some h ∷ held) e i = absurd cc

-- the only worker holds nothing
pub none_alone : (held : List (Option Held)) (w : ℕ) → length held ≡ 1 → w < 1 → slice_get held w ≡ Some None → (i : ℕ) →
    is_held held i ≡ false
none_alone [] w l s h i = absurd cc
none_alone (x ∷ []) zero l s h i = let e : x ≡ None = cc in ap (λ o. has_ticket i o || false) e
none_alone (x ∷ []) (suc w) l s h i = absurd (omega arith)
none_alone (x ∷ y ∷ xs) w l s h i = absurd (omega arith)

-- a list in which nobody holds anything
pub nobody : (n w : ℕ) (h : Held) → Holds (replicate n None) w h → ⊥
nobody zero w h at = absurd cc
nobody (suc n) zero h at = absurd cc
nobody (suc n) (suc w) h at = nobody n w h at

pub no_sum : (n : ℕ) → allowances (replicate n None) ≡ 0
no_sum zero = refl
no_sum (suc n) = let ih = no_sum n in omega (arith, ih)

pub none_aside : (held : List (Option Held)) → none_held held ≡ true → allowances held ≡ 0
none_aside [] e = refl
none_aside (None ∷ held) e = let ih = none_aside held e in omega (arith, ih)
none_aside (Some h ∷ held) e = absurd cc

-- a ticket that is held is held by some worker
pub some_holder : (held : List (Option Held)) (i : ℕ) → is_held held i ≡ true → (w : ℕ) × (h : Held) × Holds held w h ×
    (h.ticket ≡ i)
some_holder [] i e = absurd cc
some_holder (None ∷ held) i e = let (w, h, at, t) = some_holder held i e in (suc w, h, at, t)
some_holder (Some g ∷ held) i e = go (nat_eq g.ticket i) refl (some_holder held i) e
  where
    go : (b : Bool) → nat_eq g.ticket i ≡ b → (is_held held i ≡ true → (w : ℕ) × (h : Held) × Holds held w h ×
        (h.ticket ≡ i)) → (b || is_held held i) ≡ true → (w : ℕ) × (h : Held) × Holds (Some g ∷ held) w h × (h.ticket ≡ i)
    go true q ih e = (0, g, refl, eqb-true g.ticket i q)
    go false q ih e = let (w, h, at, t) = ih e in (suc w, h, at, t)
