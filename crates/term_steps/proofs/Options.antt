-- What was asked of a step that there is, and what a step does where its part moves.
use Rattle.std.proofs.Common.{◌≡◌, ◌⊎◌, ℕ, Option, Some, None, refl, ap, sym, subst, ◌∙◌, inl, inr}
use Rattle.std.specs.Option.{option_map}
use Rattle.pcf_values.specs.declared.val.Val.{Val}
use Rattle.pcf_values.specs.declared.val.Val.TheVariants.{Number, Overflow}
use Rattle.pcf_values.specs.Values.{val_succ}
use Rattle.pcf_values.specs.Terms.{TermTree, num, succ_of, pred_of, lam, app, pair, proj}
use Rattle.pcf_values.specs.declared.side.Side.{Side}
use Rattle.term_steps.specs.Steps.{spelled, spell, step, on_term}
use Rattle.term_steps.specs.Spelled.{past, on_spelled}

pub from_map : {A : Type 0} (f : A → A) (o : Option A) (n : A) → option_map f o ≡ Some n → (b : A) × (o ≡ Some b) × (f b ≡ n)
from_map f None n h = cc
from_map f (Some b) n h = (b, refl, cc)

pub from_spelled : {A : Type 0} (o : Option Val) (f : Val → Option A) (p : Option A) (n : A) → on_spelled o f p ≡ Some n →
    ((v : Val) × (o ≡ Some v) × (f v ≡ Some n)) ⊎ ((o ≡ None) × (p ≡ Some n))
from_spelled None f p n h = inr (refl, h)
from_spelled (Some v) f p n h = inl (v, refl, h)

pub from_term : (o : Option TermTree) (f : TermTree → Option TermTree) (n : TermTree) → on_term o f ≡ Some n → (m : TermTree) ×
    (o ≡ Some m) × (f m ≡ Some n)
from_term None f n h = cc
from_term (Some m) f n h = (m, refl, h)

past_is : (w v : Val) → past w ≡ Some v → w ≡ v
past_is (Number n) v h = cc
past_is Overflow v h = cc

past_none : (w : Val) → past w ≡ None → (n : ℕ) × (w ≡ Number n)
past_none (Number n) h = (n, refl)
past_none Overflow h = cc

-- a number is spelled by itself alone
pub spelled_number : (a : TermTree) (n : ℕ) → spelled a ≡ Some (Number n) → a ≡ num n
spelled_number (num k) n h = cc
spelled_number (succ_of (num k)) n h = let e = past_is (val_succ (Number k)) (Number n) h in
    let z : past (Number n) ≡ Some (Number n) = subst (λ w. past w ≡ Some (Number n)) e h in cc
spelled_number _ n h = cc

-- and overflow by the next of a number
pub spelled_overflow : (a : TermTree) → spelled a ≡ Some Overflow → (k : ℕ) × (a ≡ succ_of (num k)) × (val_succ (Number k) ≡ Overflow)
spelled_overflow (num k) h = cc
spelled_overflow (succ_of (num k)) h = (k, refl, past_is (val_succ (Number k)) Overflow h)
spelled_overflow _ h = cc

pub spelled_spell : (v : Val) → spelled (spell v) ≡ Some v
spelled_spell (Number n) = refl
spelled_spell Overflow = refl

-- where the next is spelled as well, it is the next value
pub spelled_next : (a : TermTree) (v w : Val) → spelled a ≡ Some v → spelled (succ_of a) ≡ Some w → val_succ v ≡ w
spelled_next (num n) v w h g =
    let e : Number n ≡ v = cc in ap val_succ (sym e) ∙ past_is (val_succ (Number n)) w g
spelled_next _ v w h g = cc

-- and where it isn't, the next of a number is a number
pub next_number : (n : ℕ) → spelled (succ_of (num n)) ≡ None → (k : ℕ) × (val_succ (Number n) ≡ Number k)
next_number n h = past_none (val_succ (Number n)) h

-- what spells a value stays
pub spelled_stays : (a : TermTree) (v : Val) → spelled a ≡ Some v → step a ≡ None
spelled_stays (num n) v h = refl
spelled_stays (succ_of a) v h = rw h refl
spelled_stays _ v h = cc

-- so what moves spells nothing, and neither does its next
pub moving_unspelled : (a n : TermTree) → step a ≡ Some n → spelled a ≡ None
moving_unspelled a n h = go (spelled a) refl
  where
    go : (o : Option Val) → spelled a ≡ o → spelled a ≡ None
    go None e = e
    go (Some v) e = let z = spelled_stays a v e in cc

pub moving_next : (a n : TermTree) → step a ≡ Some n → spelled (succ_of a) ≡ None
moving_next (num k) n h = cc
moving_next _ n h = refl

-- the step of a whole whose part moves
pub succ_moves : (a n : TermTree) → step a ≡ Some n → step (succ_of a) ≡ Some (succ_of n)
succ_moves a n h = rw (moving_next a n h, moving_unspelled a n h, h) refl

pub pred_moves : (a n : TermTree) → step a ≡ Some n → step (pred_of a) ≡ Some (pred_of n)
pred_moves a n h = rw (moving_unspelled a n h, h) refl

pub app_moves : (f x n : TermTree) → step f ≡ Some n → step (app f x) ≡ Some (app n x)
app_moves (lam a m) x n h = cc
app_moves f x n h = ap (option_map (λ g. app g x)) h

pub proj_moves : (s : Side) (a n : TermTree) → step a ≡ Some n → step (proj s a) ≡ Some (proj s n)
proj_moves s (pair a b) n h = cc
proj_moves s a n h = ap (option_map (λ b. proj s b)) h
