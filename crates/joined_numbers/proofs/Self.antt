-- A text is the same as itself.
use Rattle.std.proofs.Common.{◌≡◌, Bool, true, List, [], ◌∷◌, refl}
use Rattle.std.specs.Prelude.{◌&&◌, nat_eq}
use Rattle.std.proofs.lemmas.Bool.{eq-eqb, and_from}
use Rattle.pcf_values.specs.declared.val.Val.{Val}
use Rattle.pcf_values.specs.declared.val.Val.TheVariants.{Number, Overflow}
use Rattle.pcf_values.specs.declared.operator.Operator.{Operator}
use Rattle.pcf_values.specs.declared.operator.Operator.TheVariants.{Plus, Minus, Times}
use Rattle.net_rows.specs.Rows.{number}
use Rattle.joined_rows.specs.Open.{Term, named, a_star, a_left, a_right, a_pair, an_again, Mark, to_R, to_L, sign}
use Rattle.joined_rows.specs.Open.{Amount, some, known, more_than, less_than, both, Spot, Walker, asks, says}
use Rattle.joined_rows.specs.Ticks.{NamedHalf, waiting, left, NamedFork, Named}
use Rattle.joined_core.specs.Same.{all_same, same_channel, same_term, same_mark, same_val, same_operator, same_amount, same_spot}
use Rattle.joined_core.specs.Same.{same_walker, same_half, same_fork, same_named}

pub all_self : {A : Type 0} (f : A → A → Bool) → ((x : A) → f x x ≡ true) → (xs : List A) → all_same f xs xs ≡ true
all_self f h [] = refl
all_self f h (x ∷ xs) = and_from (f x x) (all_same f xs xs) (h x) (all_self f h xs)

pub term_self : (x : Term) → same_term x x ≡ true
term_self (named i) = eq-eqb i i refl
term_self a_star = refl
term_self (a_left x) = term_self x
term_self (a_right x) = term_self x
term_self (a_pair x y) = and_from (same_term x x) (same_term y y) (term_self x) (term_self y)
term_self (an_again x y) = and_from (same_term x x) (same_term y y) (term_self x) (term_self y)

mark_self : (x : Mark) → same_mark x x ≡ true
mark_self to_R = refl
mark_self to_L = refl
mark_self (sign x) = term_self x

val_self : (v : Val) → same_val v v ≡ true
val_self (Number n) = eq-eqb n n refl
val_self Overflow = refl

operator_self : (o : Operator) → same_operator o o ≡ true
operator_self Plus = refl
operator_self Minus = refl
operator_self Times = refl

amount_self : (a : Amount) → same_amount a a ≡ true
amount_self (some i) = eq-eqb i i refl
amount_self (known v) = val_self v
amount_self (more_than a) = amount_self a
amount_self (less_than a) = amount_self a
amount_self (both o a b) =
    and_from (same_operator o o) (same_amount a a && same_amount b b) (operator_self o)
    (and_from (same_amount a a) (same_amount b b) (amount_self a) (amount_self b))

spot_self : (s : Spot) → same_spot s s ≡ true
spot_self s =
    and_from (same_channel s.channel s.channel) (all_same same_mark s.work s.work && all_same same_term s.boxes s.boxes)
    (eq-eqb (number s.channel) (number s.channel) refl)
    (and_from (all_same same_mark s.work s.work) (all_same same_term s.boxes s.boxes) (all_self same_mark mark_self s.work)
    (all_self same_term term_self s.boxes))

walker_self : (x : Walker) → same_walker x x ≡ true
walker_self (asks s) = spot_self s
walker_self (says a s) = and_from (same_amount a a) (same_spot s s) (amount_self a) (spot_self s)

half_self : (h : NamedHalf) → same_half h h ≡ true
half_self (waiting q) = spot_self q
half_self (left a) = amount_self a

fork_self : (f : NamedFork) → same_fork f f ≡ true
fork_self f =
    and_from (nat_eq f.node f.node) (all_same same_term f.boxes f.boxes && same_half f.half f.half) (eq-eqb f.node f.node refl)
    (and_from (all_same same_term f.boxes f.boxes) (same_half f.half f.half) (all_self same_term term_self f.boxes) (half_self f.half))

pub named_self : (X : Named) → same_named X X ≡ true
named_self X =
    and_from (same_walker X.live X.live) (all_same same_fork X.forks X.forks) (walker_self X.live) (all_self same_fork fork_self X.forks)
