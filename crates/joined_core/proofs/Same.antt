-- Texts that a check finds the same are one.
use Rattle.std.proofs.Common.{◌≡◌, ℕ, ◌*◌, ◌+◌, Bool, true, false, List, [], ◌∷◌, refl, ap, ◌∙◌, arith}
use Rattle.std.specs.Prelude.{◌&&◌, nat_eq}
use Rattle.std.proofs.lemmas.Bool.{eqb-true, and_parts}
use Rattle.pcf_values.specs.declared.val.Val.{Val}
use Rattle.pcf_values.specs.declared.val.Val.TheVariants.{Number, Overflow}
use Rattle.pcf_values.specs.declared.operator.Operator.{Operator}
use Rattle.pcf_values.specs.declared.operator.Operator.TheVariants.{Plus, Minus, Times}
use Rattle.net_rows.specs.Rows.{Channel, rises, falls}
use Rattle.joined_rows.specs.Open.{Term, named, a_star, a_left, a_right, a_pair, an_again, Mark, to_R, to_L, sign}
use Rattle.joined_rows.specs.Open.{Amount, some, known, more_than, less_than, both, Spot, spot, Walker, asks, says}
use Rattle.joined_rows.specs.Ticks.{NamedHalf, waiting, left, NamedFork, Named}
use Rattle.joined_core.specs.Rows.{Sort, is_R, is_L, is_sig, Key, key, Seen, nothing, shaped, zero_is, Source, a_sig, a_box, a_word, a_part}
use Rattle.joined_core.specs.Same.{all_same, same_bool, same_channel, same_sort, same_key, same_term, same_seen, same_source, same_mark}
use Rattle.joined_core.specs.Same.{same_val, same_operator, same_amount, same_spot, same_walker, same_half, same_fork, same_named}

all_is : {A : Type 0} (f : A → A → Bool) → ((x y : A) → f x y ≡ true → x ≡ y) → (xs ys : List A) → all_same f xs ys ≡ true → xs ≡ ys
all_is f h [] [] e = refl
all_is f h [] (y ∷ ys) e = absurd cc
all_is f h (x ∷ xs) [] e = absurd cc
all_is f h (x ∷ xs) (y ∷ ys) e =
    let p = and_parts (f x y) (all_same f xs ys) e in
    ap (λ x. x ∷ xs) (h x y p.0) ∙ ap (λ xs. y ∷ xs) (all_is f h xs ys p.1)

bool_is : (a b : Bool) → same_bool a b ≡ true → a ≡ b
bool_is true true e = refl
bool_is true false e = absurd cc
bool_is false true e = absurd cc
bool_is false false e = refl

-- a channel is told by its number
pub channel_is : (a b : Channel) → same_channel a b ≡ true → a ≡ b
channel_is (rises a) (rises b) e =
    let h : 2 * a ≡ 2 * b = eqb-true (2 * a) (2 * b) e in
    let same : a ≡ b = omega arith in
    ap rises same
channel_is (rises a) (falls b) e =
    let h : 2 * a ≡ 2 * b + 1 = eqb-true (2 * a) (2 * b + 1) e in
    let no : ⊥ = omega arith in
    absurd no
channel_is (falls a) (rises b) e =
    let h : 2 * a + 1 ≡ 2 * b = eqb-true (2 * a + 1) (2 * b) e in
    let no : ⊥ = omega arith in
    absurd no
channel_is (falls a) (falls b) e =
    let h : 2 * a + 1 ≡ 2 * b + 1 = eqb-true (2 * a + 1) (2 * b + 1) e in
    let same : a ≡ b = omega arith in
    ap falls same

sort_is : (a b : Sort) → same_sort a b ≡ true → a ≡ b
sort_is is_R is_R e = refl
sort_is is_L is_L e = refl
sort_is is_sig is_sig e = refl
sort_is a b e = absurd cc

-- a key is told by its three parts
pub key_is : (j k : Key) → same_key j k ≡ true → j ≡ k
key_is j k e =
    let p = and_parts (same_bool j.answers k.answers) (same_channel j.channel k.channel && all_same same_sort j.marks k.marks) e in
    let q = and_parts (same_channel j.channel k.channel) (all_same same_sort j.marks k.marks) p.1 in
    ap (λ b. key b j.channel j.marks) (bool_is j.answers k.answers p.0)
    ∙ ap (λ c. key k.answers c j.marks) (channel_is j.channel k.channel q.0)
    ∙ ap (key k.answers k.channel) (all_is same_sort sort_is j.marks k.marks q.1)

-- a term is told by its parts
pub term_is : (x y : Term) → same_term x y ≡ true → x ≡ y
term_is (named i) (named j) e = ap named (eqb-true i j e)
term_is a_star a_star e = refl
term_is (a_left x) (a_left y) e = ap a_left (term_is x y e)
term_is (a_right x) (a_right y) e = ap a_right (term_is x y e)
term_is (a_pair x u) (a_pair y v) e =
    let p = and_parts (same_term x y) (same_term u v) e in
    ap (λ x. a_pair x u) (term_is x y p.0) ∙ ap (a_pair y) (term_is u v p.1)
term_is (an_again x u) (an_again y v) e =
    let p = and_parts (same_term x y) (same_term u v) e in
    ap (λ x. an_again x u) (term_is x y p.0) ∙ ap (an_again y) (term_is u v p.1)
term_is x y e = absurd cc

pub seen_is : (x y : Seen) → same_seen x y ≡ true → x ≡ y
seen_is nothing nothing e = refl
seen_is (shaped x) (shaped y) e = ap shaped (term_is x y e)
seen_is (zero_is a) (zero_is b) e = ap zero_is (bool_is a b e)
seen_is x y e = absurd cc

pub source_is : (s t : Source) → same_source s t ≡ true → s ≡ t
source_is (a_sig i) (a_sig j) e = ap a_sig (eqb-true i j e)
source_is (a_box i) (a_box j) e = ap a_box (eqb-true i j e)
source_is (a_word i) (a_word j) e = ap a_word (eqb-true i j e)
source_is (a_part x) (a_part y) e = ap a_part (term_is x y e)
source_is s t e = absurd cc

mark_is : (a b : Mark) → same_mark a b ≡ true → a ≡ b
mark_is to_R to_R e = refl
mark_is to_L to_L e = refl
mark_is (sign x) (sign y) e = ap sign (term_is x y e)
mark_is a b e = absurd cc

val_is : (v w : Val) → same_val v w ≡ true → v ≡ w
val_is (Number i) (Number j) e = ap Number (eqb-true i j e)
val_is Overflow Overflow e = refl
val_is v w e = absurd cc

operator_is : (o p : Operator) → same_operator o p ≡ true → o ≡ p
operator_is Plus Plus e = refl
operator_is Minus Minus e = refl
operator_is Times Times e = refl
operator_is o p e = absurd cc

-- an amount is told by its parts
amount_is : (a b : Amount) → same_amount a b ≡ true → a ≡ b
amount_is (some i) (some j) e = ap some (eqb-true i j e)
amount_is (known v) (known w) e = ap known (val_is v w e)
amount_is (more_than a) (more_than b) e = ap more_than (amount_is a b e)
amount_is (less_than a) (less_than b) e = ap less_than (amount_is a b e)
amount_is (both o a b) (both p c d) e =
    let x = and_parts (same_operator o p) (same_amount a c && same_amount b d) e in
    let y = and_parts (same_amount a c) (same_amount b d) x.1 in
    ap (λ o. both o a b) (operator_is o p x.0) ∙ ap (λ a. both p a b) (amount_is a c y.0) ∙ ap (both p c) (amount_is b d y.1)
amount_is a b e = absurd cc

spot_is : (s t : Spot) → same_spot s t ≡ true → s ≡ t
spot_is s t e =
    let p = and_parts (same_channel s.channel t.channel) (all_same same_mark s.work t.work && all_same same_term s.boxes t.boxes) e in
    let q = and_parts (all_same same_mark s.work t.work) (all_same same_term s.boxes t.boxes) p.1 in
    ap (λ c. spot c s.work s.boxes) (channel_is s.channel t.channel p.0)
    ∙ ap (λ m. spot t.channel m s.boxes) (all_is same_mark mark_is s.work t.work q.0)
    ∙ ap (spot t.channel t.work) (all_is same_term term_is s.boxes t.boxes q.1)

walker_is : (x y : Walker) → same_walker x y ≡ true → x ≡ y
walker_is (asks s) (asks t) e = ap asks (spot_is s t e)
walker_is (says a s) (says b t) e =
    let p = and_parts (same_amount a b) (same_spot s t) e in
    ap (λ a. says a s) (amount_is a b p.0) ∙ ap (says b) (spot_is s t p.1)
walker_is x y e = absurd cc

half_is : (g h : NamedHalf) → same_half g h ≡ true → g ≡ h
half_is (waiting q) (waiting p) e = ap waiting (spot_is q p e)
half_is (left a) (left b) e = ap left (amount_is a b e)
half_is g h e = absurd cc

abbrev fork_of : ℕ → List Term → NamedHalf → NamedFork
fork_of i t h = record { node = i; boxes = t; half = h }

fork_is : (f g : NamedFork) → same_fork f g ≡ true → f ≡ g
fork_is f g e =
    let p = and_parts (nat_eq f.node g.node) (all_same same_term f.boxes g.boxes && same_half f.half g.half) e in
    let q = and_parts (all_same same_term f.boxes g.boxes) (same_half f.half g.half) p.1 in
    ap (λ i. fork_of i f.boxes f.half) (eqb-true f.node g.node p.0)
    ∙ ap (λ t. fork_of g.node t f.half) (all_is same_term term_is f.boxes g.boxes q.0)
    ∙ ap (fork_of g.node g.boxes) (half_is f.half g.half q.1)

abbrev named_of : Walker → List NamedFork → Named
named_of x fs = record { live = x; forks = fs }

pub named_is : (X Y : Named) → same_named X Y ≡ true → X ≡ Y
named_is X Y e =
    let p = and_parts (same_walker X.live Y.live) (all_same same_fork X.forks Y.forks) e in
    ap (λ x. named_of x X.forks) (walker_is X.live Y.live p.0) ∙ ap (named_of Y.live) (all_is same_fork fork_is X.forks Y.forks p.1)
