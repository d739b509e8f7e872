-- The number of a key tells it.
use Rattle.std.proofs.Common.{◌≡◌, ◌<◌, suc, Bool, true, false, cond, List, [], ◌∷◌, length, Some, refl, sym, ap, ◌∙◌, arith}
use Rattle.std.specs.Prelude.{nat_eq, ◌&&◌}
use Rattle.std.proofs.lemmas.Bool.{eq-eqb, ne_eqb, and_from}
use Rattle.net_rows.specs.Rows.{number}
use Rattle.net_rows.proofs.Small.{not_full}
use Rattle.joined_core.specs.Rows.{Sort, is_R, is_L, is_sig, Key, Seen}
use Rattle.joined_core.specs.Same.{all_same, same_bool, same_channel, same_sort, same_key, same_seen}
use Rattle.joined_core.specs.Listed.{Entry, find}
use Rattle.joined_core.specs.Numbers.{key_number, find_number, NumbersDiffer, NumbersFind}
use Rattle.joined_core.proofs.Same.{key_is}

pub bool_self : (b : Bool) → same_bool b b ≡ true
bool_self true = refl
bool_self false = refl

pub sort_self : (a : Sort) → same_sort a a ≡ true
sort_self is_R = refl
sort_self is_L = refl
sort_self is_sig = refl

pub sorts_self : (m : List Sort) → all_same same_sort m m ≡ true
sorts_self [] = refl
sorts_self (a ∷ m) = and_from (same_sort a a) (all_same same_sort m m) (sort_self a) (sorts_self m)

pub key_self : (k : Key) → same_key k k ≡ true
key_self k =
    and_from (same_bool k.answers k.answers) (same_channel k.channel k.channel && all_same same_sort k.marks k.marks) (bool_self k.answers)
    (and_from (same_channel k.channel k.channel) (all_same same_sort k.marks k.marks)
    (eq-eqb (number k.channel) (number k.channel) refl) (sorts_self k.marks))

-- two keys of one number that has a row are both the key of that row
pub numbers_differ : NumbersDiffer
numbers_differ [] j k l e = let no : ⊥ = omega arith in absurd no
numbers_differ (x ∷ xs) j k l e =
    go (same_key x.key j) (same_key x.key k) refl refl l e (λ l e. numbers_differ xs j k l e)
  where
    go : (a b : Bool) → same_key x.key j ≡ a → same_key x.key k ≡ b → cond a 0 (suc (key_number xs j)) < suc (length xs) →
        cond a 0 (suc (key_number xs j)) ≡ cond b 0 (suc (key_number xs k)) →
        (key_number xs j < length xs → key_number xs j ≡ key_number xs k → j ≡ k) → j ≡ k
    go true true p q l e rest = sym (key_is x.key j p) ∙ key_is x.key k q
    go true false p q l e rest = let no : ⊥ = omega arith in absurd no
    go false true p q l e rest = let no : ⊥ = omega arith in absurd no
    go false false p q l e rest = rest (omega arith) (omega arith)

-- each key of the list has a number within it
abbrev pub AllIn : List Entry → List Entry → Type 0
AllIn es [] = Unit {0}
AllIn es (x ∷ xs) = (key_number es x.key < length es) × AllIn es xs

in_more : (y : Entry) (es xs : List Entry) → AllIn es xs → AllIn (y ∷ es) xs
in_more y es [] h = tt
in_more y es (x ∷ xs) h = (go (same_key y.key x.key) h.0, in_more y es xs h.1)
  where
    go : (b : Bool) → key_number es x.key < length es → cond b 0 (suc (key_number es x.key)) < suc (length es)
    go true l = omega arith
    go false l = omega arith

pub all_in : (es : List Entry) → AllIn es es
all_in [] = tt
all_in (y ∷ es) = (
  let e = ap (λ b. cond b 0 (suc (key_number es y.key))) (key_self y.key) in omega arith,
  in_more y es es (all_in es),
)

-- numbers are equal just where keys are
pub number_key : (es : List Entry) (j k : Key) → key_number es j < length es → nat_eq (key_number es j) (key_number es k) ≡ same_key j k
number_key es j k l = go (same_key j k) refl
  where
    go : (b : Bool) → same_key j k ≡ b → nat_eq (key_number es j) (key_number es k) ≡ b
    go true e = eq-eqb (key_number es j) (key_number es k) (ap (key_number es) (key_is j k e))
    go false e = ne_eqb (key_number es j) (key_number es k)
        (λ q. not_full (sym (key_self j) ∙ ap (same_key j) (numbers_differ es j k l q) ∙ e))

found_same : (es xs : List Entry) (k : Key) (e : Seen) → AllIn es xs →
    find_number (key_number es) xs (key_number es k) e ≡ find xs k e
found_same es [] k e h = refl
found_same es (x ∷ xs) k e h =
    ap (λ b. cond (b && same_seen x.seen e) (Some x.row) (find_number (key_number es) xs (key_number es k) e)) (number_key es x.key k h.0)
    ∙ ap (cond (same_key x.key k && same_seen x.seen e) (Some x.row)) (found_same es xs k e h.1)

pub numbers_find : NumbersFind
numbers_find entries k e = found_same entries entries k e (all_in entries)
