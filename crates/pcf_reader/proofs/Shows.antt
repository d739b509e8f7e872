-- The characters of a printed tree are those of its spelling.
use Rattle.std.proofs.Common.{◌≡◌, ℕ, ◌<◌, ◌≤◌, ◌^◌, Bool, true, false, ◌&&◌, nat_lt, nat_le, List, [], ◌∷◌}
use Rattle.std.proofs.Common.{◌++◌, refl, sym, ap, ◌∙◌, subst, arith, append_assoc, if◌then◌else◌}
use Rattle.std.specs.Prelude.{codes, decimal, encode_utf8_all}
use Rattle.std.specs.Str.{chars, all_scalars}
use Rattle.std.proofs.lemmas.Bool.{ltb-true, and_parts, and_from}
use Rattle.std.proofs.lemmas.Str.{encodes-append, encode_ascii}
use lib.Utf8.{low_scalar}
use Rattle.pcf_values.specs.declared.operator.Operator.{Operator}
use Rattle.pcf_values.specs.declared.side.Side.TheVariants.{Left, Right}
use Rattle.pcf_values.specs.Terms.{TyTree, nat, arrow, product}
use Rattle.pcf_values.specs.Named.{NamedTree, number_at, name_at, word_at, binary_at, pair_at, ifz_at, bind_at, apply_at, Word, the_succ}
use Rattle.pcf_values.specs.Named.{the_pred, the_part, Binder, the_fun, the_fix}
use Rattle.pcf_reader.specs.Spelling.{is_digit, AllPass}
use Rattle.pcf_reader.specs.Printed.{fitted, ty_level, ty_text, word_text, binder_text, op_text, op_level, right_level, level, term_text}
use Rattle.pcf_values.proofs.Operators.{for_each}
use Rattle.pcf_reader.proofs.Longest.{digit_low}
use Rattle.pcf_reader.proofs.Shown.{fit_onto, ty_onto, own_onto, IsName, Fine}
use Rattle.pcf_reader.proofs.Pieces.{digits_bytes, decimal_digits, name_chars}

-- before any rest, these characters are these bytes
abbrev pub Shows : (List ℕ → List ℕ) → List ℕ → Type 0
Shows f bytes = (rest : List ℕ) → (encode_utf8_all (f rest) ≡ bytes ++ encode_utf8_all rest) ×
    (all_scalars rest ≡ true → all_scalars (f rest) ≡ true)

-- two texts of scalar values
scalars_join : (u v : List ℕ) → all_scalars u ≡ true → all_scalars v ≡ true → all_scalars (u ++ v) ≡ true
scalars_join [] v h k = k
scalars_join (c ∷ u) v h k = and_from _ (all_scalars (u ++ v)) (and_parts _ (all_scalars u) h).0
    (scalars_join u v (and_parts _ (all_scalars u) h).1 k)

-- one text behind another
then_shows : (f g : List ℕ → List ℕ) (u v : List ℕ) → Shows f u → Shows g v → Shows (λ r. f (g r)) (u ++ v)
then_shows f g u v h k rest =
    ((h (g rest)).0 ∙ ap (λ z. u ++ z) (k rest).0 ∙ sym (append_assoc u v (encode_utf8_all rest)), λ s. (h (g rest)).1 ((k rest).1 s))

-- characters that are their own
list_shows : (cs bytes : List ℕ) → encode_utf8_all cs ≡ bytes → all_scalars cs ≡ true → Shows (λ r. cs ++ r) bytes
list_shows cs bytes e s rest = (encodes-append cs rest ∙ ap (λ z. z ++ encode_utf8_all rest) e, λ k. scalars_join cs rest s k)

-- all below 128
abbrev pub all_low : List ℕ → Bool
all_low [] = true
all_low (c ∷ cs) = nat_lt c 128 && all_low cs

-- such characters are their own bytes
pub low_bytes : (cs : List ℕ) → all_low cs ≡ true → encode_utf8_all cs ≡ cs
low_bytes [] h = refl
low_bytes (c ∷ cs) h =
    ap (λ z. z ++ encode_utf8_all cs) (encode_ascii c (ltb-true c 128 (and_parts (nat_lt c 128) (all_low cs) h).0)) ∙
    ap (λ z. c ∷ z) (low_bytes cs (and_parts (nat_lt c 128) (all_low cs) h).1)

-- and scalar values
pub low_scalars : (cs : List ℕ) → all_low cs ≡ true → all_scalars cs ≡ true
low_scalars [] h = refl
low_scalars (c ∷ cs) h =
    let low : c < 128 = ltb-true c 128 (and_parts (nat_lt c 128) (all_low cs) h).0 in
    and_from _ (all_scalars cs) (low_scalar c (omega (arith, low))) (low_scalars cs (and_parts (nat_lt c 128) (all_low cs) h).1)

-- and so they show themselves
low_shows : (cs : List ℕ) → all_low cs ≡ true → Shows (λ r. cs ++ r) cs
low_shows cs h = list_shows cs cs (low_bytes cs h) (low_scalars cs h)

-- digits are scalar values
digits_scalars : (ds : List ℕ) → AllPass is_digit ds → all_scalars ds ≡ true
digits_scalars [] h = refl
digits_scalars (c ∷ ds) h = let le : c ≤ 57 = digit_low c h.0 in
    and_from _ (all_scalars ds) (low_scalar c (omega (arith, le))) (digits_scalars ds h.1)

-- a number
number_shows : (n : ℕ) → n < 2 ^ 64 → Shows (λ r. decimal n ++ r) (decimal n)
number_shows n h = list_shows (decimal n) (decimal n) (digits_bytes (decimal n) (decimal_digits n h).all)
    (digits_scalars (decimal n) (decimal_digits n h).all)

-- a name
name_shows : (x : List ℕ) → IsName x → Shows (λ r. chars x ++ r) x
name_shows x h = subst (λ z. Shows (λ r. z ++ r) x) (sym (name_chars x h)) (list_shows (h.first ∷ h.more) x h.spelled h.scalars)

-- a part, with its parentheses
fit_shows : (b : Bool) (f : List ℕ → List ℕ) (text : List ℕ) → Shows f text →
    Shows (λ r. if b then f r else 40 ∷ f (41 ∷ r)) (if b then text else codes "(" ++ text ++ codes ")")
fit_shows true f text h = h
fit_shows false f text h = then_shows (λ r. 40 ∷ f r) (λ r. 41 ∷ r) (codes "(" ++
    text) (codes ")") (then_shows (λ r. 40 ∷ r) f (codes "(") text (low_shows (codes "(") refl) h) (low_shows (codes ")") refl)

-- a type
ty_shows : (t : TyTree) → Shows (λ r. ty_onto t r) (ty_text t)
ty_shows nat = low_shows (codes "nat") refl
ty_shows (arrow a b) =
    then_shows (λ r. fit_onto 1 (ty_level a) (λ r. ty_onto a r) (codes " -> " ++ r)) (λ r. ty_onto b r)
    (fitted 1 (ty_level a) (ty_text a) ++ codes " -> ") (ty_text b)
    (then_shows (λ r. fit_onto 1 (ty_level a) (λ r. ty_onto a r) r) (λ r. codes " -> " ++
    r) (fitted 1 (ty_level a) (ty_text a)) (codes " -> ")
    (fit_shows (nat_le (ty_level a) 1) (λ r. ty_onto a r) (ty_text a) (ty_shows a)) (low_shows (codes " -> ") refl)) (ty_shows b)
ty_shows (product a b) =
    then_shows (λ r. fit_onto 0 (ty_level a) (λ r. ty_onto a r) (codes " * " ++ r)) (λ r. fit_onto 1 (ty_level b) (λ r. ty_onto b r) r)
    (fitted 0 (ty_level a) (ty_text a) ++ codes " * ") (fitted 1 (ty_level b) (ty_text b))
    (then_shows (λ r. fit_onto 0 (ty_level a) (λ r. ty_onto a r) r) (λ r. codes " * " ++
    r) (fitted 0 (ty_level a) (ty_text a)) (codes " * ")
    (fit_shows (nat_le (ty_level a) 0) (λ r. ty_onto a r) (ty_text a) (ty_shows a)) (low_shows (codes " * ") refl))
    (fit_shows (nat_le (ty_level b) 1) (λ r. ty_onto b r) (ty_text b) (ty_shows b))

-- the words and signs that are printed are below 128
word_low : (w : Word) → all_low (word_text w) ≡ true
word_low the_succ = refl
word_low the_pred = refl
word_low (the_part Left) = refl
word_low (the_part Right) = refl

binder_low : (b : Binder) → all_low (binder_text b) ≡ true
binder_low the_fun = refl
binder_low the_fix = refl

op_low : (op : Operator) → all_low (op_text op) ≡ true
op_low = for_each _ _ refl

-- a term
pub own_shows : (t : NamedTree) → Fine t → Shows (λ r. own_onto t r) (term_text t)
own_shows (number_at i n) h = number_shows n h
own_shows (name_at i x) h = name_shows x h
own_shows (word_at i w a) h =
    then_shows (λ r. word_text w ++ r) (λ r. fit_onto 0 (level a) (λ r. own_onto a r) r) (word_text w) (fitted 0 (level a) (term_text a))
    (low_shows (word_text w) (word_low w))
    (fit_shows (nat_le (level a) 0) (λ r. own_onto a r) (term_text a) (own_shows a h))
own_shows (binary_at i op a b) h =
    then_shows (λ r. fit_onto (op_level op) (level a) (λ r. own_onto a r) (op_text op ++ r))
    (λ r. fit_onto (right_level op) (level b) (λ r. own_onto b r) r)
    (fitted (op_level op) (level a) (term_text a) ++ op_text op) (fitted (right_level op) (level b) (term_text b))
    (then_shows (λ r. fit_onto (op_level op) (level a) (λ r. own_onto a r) r) (λ r. op_text op ++
    r) (fitted (op_level op) (level a) (term_text a)) (op_text op)
    (fit_shows (nat_le (level a) (op_level op)) (λ r. own_onto a r) (term_text a) (own_shows a h.0)) (low_shows (op_text op) (op_low op)))
    (fit_shows (nat_le (level b) (right_level op)) (λ r. own_onto b r) (term_text b) (own_shows b h.1))
own_shows (pair_at i a b) h =
    then_shows (λ r. 40 ∷ own_onto a (codes ", " ++ own_onto b r)) (λ r. 41 ∷ r) (codes "(" ++ term_text a ++ codes ", " ++
    term_text b) (codes ")")
    (then_shows (λ r. 40 ∷ own_onto a (codes ", " ++ r)) (λ r. own_onto b r) (codes "(" ++ term_text a ++ codes ", ") (term_text b)
    (then_shows (λ r. 40 ∷ own_onto a r) (λ r. codes ", " ++ r) (codes "(" ++ term_text a) (codes ", ")
    (then_shows (λ r. 40 ∷ r) (λ r. own_onto a r) (codes "(") (term_text a) (low_shows (codes "(") refl) (own_shows a h.0))
    (low_shows (codes ", ") refl)) (own_shows b h.1)) (low_shows (codes ")") refl)
own_shows (ifz_at i c p q) h =
    then_shows (λ r. codes "ifz " ++ own_onto c (codes " then " ++ own_onto p (codes " else " ++ r))) (λ r. own_onto q r) (codes "ifz " ++
    term_text c ++ codes " then " ++ term_text p ++ codes " else ") (term_text q)
    (then_shows (λ r. codes "ifz " ++ own_onto c (codes " then " ++ own_onto p r)) (λ r. codes " else " ++ r) (codes "ifz " ++
    term_text c ++ codes " then " ++ term_text p) (codes " else ")
    (then_shows (λ r. codes "ifz " ++ own_onto c (codes " then " ++ r)) (λ r. own_onto p r) (codes "ifz " ++ term_text c ++
    codes " then ") (term_text p)
    (then_shows (λ r. codes "ifz " ++ own_onto c r) (λ r. codes " then " ++ r) (codes "ifz " ++ term_text c) (codes " then ")
    (then_shows (λ r. codes "ifz " ++ r) (λ r. own_onto c r) (codes "ifz ") (term_text c) (low_shows (codes "ifz ") refl)
    (own_shows c h.0)) (low_shows (codes " then ") refl)) (own_shows p h.1)) (low_shows (codes " else ") refl))
    (own_shows q h.2)
own_shows (bind_at i b x t m) h =
    then_shows (λ r. binder_text b ++ (chars x ++ (58 ∷ ty_onto t (codes ". " ++ r)))) (λ r. own_onto m r) (binder_text b ++ x ++
    codes ":" ++ ty_text t ++ codes ". ") (term_text m)
    (then_shows (λ r. binder_text b ++ (chars x ++ (58 ∷ ty_onto t r))) (λ r. codes ". " ++ r) (binder_text b ++ x ++ codes ":" ++
    ty_text t) (codes ". ")
    (then_shows (λ r. binder_text b ++ (chars x ++ (58 ∷ r))) (λ r. ty_onto t r) (binder_text b ++ x ++ codes ":") (ty_text t)
    (then_shows (λ r. binder_text b ++ (chars x ++ r)) (λ r. 58 ∷ r) (binder_text b ++ x) (codes ":")
    (then_shows (λ r. binder_text b ++ r) (λ r. chars x ++ r) (binder_text b) x (low_shows (binder_text b) (binder_low b))
    (name_shows x h.0)) (low_shows (codes ":") refl)) (ty_shows t)) (low_shows (codes ". ") refl))
    (own_shows m h.1)
own_shows (apply_at i f a) h =
    then_shows (λ r. fit_onto 1 (level f) (λ r. own_onto f r) (32 ∷ r)) (λ r. fit_onto 0 (level a) (λ r. own_onto a r) r)
    (fitted 1 (level f) (term_text f) ++ codes " ") (fitted 0 (level a) (term_text a))
    (then_shows (λ r. fit_onto 1 (level f) (λ r. own_onto f r) r) (λ r. 32 ∷ r) (fitted 1 (level f) (term_text f)) (codes " ")
    (fit_shows (nat_le (level f) 1) (λ r. own_onto f r) (term_text f) (own_shows f h.0)) (low_shows (codes " ") refl))
    (fit_shows (nat_le (level a) 0) (λ r. own_onto a r) (term_text a) (own_shows a h.1))
