-- A printed tree by its characters, its height and its open phrases, each as a recursion on the tree.
use Rattle.std.specs.Prelude.{◌≡◌, ℕ, suc, ◌<◌, ◌^◌, max, Bool, true, false, nat_le, List, ◌∷◌, ◌++◌, codes}
use Rattle.std.specs.Prelude.{decimal, encode_utf8_all, if◌then◌else◌}
use Rattle.std.specs.Str.{chars, all_scalars}
use Rattle.unicode_ident.specs.Ident.{is_xid_continue}
use Rattle.pcf_values.specs.Most.{most_open}
use Rattle.pcf_values.specs.Terms.{TyTree, nat, arrow, product}
use Rattle.pcf_values.specs.Named.{NamedTree, number_at, name_at, word_at, binary_at, pair_at, ifz_at, bind_at, apply_at}
use Rattle.pcf_reader.specs.Tokens.{Name}
use Rattle.pcf_reader.specs.Spelling.{starts_name, word_of, AllPass}
use Rattle.pcf_reader.specs.Printed.{ty_level, word_text, binder_text, op_text, op_level, right_level, level}

-- the first of both, or the second
abbrev pub pick : Bool → Type 0 → Type 0 → Type 0
pick true A B = A
pick false A B = B

-- the characters of a part before those that follow, in parentheses unless its level fits
abbrev pub fit_onto : ℕ → ℕ → (List ℕ → List ℕ) → List ℕ → List ℕ
fit_onto most lvl f rest = if nat_le lvl most then f rest else 40 ∷ f (41 ∷ rest)

-- the height of a part, with its parentheses
abbrev pub fit_height : ℕ → ℕ → ℕ → ℕ
fit_height most lvl h = if nat_le lvl most then h else suc h

-- a part stands within the limit while so many phrases are open, with its parentheses
abbrev pub fit_shallow : ℕ → ℕ → (ℕ → Type 0) → ℕ → Type 0
fit_shallow most lvl S o = pick (nat_le lvl most) (S o) ((o < most_open) × S (suc o))

-- the characters of a type before those that follow
abbrev pub ty_onto : TyTree → List ℕ → List ℕ
ty_onto nat rest = codes "nat" ++ rest
ty_onto (arrow a b) rest = fit_onto 1 (ty_level a) (λ r. ty_onto a r) (codes " -> " ++ ty_onto b rest)
ty_onto (product a b) rest = fit_onto 0 (ty_level a) (λ r. ty_onto a r) (codes " * " ++ fit_onto 1 (ty_level b) (λ r. ty_onto b r) rest)

-- a type stands within the limit while so many phrases are open
abbrev pub ty_shallow : TyTree → ℕ → Type 0
ty_shallow nat o = Unit {0}
ty_shallow (arrow a b) o = fit_shallow 1 (ty_level a) (λ p. ty_shallow a p) o × (o < most_open) × ty_shallow b (suc o)
ty_shallow (product a b) o = fit_shallow 0 (ty_level a) (λ p. ty_shallow a p) o × (o < most_open) ×
    fit_shallow 1 (ty_level b) (λ p. ty_shallow b p) (suc o)

-- the characters of a term before those that follow
abbrev pub own_onto : NamedTree → List ℕ → List ℕ
own_onto (number_at _ n) rest = decimal n ++ rest
own_onto (name_at _ x) rest = chars x ++ rest
own_onto (word_at _ w a) rest = word_text w ++ fit_onto 0 (level a) (λ r. own_onto a r) rest
own_onto (binary_at _ op a b) rest =
    fit_onto (op_level op) (level a) (λ r. own_onto a r) (op_text op ++ fit_onto (right_level op) (level b) (λ r. own_onto b r) rest)
own_onto (pair_at _ a b) rest = 40 ∷ own_onto a (codes ", " ++ own_onto b (41 ∷ rest))
own_onto (ifz_at _ c p q) rest = codes "ifz " ++ own_onto c (codes " then " ++ own_onto p (codes " else " ++ own_onto q rest))
own_onto (bind_at _ b x t m) rest = binder_text b ++ (chars x ++ (58 ∷ ty_onto t (codes ". " ++ own_onto m rest)))
own_onto (apply_at _ f a) rest = fit_onto 1 (level f) (λ r. own_onto f r) (32 ∷ fit_onto 0 (level a) (λ r. own_onto a r) rest)

-- the height of what is printed of a term
abbrev pub own_height : NamedTree → ℕ
own_height (number_at _ n) = 1
own_height (name_at _ x) = 1
own_height (word_at _ w a) = suc (fit_height 0 (level a) (own_height a))
own_height (binary_at _ op a b) =
    suc (max (fit_height (op_level op) (level a) (own_height a)) (fit_height (right_level op) (level b) (own_height b)))
own_height (pair_at _ a b) = suc (max (own_height a) (own_height b))
own_height (ifz_at _ c p q) = suc (max (own_height c) (max (own_height p) (own_height q)))
own_height (bind_at _ b x t m) = suc (own_height m)
own_height (apply_at _ f a) = suc (max (fit_height 1 (level f) (own_height f)) (fit_height 0 (level a) (own_height a)))

-- a term stands within the limit while so many phrases are open
abbrev pub own_shallow : NamedTree → ℕ → Type 0
own_shallow (number_at _ n) o = Unit {0}
own_shallow (name_at _ x) o = Unit {0}
own_shallow (word_at _ w a) o = (o < most_open) × fit_shallow 0 (level a) (λ p. own_shallow a p) (suc o)
own_shallow (binary_at _ op a b) o =
    fit_shallow (op_level op) (level a) (λ p. own_shallow a p) o × (fit_height (op_level op) (level a) (own_height a) < most_open) ×
    fit_shallow (right_level op) (level b) (λ p. own_shallow b p) o
own_shallow (pair_at _ a b) o = (o < most_open) × own_shallow a (suc o) × own_shallow b (suc o)
own_shallow (ifz_at _ c p q) o = (o < most_open) × own_shallow c (suc o) × own_shallow p (suc o) × own_shallow q (suc o)
own_shallow (bind_at _ b x t m) o = (o < most_open) × ty_shallow t (suc o) × own_shallow m (suc o)
own_shallow (apply_at _ f a) o = fit_shallow 1 (level f) (λ p. own_shallow f p) o × (fit_height 1 (level f) (own_height f) < most_open) ×
    fit_shallow 0 (level a) (λ p. own_shallow a p) o

-- the bytes of a name, which is no keyword
pub record IsName (x : List ℕ) : Type 0 where
  pub first : ℕ
  pub more : List ℕ
  pub spelled : encode_utf8_all (first ∷ more) ≡ x
  pub starts : starts_name first ≡ true
  pub goes_on : AllPass is_xid_continue more
  pub scalars : all_scalars (first ∷ more) ≡ true
  pub no_keyword : word_of x ≡ Name x

-- each number is narrow, and each name is one
abbrev pub Fine : NamedTree → Type 0
Fine (number_at _ n) = n < 2 ^ 64
Fine (name_at _ x) = IsName x
Fine (word_at _ w a) = Fine a
Fine (binary_at _ op a b) = Fine a × Fine b
Fine (pair_at _ a b) = Fine a × Fine b
Fine (ifz_at _ c p q) = Fine c × Fine p × Fine q
Fine (bind_at _ b x t m) = IsName x × Fine m
Fine (apply_at _ f a) = Fine f × Fine a
