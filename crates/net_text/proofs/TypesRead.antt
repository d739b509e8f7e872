-- A printed type is read, where it is no higher than the bound.
use Rattle.std.proofs.Common.{◌≡◌, ℕ, zero, suc, ◌≤◌, List, ◌++◌, append_assoc, Some, None, refl, sym, ap, ◌∙◌, subst, arith}
use Rattle.std.specs.Prelude.{codes}
use Rattle.std.proofs.Math.Nat.{le-max_left, le-max_right}
use Rattle.pcf_values.specs.Terms.{TyTree, nat, arrow, product}
use Rattle.pcf_reader.specs.Printed.{fitted, ty_level, ty_text}
use Rattle.net_text.specs.NetText.{ty_height}
use Rattle.net_text.specs.TypeText.{behind, TyReader, closed, unit, with_right, on, if_follows, readers}

-- what may stand behind a right operand of a product, and behind a type
abbrev pub NoProduct : List ℕ → Type 0
NoProduct rest = behind (codes " * ") rest ≡ None

-- nothing by which a type goes on
abbrev pub NoSign : List ℕ → Type 0
NoSign rest = NoProduct rest × (behind (codes " -> ") rest ≡ None)

-- the reader reads these types
abbrev pub ReadsType : TyReader → TyTree → Type 0
ReadsType full t = (rest : List ℕ) → NoSign rest → full (ty_text t ++ rest) ≡ Some (t, rest)

-- the reader reads this type as a right operand of a product
abbrev pub ReadsRight : TyReader → TyTree → Type 0
ReadsRight right t = (rest : List ℕ) → NoProduct rest → right (fitted 1 (ty_level t) (ty_text t) ++ rest) ≡ Some (t, rest)

-- a type in parentheses
in_parens : (full : TyReader) (t : TyTree) (rest : List ℕ) → ReadsType full t
    → unit full ((codes "(" ++ ty_text t ++ codes ")") ++ rest) ≡ Some (t, rest)
in_parens full t rest f = ap (λ bs. closed (full bs)) (append_assoc (ty_text t) (codes ")") rest)
    ∙ ap closed (f (codes ")" ++ rest) (refl, refl))

-- a left operand of a product
unit_reads : (full : TyReader) (t : TyTree) (rest : List ℕ) → ReadsType full t
    → unit full (fitted 0 (ty_level t) (ty_text t) ++ rest) ≡ Some (t, rest)
unit_reads full nat rest f = refl
unit_reads full (arrow a b) rest f = in_parens full (arrow a b) rest f
unit_reads full (product a b) rest f = in_parens full (product a b) rest f

-- nothing follows
alone : (sign : List ℕ) (f : TyTree → TyTree → TyTree) (right : TyReader) (t : TyTree) (rest : List ℕ) → behind sign rest ≡ None
    → if_follows sign f right (Some (t, rest)) ≡ Some (t, rest)
alone sign f right t rest h = ap (on f right (t, rest)) h

-- three pieces of a text
pieces : (a b c rest : List ℕ) → (a ++ b ++ c) ++ rest ≡ a ++ (b ++ (c ++ rest))
pieces a b c rest = append_assoc (a ++ b) c rest ∙ append_assoc a b (c ++ rest)

-- a product
product_reads : (full right : TyReader) (a b : TyTree) (rest : List ℕ) → ReadsType full a → ReadsRight right b → NoProduct rest
    → if_follows (codes " * ") product right (unit full (ty_text (product a b) ++ rest)) ≡ Some (product a b, rest)
product_reads full right a b rest f g n =
    let text = fitted 1 (ty_level b) (ty_text b) ++ rest in
    ap (λ bs. if_follows (codes " * ") product right (unit full bs))
    (pieces (fitted 0 (ty_level a) (ty_text a)) (codes " * ") (fitted 1 (ty_level b) (ty_text b)) rest)
    ∙ ap (if_follows (codes " * ") product right) (unit_reads full a (codes " * " ++ text) f)
    ∙ ap (with_right (product a)) (g rest n)

-- a left operand of an arrow
left_reads : (full right : TyReader) (a : TyTree) (rest : List ℕ) → ReadsType full a
    → ((c d : TyTree) → a ≡ product c d → ReadsType full c × ReadsRight right d) → NoProduct rest →
    if_follows (codes " * ") product right (unit full (fitted 1 (ty_level a) (ty_text a) ++ rest)) ≡ Some (a, rest)
left_reads full right nat rest f g n = alone (codes " * ") product right nat rest n
left_reads full right (arrow a b) rest f g n =
    ap (if_follows (codes " * ") product right) (in_parens full (arrow a b) rest f) ∙ alone (codes " * ") product right (arrow a b) rest n
left_reads full right (product c d) rest f g n = let (p, q) = g c d refl in product_reads full right c d rest p q n

-- what each bound's readers read
record Reading (h : ℕ) : Type 0 where
  full : (t : TyTree) → ty_height t ≤ h → ReadsType (readers h).full t
  right : (t : TyTree) → ty_height t ≤ h → ReadsRight (readers h).right t

-- a type has a height
pub low : (t : TyTree) → ty_height t ≤ 0 → ⊥
low nat h = omega (arith, h)
low (arrow a b) h = omega (arith, h)
low (product a b) h = omega (arith, h)

-- a type by itself, at the next bound
full_step : (h : ℕ) → Reading h → (t : TyTree) → ty_height t ≤ suc h → ReadsType (readers (suc h)).full t
full_step h r nat u rest n =
    ap (if_follows (codes " -> ") arrow (readers h).full) (alone (codes " * ") product (readers h).right nat rest n.0)
    ∙ alone (codes " -> ") arrow (readers h).full nat rest n.1
full_step h r (product a b) u rest n =
    let p = r.full a (omega (arith, u, le-max_left (ty_height a) (ty_height b))) in
    let q = r.right b (omega (arith, u, le-max_right (ty_height a) (ty_height b))) in
    ap (if_follows (codes " -> ") arrow (readers h).full) (product_reads (readers h).full (readers h).right a b rest p q n.0)
    ∙ alone (codes " -> ") arrow (readers h).full (product a b) rest n.1
full_step h r (arrow a b) u rest n =
    let v : ty_height a ≤ h = omega (arith, u, le-max_left (ty_height a) (ty_height b)) in
    let p = r.full a v in
    let q = r.full b (omega (arith, u, le-max_right (ty_height a) (ty_height b))) in
    let g : (c d : TyTree) → a ≡ product c d
    → ReadsType (readers h).full c × ReadsRight (readers h).right d = λ c d e. let k =
    ap ty_height e in (
      r.full c (omega (arith, v, k, le-max_left (ty_height c) (ty_height d))),
      r.right d (omega (arith, v, k, le-max_right (ty_height c) (ty_height d))),
    ) in
    let text = codes " -> " ++ (ty_text b ++ rest) in
    ap (λ bs. (readers (suc h)).full bs) (pieces (fitted 1 (ty_level a) (ty_text a)) (codes " -> ") (ty_text b) rest)
    ∙ ap (if_follows (codes " -> ") arrow (readers h).full) (left_reads (readers h).full (readers h).right a text p g refl)
    ∙ ap (with_right (arrow a)) (q rest n)

-- a right operand of a product, at the next bound
right_step : (h : ℕ) → Reading h → (t : TyTree) → ty_height t ≤ suc h → ReadsRight (readers (suc h)).right t
right_step h r t u rest n =
    let g : (c d : TyTree) → t ≡ product c d
    → ReadsType (readers (suc h)).full c × ReadsRight (readers h).right d = λ c d e. let k =
    ap ty_height e in (
      full_step h r c (omega (arith, u, k, le-max_left (ty_height c) (ty_height d))),
      r.right d (omega (arith, u, k, le-max_right (ty_height c) (ty_height d))),
    ) in
    left_reads (readers (suc h)).full (readers h).right t rest (full_step h r t u) g n

-- the readers at each bound
types_read : (h : ℕ) → Reading h
types_read zero = record { full = λ t u. absurd (low t u); right = λ t u. absurd (low t u) }
types_read (suc h) = let r = types_read h in record { full = full_step h r; right = right_step h r }

-- A printed type is read, with what follows it.
pub type_read : (h : ℕ) (t : TyTree) (rest : List ℕ) → ty_height t ≤ h → NoSign rest → (readers h).full (ty_text t ++ rest) ≡ Some (t, rest)
type_read h t rest u n = (types_read h).full t u rest n

-- a right operand, from its own left operand on
pub right_goes : (h k : ℕ) (text : List ℕ) (p : TyTree × List ℕ) → h ≡ suc k → unit (readers h).full text ≡ Some p
    → (readers h).right text ≡ if_follows (codes " * ") product (readers k).right (Some p)
right_goes h k text p e u =
    subst (λ h. unit (readers h).full text ≡ Some p → (readers h).right text ≡ if_follows (codes " * ") product (readers k).right (Some p))
    (sym e) (λ u. ap (if_follows (codes " * ") product (readers k).right) u) u
