-- What the walk reads decides whose net a net is.
use Rattle.std.proofs.Common.{◌≡◌, refl, ℕ, ◌+◌, ◌*◌, ◌<◌, ◌≤◌, [], length, Option, Some, None, sym, ap, ◌∙◌, subst, arith}
use Rattle.std.specs.Prelude.{Bool, true, false}
use Rattle.std.specs.Bool.{then_some}
use Rattle.std.proofs.Math.Nat.{mul-le-mul}
use Rattle.pcf_values.specs.Terms.{TermTree, nat, size, height}
use Rattle.pcf_values.specs.Typing.{HasType}
use Rattle.net_build.specs.Nets.{NetTree}
use Rattle.net_build.specs.NetOf.{net_of}
use Rattle.net_build.specs.Laws.{NetSize}
use Rattle.net_terms.specs.TermOf.{candidate}
use Rattle.net_terms.specs.OfTerm.{IsNetOf, OfNone}
use Rattle.net_terms.proofs.Bounded.{Bounded, bounded}
use Rattle.net_terms.proofs.Complete.{complete}

-- a term whose net it is, is what is read
only_one : (h : ℕ) (net : NetTree) (o : Option TermTree) (m : TermTree) → candidate h net ≡ o → IsNetOf h net m → o ≡ Some m
only_one h net o m c i = sym c ∙ ap (candidate h) (sym i.net_is) ∙ complete h m i.typed i.within

-- one reading gives one term
same_term : (m l : TermTree) → Some m ≡ Some l → l ≡ m
same_term m l h = cc

-- no reading gives none
no_term : (m : TermTree) → None ≡ Some m → ⊥
no_term m h = cc

-- what a test keeps is right, where it is for both of the test's answers
pub kept_is : {T : Type 0} (P : Option T → Type 0) (b : Bool) (x : T) → (b ≡ true → P (Some x)) → (b ≡ false → P None) → P (then_some b x)
kept_is P true x y n = y refl
kept_is P false x y n = n refl

-- where nothing is read, the net is that of no term
pub none_read : (h : ℕ) (net : NetTree) → candidate h net ≡ None → OfNone h net
none_read h net c m i = no_term m (only_one h net None m c i)

-- where its own net differs, too
pub not_same : (h : ℕ) (net : NetTree) (l : TermTree) → candidate h net ≡ Some l → (net_of l ≡ net → ⊥) → OfNone h net
not_same h net l c n m i = n (ap net_of (sym (same_term l m (only_one h net (Some l) m c i))) ∙ i.net_is)

-- the term that is read is bounded by the net
pub term_bounds : (h : ℕ) (net : NetTree) (l : TermTree) → candidate h net ≡ Some l → (height l ≤ h) × (size l ≤ length net.nodes)
term_bounds h net l c = subst (Bounded h (length net.nodes)) c (bounded h net)

-- and so is its own net, by its own height
pub net_bounds : NetSize → (h : ℕ) (net : NetTree) (l : TermTree) → candidate h net ≡ Some l
    → (length (net_of l).wires ≤ length net.nodes * (2 * height l + 4)) × (length (net_of l).nodes ≤ length net.nodes * (2 * height l + 4))
net_bounds law h net l c =
    let (u, v) = term_bounds h net l c in
    let w : 2 * height l + 4 ≤ 2 * height l + 4 = omega arith in
    let a = mul-le-mul v w in
    let (p, q) = law l in
    (omega (arith, p, a), omega (arith, q, a))

-- the bound by numbers that are equal to these
pub product_is : (n k a b : ℕ) → n ≡ k → a ≡ b → n * (2 * a + 4) ≡ k * (2 * b + 4)
product_is n k a b e f = ap (λ n. n * (2 * a + 4)) e ∙ ap (λ a. k * (2 * a + 4)) f

-- it is a number of the code's
pub product_fits : {n a : ℕ} → n < 4294967296 → a ≤ 2600 → n * (2 * a + 4) < 18446744073709551616
product_fits {n} {a} l m =
    let u : n ≤ 4294967295 = omega (arith, l) in
    let v : 2 * a + 4 ≤ 5204 = omega (arith, m) in
    omega (arith, mul-le-mul u v)

-- What is read is the term whose net it is, where its own net is the same.
pub is_net : (h : ℕ) (net : NetTree) (l : TermTree) → candidate h net ≡ Some l → HasType [] l nat → net_of l ≡ net → IsNetOf h net l
is_net h net l c t e = record { typed = t; within = (term_bounds h net l c).0; net_is = e }

-- what is read is no program whose net it is
pub not_typed_or_same : (h : ℕ) (net : NetTree) (l : TermTree) → candidate h net ≡ Some l → (HasType [] l nat → net_of l ≡ net → ⊥)
    → OfNone h net
not_typed_or_same h net l c n m i =
    let e = same_term l m (only_one h net (Some l) m c i) in
    n (subst (λ m. HasType [] m nat) e i.typed) (ap net_of (sym e) ∙ i.net_is)
