-- The parts of equal types are equal, and the test of two types is equality.
use Rattle.std.proofs.Common.{◌≡◌, true, refl}
use Rattle.std.proofs.lemmas.Bool.{and_parts, and_from}
use Rattle.pcf_values.specs.Terms.{TyTree, nat, arrow, product, same_type}

pub arrow_left : {a b c d : TyTree} → arrow a b ≡ arrow c d → a ≡ c
arrow_left e = cc

pub arrow_right : {a b c d : TyTree} → arrow a b ≡ arrow c d → b ≡ d
arrow_right e = cc

pub product_left : {a b c d : TyTree} → product a b ≡ product c d → a ≡ c
product_left e = cc

pub product_right : {a b c d : TyTree} → product a b ≡ product c d → b ≡ d
product_right e = cc

-- a type passes the test with itself
pub same_refl : (a : TyTree) → same_type a a ≡ true
same_refl nat = refl
same_refl (arrow a b) = and_from (same_type a a) (same_type b b) (same_refl a) (same_refl b)
same_refl (product a b) = and_from (same_type a a) (same_type b b) (same_refl a) (same_refl b)

-- types that pass the test are one
pub same_is : (a b : TyTree) → same_type a b ≡ true → a ≡ b
same_is nat nat h = refl
same_is nat (arrow c d) h = cc
same_is nat (product c d) h = cc
same_is (arrow a b) nat h = cc
same_is (arrow a b) (arrow c d) h =
    let p = same_is a c (and_parts (same_type a c) (same_type b d) h).0 in
    let q = same_is b d (and_parts (same_type a c) (same_type b d) h).1 in
    λ k. arrow (p k) (q k)
same_is (arrow a b) (product c d) h = cc
same_is (product a b) nat h = cc
same_is (product a b) (arrow c d) h = cc
same_is (product a b) (product c d) h =
    let p = same_is a c (and_parts (same_type a c) (same_type b d) h).0 in
    let q = same_is b d (and_parts (same_type a c) (same_type b d) h).1 in
    λ k. product (p k) (q k)
