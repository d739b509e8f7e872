-- Tickets: the test tells them apart, and so does their order in a finite map.
use Rattle.std.proofs.Common.{◌≡◌, ℕ, true, subst}
use Rattle.std.proofs.lemmas.Bool.{eq-eqb, eqb-true}
use Rattle.std.specs.Prelude.{nat_eq}
use Rattle.std.specs.Ordering.{nat_cmp, eq_by_cmp}
use Rattle.std.specs.FinMap.{nat_cmp-IsAntisymmetric}
use Rattle.std.specs.Cmp.{eq_by_cmp_equiv}
use Rattle.std.proofs.lemmas.Cmp.{nat_cmp_total}
use Rattle.fork_join.proofs.Keys.{same_bool, is_equal}

-- the tests of tickets
pub test_nat : (j i : ℕ) → eq_by_cmp nat_cmp j i ≡ nat_eq j i
test_nat j i = same_bool _ _ (λ h. eq-eqb j i (nat_cmp-IsAntisymmetric j i (is_equal _ h))) (λ h. let e = eqb-true j i h in
    subst (λ i. eq_by_cmp nat_cmp j i ≡ true) e ((eq_by_cmp_equiv nat_cmp_total).refl j))
