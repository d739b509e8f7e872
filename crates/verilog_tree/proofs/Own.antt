-- Names of two kinds: what is told of a kind by a test tells them apart.
use Rattle.std.proofs.Common.{◌≡◌, Bool, true, false, not, ◌||◌, refl, ap, sym, subst, ◌∙◌}
use Rattle.std.proofs.lemmas.Bool.{true_from_ne_false, false_from_ne_true}
use Rattle.std.proofs.lemmas.Float.{T_from_true}
use Prim.Native.String.{String}
use lib.Dec.{T}
use lib.Text.{eqt, eqt→eq, eqt_refl}

pub one_name : (x y : String) → eqt x y ≡ true → x ≡ y
one_name x y e = eqt→eq x y (T_from_true (eqt x y) e)

pub same_name : (x : String) → eqt x x ≡ true
same_name x = true_from_ne_false (eqt x x) (λ e. subst T e (eqt_refl x))

-- one of a test and nothing is the test
pub off_either : (a : Bool) → (a || false) ≡ true → a ≡ true
off_either true h = refl
off_either false h = absurd cc

-- texts that aren't the same
pub apart_names : (x y : String) → (x ≡ y → ⊥) → eqt x y ≡ false
apart_names x y h = false_from_ne_true (eqt x y) (λ e. h (one_name x y e))

-- a name of the one kind isn't one of the other
pub foreign : (own : String → Bool) (x y : String) → own x ≡ true → own y ≡ false → eqt x y ≡ false
foreign own x y h g = apart_names x y (λ e. let z : true ≡ false = sym h ∙ ap own e ∙ g in absurd cc)

pub turned : (own : String → Bool) (x y : String) → own x ≡ false → own y ≡ true → eqt x y ≡ false
turned own x y h g = foreign (λ z. not (own z)) x y (ap not h) (ap not g)
