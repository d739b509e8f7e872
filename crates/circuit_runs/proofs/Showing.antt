-- Numbers of two halves, and what registers show.
use Rattle.std.proofs.Common.{◌≡◌, ◌≢◌, ◌∙◌, ◌≤◌, ◌<◌, ◌+◌, ◌*◌, ◌/◌, ◌%◌, ◌^◌, ℕ, Bool, true, false, refl, sym, arith}
use Rattle.std.specs.Prelude.{nat_eq}
use Rattle.std.proofs.Math.Nat.{mod-add-div}
use Rattle.std.proofs.lemmas.Bool.{eqb-true, eqb-false}
use Rattle.std.proofs.lemmas.Nat.{mod_below}
use Rattle.verilog_tree.specs.Meaning.{Store}
use Rattle.circuit_runs.specs.Running.{Goes, IsDone, Shows}
use Rattle.circuit_runs.specs.declared.outcome.Outcome.TheVariants.{Ended, Full, Odd}
use Rattle.pcf_values.specs.declared.val.Val.{Val}
use Rattle.pcf_values.specs.declared.val.Val.TheVariants.{Number, Overflow}
use Rattle.circuit_module.specs.Stands.{Small, value_number}

-- both halves together
pub halves : (n h l m : ℕ) → h ≡ n / 2 ^ 32 → l ≡ n % 2 ^ 32 → m ≡ h * 2 ^ 32 + l → m ≡ n
halves n h l m a b c = let e : n % 2 ^ 32 + 2 ^ 32 * (n / 2 ^ 32) ≡ n = mod-add-div n (2 ^ 32) in omega arith

-- a number of two halves is below 2 ^ 64
pub joins : (n h l m : ℕ) → h ≡ n / 2 ^ 32 → h < 2 ^ 32 → l ≡ n % 2 ^ 32 → l < 2 ^ 32 → m ≡ h * 2 ^ 32 + l → (m ≡ n) × (m < 2 ^ 64)
joins n h l m a p b q c = (halves n h l m a b c, omega arith)

-- a number whose upper half is too large
pub past_end : (n h : ℕ) → h ≡ n / 2 ^ 32 → 2 ^ 32 ≤ h → 2 ^ 64 ≤ n
past_end n h a l = let e : n % 2 ^ 32 + 2 ^ 32 * (n / 2 ^ 32) ≡ n = mod-add-div n (2 ^ 32) in omega arith

-- a lower half never is
pub low_past : (n l : ℕ) → l ≡ n % 2 ^ 32 → 2 ^ 32 ≤ l → ⊥
low_past n l a h = let e : n % 2 ^ 32 < 2 ^ 32 = mod_below n (2 ^ 32) (omega arith) in omega arith

-- no value has a number past overflow's
pub no_value : (v : Val) (r : ℕ) → Small v → 2 ^ 64 < r → r ≡ value_number v → ⊥
no_value (Number n) r s l e = omega (arith, s)
no_value Overflow r s l e = omega arith

-- so registers that show such a number show no value, whatever the moves are
pub odd_result : (r w : ℕ) → 2 ^ 64 < r → (v : Val) (m : ℕ) → Small v → m < 2 ^ 64 → r ≡ value_number v → w ≡ m → ⊥
odd_result r w l v m s h e f = no_value v r s l e

-- nor do they where the moves have too many bits
pub odd_moves : (r w : ℕ) → 2 ^ 64 ≤ w → (v : Val) (m : ℕ) → Small v → m < 2 ^ 64 → r ≡ value_number v → w ≡ m → ⊥
odd_moves r w l v m s h e f = omega arith

-- a register that isn't 0
up : (n : ℕ) (b : Bool) → b ≡ nat_eq n 0 → b ≡ false → n ≢ 0
up n b e f = eqb-false n 0 (sym e ∙ f)

-- and one that is
down : (n : ℕ) (b : Bool) → b ≡ nat_eq n 0 → b ≡ true → n ≡ 0
down n b e f = eqb-true n 0 (sym e ∙ f)

-- what is shown where `full` is up
pub shows_full : (T : Store) (k : ℕ) (f : Bool) → f ≡ nat_eq (T.vec "full") 0 → f ≡ false → Shows T k (Full k)
shows_full T k f e h = (refl, up (T.vec "full") f e h)

-- neither `full` nor `done` is up
pub goes : (T : Store) (f d : Bool) → f ≡ nat_eq (T.vec "full") 0 → f ≡ true → d ≡ nat_eq (T.vec "done") 0 → d ≡ true → Goes T
goes T f d a b e h = (down (T.vec "done") d e h, down (T.vec "full") f a b)

-- `done` alone is up
pub done_is_up : (T : Store) (f d : Bool) → f ≡ nat_eq (T.vec "full") 0 → f ≡ true → d ≡ nat_eq (T.vec "done") 0 → d ≡ false → IsDone T
done_is_up T f d a b e h = (up (T.vec "done") d e h, down (T.vec "full") f a b)

-- a value, and the moves
pub shows_value : (T : Store) (k m : ℕ) (v : Val) → IsDone T → (value_number v ≡ T.vec "result") × Small v →
    (m ≡ T.vec "moves") × (m < 2 ^ 64) → Shows T k (Ended v m k)
shows_value T k m v d r w = (refl, d, r.1, sym r.0, sym w.0)

-- a number that is no value's
pub shows_no_value : (T : Store) (k : ℕ) → IsDone T → 2 ^ 64 < T.vec "result" → Shows T k (Odd k)
shows_no_value T k d l = (refl, d, odd_result (T.vec "result") (T.vec "moves") l)

-- moves of too many bits
pub shows_no_moves : (T : Store) (k : ℕ) → IsDone T → 2 ^ 64 ≤ T.vec "moves" → Shows T k (Odd k)
shows_no_moves T k d l = (refl, d, odd_moves (T.vec "result") (T.vec "moves") l)
