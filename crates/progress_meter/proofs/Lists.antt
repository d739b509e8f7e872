-- Lists of numbers whose last one grows, and the places of a list.
use Rattle.std.proofs.Common.{◌≡◌, ℕ, zero, suc, ◌-◌, ◌<◌, ◌≤◌, List, [], ◌∷◌, ◌++◌, length, get_or, refl}
use Rattle.std.proofs.Common.{sym, ap, ◌∙◌, subst, arith, length-append}
use Rattle.std.specs.Prelude.{All, Contains}
use Rattle.std.specs.List.Sorted.{IsNonDecreasing}
use Rattle.std.proofs.lemmas.List.Elements.{All-weaker, All-contains, Contains-append_left, Contains-get_or, All-push}
use Rattle.std.proofs.lemmas.List.Sorted.{IsNonDecreasingBy-push, IsNonDecreasingBy-short}
use mathlib.Core.Option.{some, some-ne-none}
use lib.ListN.{get_elem?}
use Rattle.progress_meter.specs.Meters.{RisesFromZero, AreReadingsOf}
use Rattle.progress_meter.specs.Last.{last_of}

-- the last of a list with a number behind it is that number
pub last_of-push : (xs : List ℕ) (n : ℕ) → last_of (xs ++ n ∷ []) ≡ n
last_of-push [] n = refl
last_of-push (x ∷ []) n = refl
last_of-push (x ∷ y ∷ ys) n = last_of-push (y ∷ ys) n

-- and it begins as before
begins-push : (xs : List ℕ) (n : ℕ) → 0 < length xs → get_or (xs ++ n ∷ []) 0 0 ≡ get_or xs 0 0
begins-push [] n some_number = absurd (omega arith)
begins-push (x ∷ xs) n some_number = refl

-- the last number by its place, whatever stands for a number past the end
last_at : (xs : List ℕ) (d : ℕ) → 0 < length xs → get_or xs (length xs - 1) d ≡ last_of xs
last_at [] d some_number = absurd (omega arith)
last_at (x ∷ []) d some_number = refl
last_at (x ∷ y ∷ ys) d some_number =
    let place : length (x ∷ y ∷ ys) - 1 ≡ suc (length (y ∷ ys) - 1) = omega arith in
    ap (λ k. get_or (x ∷ y ∷ ys) k d) place ∙ last_at (y ∷ ys) d (omega arith)

-- numbers that never go down go on with a number that isn't below their last
pub never_down-push : (xs : List ℕ) (n : ℕ) → IsNonDecreasing xs → last_of xs ≤ n → IsNonDecreasing (xs ++ n ∷ [])
never_down-push xs n rises up = IsNonDecreasingBy-push (λ x. x) xs n rises (λ d some_number. omega (arith, last_at xs d some_number))

-- and so do numbers that rise from 0
pub rises-push : (xs : List ℕ) (n : ℕ) → RisesFromZero xs → last_of xs ≤ n → RisesFromZero (xs ++ n ∷ [])
rises-push xs n rises up = record {
  some_number = omega (arith, length-append xs (n ∷ []));
  begins = begins-push xs n rises.some_number ∙ rises.begins;
  rises = never_down-push xs n rises.rises up;
}

-- 0 alone rises from 0
pub zero_rises : RisesFromZero (0 ∷ [])
zero_rises = record { some_number = omega arith; begins = refl; rises = IsNonDecreasingBy-short (λ x. x) (0 ∷ []) (omega arith) }

-- where numbers never go down, each is at most the last
pub at_most_last : (xs : List ℕ) → IsNonDecreasing xs → All (λ x. x ≤ last_of xs) xs
at_most_last xs rises k d inside =
    let last = last_at xs d (omega arith) in
    let below = rises k (length xs - 1) d (omega arith) (omega arith) in
    omega arith

-- a reader's last reading is at most the number published last
pub last_reading : (log readings : List ℕ) → IsNonDecreasing log → AreReadingsOf log readings → last_of readings ≤ last_of log
last_reading log [] rises are = omega arith
last_reading log (x ∷ xs) rises are =
    let last = last_at (x ∷ xs) 0 (omega arith) in
    let there = subst (Contains log) last (are.1 (length (x ∷ xs) - 1) 0 (omega arith)) in
    All-contains (λ y. y ≤ last_of log) log (last_of (x ∷ xs)) (at_most_last log rises) there

-- the number published last was published
pub last_published : (log : List ℕ) → 0 < length log → Contains log (last_of log)
last_published log some_number = subst (Contains log) (last_at log 0 some_number) (Contains-get_or log (length log - 1) 0 (omega arith))

-- readings stay readings while more is published
pub readings_more : (log : List ℕ) (n : ℕ) (readings : List ℕ) → AreReadingsOf log readings →
    AreReadingsOf (log ++ n ∷ []) readings
readings_more log n readings are =
    (are.0, All-weaker (Contains log) (Contains (log ++ n ∷ [])) (λ x. Contains-append_left log (n ∷ []) x) readings are.1)

pub all_more : (log : List ℕ) (n : ℕ) (settled : List (List ℕ)) → All (AreReadingsOf log) settled →
    All (AreReadingsOf (log ++ n ∷ [])) settled
all_more log n settled are = All-weaker (AreReadingsOf log) (AreReadingsOf (log ++ n ∷ [])) (readings_more log n) settled are

-- and with one more reading, of the number published last
pub readings-push : (log readings : List ℕ) → 0 < length log → IsNonDecreasing log → AreReadingsOf log readings →
    AreReadingsOf log (readings ++ last_of log ∷ [])
readings-push log readings some_number rises are = (
  never_down-push readings (last_of log) are.0 (last_reading log readings rises are),
  All-push (Contains log) readings (last_of log) are.1 (last_published log some_number),
)

-- 0 alone is read of any list that begins with 0
pub readings_of_zero : (log : List ℕ) → 0 < length log → get_or log 0 0 ≡ 0 → AreReadingsOf log (0 ∷ [])
readings_of_zero log some_number begins = (zero_rises.rises, λ k d inside. (0, some_number, zero_at log some_number begins k d inside))
  where
    zero_at : (log : List ℕ) → 0 < length log → get_or log 0 0 ≡ 0 → (k d : ℕ) → k < 1 →
        get_or log 0 (get_or (0 ∷ []) k d) ≡ get_or (0 ∷ []) k d
    zero_at [] some_number begins k d inside = absurd (omega arith)
    zero_at (x ∷ xs) some_number begins zero d inside = begins
    zero_at (x ∷ xs) some_number begins (suc k) d inside = absurd (omega arith)

-- what stands at a place stands inside
pub is_inside : {A : Type 0} (l : List A) (i : ℕ) (a : A) → get_elem? l i ≡ some a → i < length l
is_inside [] i a e = absurd (some-ne-none a (sym e))
is_inside (x ∷ xs) zero a e = omega arith
is_inside (x ∷ xs) (suc i) a e = let inner = is_inside xs i a e in omega arith
