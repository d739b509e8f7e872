-- The tickets of a log up to a place, and how many they are.
use Rattle.std.proofs.Common.{◌≡◌, ℕ, zero, suc, ◌<◌, ◌≤◌, List, [], ◌∷◌, ◌++◌, length, take, drop, get_or, refl, ap, arith}
use Rattle.pcf_values.specs.Most.{most_moves, most_budget}
use Rattle.schedule_log.specs.declared.entry.Entry.{Entry}
use Rattle.schedule_log.specs.Logs.{tickets_in_log}

-- The tickets of a log up to a place, the one at the place, and those behind it.
pub tickets_split : (es : List Entry) (i : ℕ) (d : Entry) → i < length es →
    tickets_in_log es ≡ tickets_in_log (take i es) ++ (get_or es i d).ticket ∷ tickets_in_log (drop (suc i) es)
tickets_split [] i d u = absurd (omega (arith, u))
tickets_split (e ∷ es) zero d u = refl
tickets_split (e ∷ es) (suc i) d u = ap (λ ts. e.ticket ∷ ts) (tickets_split es i d (omega (arith, u)))

-- One more ticket is taken.
pub tickets_more : (es : List Entry) (i : ℕ) (d : Entry) → i < length es →
    tickets_in_log (take (suc i) es) ≡ tickets_in_log (take i es) ++ (get_or es i d).ticket ∷ []
tickets_more [] i d u = absurd (omega (arith, u))
tickets_more (e ∷ es) zero d u = refl
tickets_more (e ∷ es) (suc i) d u = ap (λ ts. e.ticket ∷ ts) (tickets_more es i d (omega (arith, u)))

-- There are as many tickets as entries were taken.
pub tickets_taken : (es : List Entry) (i : ℕ) → i ≤ length es → length (tickets_in_log (take i es)) ≡ i
tickets_taken es zero u = refl
tickets_taken [] (suc i) u = absurd (omega (arith, u))
tickets_taken (e ∷ es) (suc i) u = ap suc (tickets_taken es i (omega (arith, u)))

-- The tickets up to a place of a log that isn't too long are fewer than the moves of any budget that is.
pub taken_few : (es : List Entry) (i : ℕ) → i < length es → length es ≤ most_moves → length (tickets_in_log (take i es)) < most_budget
taken_few es i inside few = let e = tickets_taken es i (omega (arith, inside)) in omega (arith, e, inside, few)

-- A log has as many tickets as entries.
pub tickets_all : (es : List Entry) → length (tickets_in_log es) ≡ length es
tickets_all [] = refl
tickets_all (e ∷ es) = ap suc (tickets_all es)
