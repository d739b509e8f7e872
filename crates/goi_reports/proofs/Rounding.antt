-- The lines of rounds, and the log of their tickets.
use Rattle.std.proofs.Common.{◌≡◌, ◌<◌, ◌≤◌, ℕ, List, [], ◌∷◌, length, take, refl, sym, ap, arith}
use Rattle.std.proofs.lemmas.List.{take_all, length-take-le}
use Rattle.schedule_log.specs.Logs.{by, tickets_in_log}

-- a log that is made of tickets has these tickets
pub tickets_kept : (tickets : List ℕ) → tickets_in_log (by 0 tickets) ≡ tickets
tickets_kept [] = refl
tickets_kept (t ∷ ts) = ap (λ l. t ∷ l) (tickets_kept ts)

-- the first entries of a longer list are so many, and of a shorter one all of it
pub first_of : (most : ℕ) (l : List ℕ) → most < length l → length (take most l) ≡ most
first_of most l more = length-take-le most l (omega (arith, more))

pub all_of : (most : ℕ) (l : List ℕ) → length l ≤ most → l ≡ take most l
all_of most l few = sym (take_all most l few)
