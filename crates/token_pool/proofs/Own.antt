-- The move that a log kept as runs has last.
use Rattle.std.proofs.Common.{◌≡◌, ◌-◌, ◌≤◌, ℕ, zero, suc, List, [], ◌∷◌, ◌++◌, length, replicate, get_or, nat_eq, Option, Some, None}
use Rattle.std.proofs.Common.{if◌then◌else◌, Bool, refl, sym, ap, ◌∙◌, arith}
use Rattle.schedule_log.specs.declared.entry.Entry.{Entry}
use Rattle.schedule_log.specs.KeptRuns.{MovesSeen, Each, spread, move_of}
use Rattle.token_pool.specs.Branches.{last_entry, ticket_by, last_by}

last_both : (o : Option Entry) (log more : List Entry) → last_entry o (log ++ more) ≡ last_entry (last_entry o log) more
last_both o [] more = refl
last_both o (e ∷ log) more = last_both (Some e) log more

last_many : (o : Option Entry) (e : Entry) (n : ℕ) → 1 ≤ n → last_entry o (replicate n e) ≡ Some e
last_many o e zero l = absurd (omega (arith, l))
last_many o e (suc zero) l = refl
last_many o e (suc (suc n)) l = last_many (Some e) e (suc n) (omega arith)

-- the last run's move is the last
pub last_of_runs : (o : Option Entry) (rs : List MovesSeen) (d : MovesSeen) → Each rs → 1 ≤ length rs →
    last_entry o (spread rs) ≡ Some (move_of (get_or rs (length rs - 1) d))
last_of_runs o [] d each l = absurd (omega (arith, l))
last_of_runs o (r ∷ []) d (fair, each) l =
    last_both o (replicate r.count (move_of r)) [] ∙ last_many o (move_of r) r.count fair.0
last_of_runs o (r ∷ (q ∷ rs)) d (fair, each) l =
    last_both o (replicate r.count (move_of r)) (spread (q ∷ rs)) ∙
    last_of_runs (last_entry o (replicate r.count (move_of r))) (q ∷ rs) d each (omega arith) ∙
    ap (λ k. Some (move_of (get_or (q ∷ rs) k d))) two ∙ sym (ap (λ k. Some (move_of (get_or (r ∷ (q ∷ rs)) k d))) one)
  where
    one : length (r ∷ (q ∷ rs)) - 1 ≡ suc (length rs)
    one = omega arith

    two : length (q ∷ rs) - 1 ≡ length rs
    two = omega arith

-- so the ticket that moved last is told by the last run
pub told_last : (w n : ℕ) (rs : List MovesSeen) (log : List Entry) (d r : MovesSeen) (b : Bool) → Each rs → spread rs ≡ log →
    n ≡ length rs →
    1 ≤ n → r ≡ get_or rs (n - 1) d → nat_eq r.worker w ≡ b → (if b then Some r.ticket else None) ≡ last_by w log
told_last w n rs log d r b each s m l e q =
    let last : last_entry None log ≡ Some (move_of r) =
    ap (last_entry None) (sym s) ∙ last_of_runs None rs d each (omega (arith, m, l)) ∙
    ap (λ k. Some (move_of (get_or rs (k - 1) d))) (sym m) ∙ ap (λ r. Some (move_of r)) (sym e) in
    ap (λ b. if b then Some r.ticket else None) (sym q) ∙ ap (ticket_by w) (sym last)
