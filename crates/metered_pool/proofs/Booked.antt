-- What a metered pool is after a booking.
use Rattle.std.proofs.Common.{◌≡◌, ℕ, length, subst, Result, Ok, Err, IfOk}
use Rattle.branch_runs.specs.Branching.{Grown}
use Rattle.progress_meter.specs.Meters.{Publisher, with_number}
use Rattle.token_pool.specs.Pools.{Pool}
use Rattle.branch_pool.specs.Benches.{TakesBranch}
use Rattle.metered_pool.specs.Metered.{Metered, Books}

-- the pool took it in, and the writer published how many moves there are
pub books : (m old : Metered) (w : ℕ) (made : Grown) (q : Pool) (writer : Publisher) → m ≡ old → TakesBranch m.pool w made q
    → writer ≡ with_number m.writer (length q.log) → Books old w made (record { pool = q; writer = writer })
books m old w made q writer same took published =
    subst (λ (o : Metered). Books o w made (record { pool = q; writer = writer })) same (took, published)

-- and so it is where a call says both of its Ok
pub books_if_ok : {A E : Type 0} (r : Result A E) (m old : Metered) (w : ℕ) (made : Grown) (q : Pool) (writer : Publisher) → m ≡ old →
    IfOk r (λ _. TakesBranch m.pool w made q) → IfOk r (λ _. writer ≡ with_number m.writer (length q.log)) →
    IfOk r (λ _. Books old w made (record { pool = q; writer = writer }))
books_if_ok (Ok a) m old w made q writer same took published = books m old w made q writer same took published
books_if_ok (Err e) m old w made q writer same took published = tt
