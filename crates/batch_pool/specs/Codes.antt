-- How the logic stores a batch, so that a struct's `impl Model` can have one as its value.
use Rattle.std.specs.Prelude.{ℕ, Bool, List, refl}
use Rattle.std.specs.Coded.{Coded, code_by, coded×, coded_list, coded_ℕ, coded_bool}
use Rattle.token_pool.specs.Pools.{Pool}
use Rattle.token_pool.specs.Codes.{pool_code}
use Rattle.batch_pool.specs.Batches.{Batch}

-- a batch as its parts
abbrev pub BatchParts : Type 0
BatchParts = List Pool × (ℕ × Bool)

abbrev pub batch_parts_code : Coded BatchParts
batch_parts_code = coded× (coded_list pool_code) (coded× coded_ℕ coded_bool)

abbrev pub batch_code : Coded Batch
batch_code = code_by BatchParts batch_parts_code (λ b. (b.pools, (b.workers, b.stopped)))
    (λ q. record { pools = q.0; workers = q.1.0; stopped = q.1.1 })
    (λ _. refl)

-- a batch from its parts
abbrev pub batch : List Pool → ℕ → Bool → Batch
batch pools workers stopped = record { pools = pools; workers = workers; stopped = stopped }
