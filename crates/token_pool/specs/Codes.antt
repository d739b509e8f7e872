-- How the logic stores a pool, so that a struct's `impl Model` can have one as its value.
use Rattle.std.specs.Prelude.{ℕ, Bool, List, Option, refl}
use Rattle.std.specs.Coded.{Coded, code_by, coded×, coded_list, coded_option, coded_ℕ, coded_bool}
use Rattle.net_build.specs.Nets.{NetTree}
use Rattle.net_build.specs.Codes.{net_code}
use Rattle.interleave_laws.specs.Maps.{MapState}
use Rattle.interleave_laws.specs.Codes.{state_code}
use Rattle.schedule_log.specs.declared.entry.Entry.{Entry}
use Rattle.schedule_log.specs.contracts.entry.Entry as entry
use Rattle.token_pool.specs.declared.entries.Held.{Held}
use Rattle.token_pool.specs.contracts.entries.Held as held
use Rattle.token_pool.specs.Pools.{Pool}

-- a pool as its parts
abbrev pub PoolParts : Type 0
PoolParts = NetTree × (ℕ × (ℕ × (MapState × (List Entry × (List (Option Held) × Bool)))))

abbrev pub parts_code : Coded PoolParts
parts_code =
    let log_code = coded_list entry.the_row.coded in
    let held_code = coded_list (coded_option held.the_row.coded) in
    coded× net_code (coded× coded_ℕ (coded× coded_ℕ (coded× state_code (coded× log_code (coded× held_code coded_bool)))))

abbrev pub pool_code : Coded Pool
pool_code = code_by PoolParts parts_code (λ p. (p.net, (p.budget, (p.workers, (p.state, (p.log, (p.held, p.stopped)))))))
    (λ q. record {
      net = q.0;
      budget = q.1.0;
      workers = q.1.1.0;
      state = q.1.1.1.0;
      log = q.1.1.1.1.0;
      held = q.1.1.1.1.1.0;
      stopped = q.1.1.1.1.1.1;
    })
    (λ _. refl)

-- a pool from its parts
abbrev pub pool : NetTree → ℕ → ℕ → MapState → List Entry → List (Option Held) → Bool → Pool
pool net budget workers state log held stopped = record {
  net = net;
  budget = budget;
  workers = workers;
  state = state;
  log = log;
  held = held;
  stopped = stopped;
}
