-- The state after so many rounds, of which the laws speak.
use Rattle.std.specs.Prelude.{ℕ, zero, suc, Option, Some}
use Rattle.net_build.specs.Nets.{NetTree}
use Rattle.interleave_laws.specs.Start.{start_of}
use Rattle.interleave_laws.specs.States.{State, start, then_run}
use Rattle.round_laws.specs.Rounds.{round}

-- the state after so many rounds
abbrev pub rounds_from : NetTree → ℕ → State → Option State
rounds_from net zero S = Some S
rounds_from net (suc k) S = then_run (round net S) (λ T. rounds_from net k T)

-- the same from the net's start
abbrev pub rounds : NetTree → ℕ → Option State
rounds net k = rounds_from net k (start (start_of net))
