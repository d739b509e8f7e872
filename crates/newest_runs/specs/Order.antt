-- The order in which a circuit moves: the tickets that move, the newest question first, told of the machine alone.
use Rattle.std.specs.Prelude.{ℕ, List, [], ◌∷◌}
use Rattle.net_build.specs.Nets.{NetTree}
use Rattle.interleave_laws.specs.Start.{start_of}
use Rattle.interleave_laws.specs.States.{start}
use Rattle.newest_core.specs.Schedule.{stack_from}

-- at most so many moves of a net
abbrev pub newest_first : NetTree → ℕ → List ℕ
newest_first net k = stack_from net (start (start_of net)) (0 ∷ []) k
