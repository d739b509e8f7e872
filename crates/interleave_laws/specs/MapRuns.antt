-- What holds in every state over finite maps that a log leads to.
use Rattle.std.specs.Prelude.{◌<◌, ℕ, List, length, Option, Some, None}
use Rattle.net_build.specs.Nets.{NetTree}
use Rattle.net_build.specs.Sound.{Sound}
use Rattle.interleave_laws.specs.Runs.{Runs}
use Rattle.interleave_laws.specs.Maps.{MapState, LeadsToMap, seen}
use Rattle.interleave_laws.specs.States.{State}

-- the state is the run of a log of fewer than so many moves
abbrev pub IsReachedWithin : NetTree → ℕ → MapState → Type 0
IsReachedWithin net n S = (log : List ℕ) × LeadsToMap net log S × (length log < n)

-- it holds in every state of maps that a log leads to, on every sound net
abbrev pub InEveryMapState : (NetTree → List ℕ → MapState → Type 0) → Type 0
InEveryMapState P = (net : NetTree) → Sound net → (log : List ℕ) (S : MapState) → LeadsToMap net log S → P net log S

-- it holds in every state of maps that a log leads to, on every net that runs
abbrev pub InEveryMapRun : (NetTree → List ℕ → MapState → Type 0) → Type 0
InEveryMapRun P = (net : NetTree) → Runs net → (log : List ℕ) (S : MapState) → LeadsToMap net log S → P net log S

-- what a state of maps answers that may not be there
abbrev pub option_seen : Option MapState → Option State
option_seen None = None
option_seen (Some S) = Some (seen S)
