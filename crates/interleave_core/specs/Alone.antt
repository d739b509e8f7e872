-- Where a run of one worker stands: its list is the one worker's, and leads to its state. Only the code's own calls speak of this.
use Rattle.std.specs.Prelude.{ℕ, List}
use Rattle.net_build.specs.Nets.{NetTree}
use Rattle.interleave_laws.specs.OneWorkerLaws.{IsOneWorkers}
use Rattle.interleave_laws.specs.Maps.{MapState, LeadsToMap}

pub record RunsAlone (net : NetTree) (log : List ℕ) (S : MapState) : Type 0 where
  pub leads : LeadsToMap net log S
  pub ours : IsOneWorkers net log
