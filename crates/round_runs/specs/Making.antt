-- What is true of rounds that were made. No clause of a public call cites it: it serves the proof of `run_rounds`.
use Rattle.std.specs.Prelude.{◌≡◌, ◌≤◌, ◌<◌, ℕ, List, length, Some, None}
use Rattle.net_build.specs.Nets.{NetTree}
use Rattle.interleave_laws.specs.States.{State}
use Rattle.interleave_laws.specs.Maps.{MapState, LeadsToMap, seen}
use Rattle.round_laws.specs.Rounds.{round_log}
use Rattle.round_laws.specs.AfterRounds.{rounds}
use Rattle.round_runs.specs.Profiles.{profile_of, greatest}

-- as many rounds as the profile is long led to the state, by these tickets, and none before them had answered
pub record IsMade (net : NetTree) (tickets profile : List ℕ) (w : ℕ) (S : MapState) : Type 0 where
  pub log : tickets ≡ round_log net (length profile)
  pub widths : profile ≡ profile_of net (length profile)
  pub at : rounds net (length profile) ≡ Some (seen S)
  pub led : LeadsToMap net tickets S
  pub fresh : (j : ℕ) (T : State) → j < length profile → rounds net j ≡ Some T → T.answered ≡ None
  pub few : length profile ≤ length tickets
  pub widest : w ≡ greatest profile
