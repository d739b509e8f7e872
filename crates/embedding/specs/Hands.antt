-- What moves by hand come to.
use Rattle.std.specs.Prelude.{◌≡◌, ℕ, List, length, Option}
use Rattle.pcf_values.specs.declared.val.Val.{Val}
use Rattle.cbn_meaning.specs.Meaning.{Means}
use Rattle.net_build.specs.Nets.{NetTree}
use Rattle.net_build.specs.NetOf.{net_of}
use Rattle.interleave_laws.specs.Maps.{MapState, LeadsToMap}
use Rattle.interleave_laws.specs.Finished.{Finished}
use Rattle.program_runs.specs.Programs.{OfGround}
use Rattle.program_runs.specs.Runs.{Tells}
use Rattle.embedding.specs.Lines.{budget}

-- so many moves led from the net's start to this state
pub record IsAt (net : NetTree) (state : MapState) (moves : ℕ) : Type 0 where
  pub log : List ℕ
  pub led : LeadsToMap net log state
  pub long : length log ≡ moves

-- so many moves led to a state with this answer, or the budget is spent
pub record IsWalked (net : NetTree) (answer : Option Val) (moves : ℕ) : Type 0 where
  pub state : MapState
  pub at : IsAt net state moves
  pub answer_is : answer ≡ state.answered
  pub finished : Finished state.answered at.log budget

-- the text is a program of type `nat`, of which this is so
abbrev pub WalksText : List ℕ → Option Val → ℕ → Type 0
WalksText bytes answer moves = OfGround bytes (λ t. Tells (Means t) (net_of t) budget answer moves)
