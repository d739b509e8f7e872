-- States that a net reaches, and the nets that run: all that the laws of interleavings ask of a net.
-- A net runs where it is sound and where no live token ever stands still. That such a token also has its step, a fork an entry that
-- isn't open yet and a join one that waits for its side, is no part of this; it is a law.
use Rattle.std.specs.Prelude.{◌≡◌, ◌≢◌, ℕ, List, Some}
use Rattle.net_build.specs.Nets.{NetTree}
use Rattle.net_build.specs.Sound.{Sound}
use Rattle.move_rules.specs.Places.{TokenTree}
use Rattle.move_rules.specs.Moves.{stay, move}
use Rattle.interleave_laws.specs.Start.{start_of}
use Rattle.interleave_laws.specs.States.{State, start, run}

-- the log leads from the net's start to the state
abbrev pub LeadsTo : NetTree → List ℕ → State → Type 0
LeadsTo net log S = run net (start (start_of net)) log ≡ Some S

pub record Runs (net : NetTree) : Type 0 where
  pub sound : Sound net
  -- each live token of each state that a log leads to has a move
  pub moves : (log : List ℕ) (S : State) → LeadsTo net log S → (i : ℕ) (x : TokenTree) → S.tokens i ≡ Some x →
      move net x ≢ stay

-- it holds in every state that a log leads to, on every sound net
abbrev pub InEveryState : (NetTree → List ℕ → State → Type 0) → Type 0
InEveryState P = (net : NetTree) → Sound net → (log : List ℕ) (S : State) → LeadsTo net log S → P net log S

-- it holds in every state that a log leads to, on every net that runs
abbrev pub InEveryRun : (NetTree → List ℕ → State → Type 0) → Type 0
InEveryRun P = (net : NetTree) → Runs net → (log : List ℕ) (S : State) → LeadsTo net log S → P net log S
