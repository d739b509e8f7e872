-- Rounds of a program, which the prover computes.
use Rattle.std.specs.Prelude.{◌≡◌, ℕ, [], ◌∷◌, map, length, Option, Some, None}
use Rattle.pcf_values.specs.declared.val.Val.TheVariants.{Number}
use Rattle.net_build.specs.Nets.{NetTree}
use Rattle.net_build.specs.Example.{doubled_net}
use Rattle.interleave_laws.specs.States.{State}
use Rattle.interleave_laws.specs.Example.{answer_of}
use Rattle.round_laws.specs.Rounds.{live_of, round_log}
use Rattle.round_laws.specs.AfterRounds.{rounds}

-- how many tokens are live after so many rounds
abbrev pub width_of : Option State → ℕ
width_of None = 0
width_of (Some S) = length (live_of S)

abbrev pub width_after : NetTree → ℕ → ℕ
width_after net k = width_of (rounds net k)

-- `(fun x:nat. x + x) 3`: 30 moves in 18 rounds, and not in 17; from the fork on two tokens walk side by side
pub record ExampleRounds : Type 0 where
  pub answers : answer_of (rounds doubled_net 18) ≡ Some (Number 6)
  pub not_before : answer_of (rounds doubled_net 17) ≡ None
  pub moves : length (round_log doubled_net 18) ≡ 30
  pub widths : map (width_after doubled_net) (0 ∷ 2 ∷ 3 ∷ 14 ∷ 15 ∷ 17 ∷ 18 ∷ []) ≡ 1 ∷ 1 ∷ 2 ∷ 2 ∷ 1 ∷ 1 ∷ 0 ∷ []
  pub log : round_log doubled_net 5 ≡ 0 ∷ 0 ∷ 0 ∷ 0 ∷ 1 ∷ 0 ∷ 1 ∷ []
