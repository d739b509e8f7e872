-- What is true behind so many moves, the newest question first. No clause of a public call cites it: it serves the proofs of `newest_run`
-- and `newest_schedule`. The ticket that moves and those that wait are those of the processor.
use Rattle.std.specs.Prelude.{◌≡◌, ℕ, List, [], ◌∷◌, ◌++◌, length, Some, None}
use Rattle.std.specs.Option.{option_map}
use Rattle.net_build.specs.Nets.{NetTree}
use Rattle.move_rules.specs.Places.{TokenTree}
use Rattle.interleave_laws.specs.Maps.{MapState, LeadsToMap, seen}
use Rattle.interleave_core.specs.declared.stepped.Stepped.{Stepped}
use Rattle.interleave_core.specs.declared.stepped.Stepped.TheVariants.{Went, Forked, Kept, Joined, Answered}
use Rattle.newest_core.specs.Processor.{Half, waits, came, OpenFork, Registers, ticks, reset, newest}
use Rattle.newest_core.specs.ProcessorLaws.{Shows}
use Rattle.newest_runs.specs.declared.turn.Turn.{Turn}

-- all stays
abbrev pub Stays : Turn → Turn → Type 0
Stays w v = (v.ticket ≡ w.ticket) × (v.waiting.items ≡ w.waiting.items)

-- the newest ticket that waits goes on
abbrev pub Takes : Turn → Turn → Type 0
Takes w v = (is : List ℕ) (i : ℕ) → w.waiting.items ≡ is ++ i ∷ [] → (v.ticket ≡ Some i) × (v.waiting.items ≡ is)

-- what a step does with tickets
abbrev pub GoesOn : Stepped → Turn → Turn → Type 0
GoesOn Went w v = Stays w v
GoesOn (Forked i) w v = (v.ticket ≡ w.ticket) × (v.waiting.items ≡ w.waiting.items ++ i ∷ [])
GoesOn Kept w v = Takes w v
GoesOn (Joined u y) w v = Stays w v
GoesOn (Answered y) w v = (v.ticket ≡ None) × (v.waiting.items ≡ w.waiting.items)

-- the tickets, and the one that waits with a fork behind them
abbrev pub and_half : List ℕ → Half → List ℕ
and_half is (waits j p) = is ++ j ∷ []
and_half is (came v) = is

-- the tickets that wait with forks, that of the innermost last
abbrev pub all_waiting : List OpenFork → List ℕ
all_waiting [] = []
all_waiting (f ∷ fs) = and_half (all_waiting fs) f.half

-- the tickets are those of the registers
pub record IsTurn (R : Registers) (w : Turn) : Type 0 where
  pub ticket : w.ticket ≡ option_map (λ (c : ℕ × TokenTree). c.0) R.live
  pub waiting : w.waiting.items ≡ all_waiting R.forks

-- the newest order's moves, so many, lead to this state, which the processor's registers show, and the tickets are theirs
pub record IsMoved (net : NetTree) (S : MapState) (w : Turn) (moves : ℕ) : Type 0 where
  pub leads : LeadsToMap net (newest net moves) S
  pub made : length (newest net moves) ≡ moves
  pub shows : Shows (ticks net moves (reset net)) (seen S)
  pub turn : IsTurn (ticks net moves (reset net)) w
