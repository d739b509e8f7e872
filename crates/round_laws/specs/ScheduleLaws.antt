-- What holds of schedules: the statements of `law_schedules` and `law_processors`.
-- The span bounds every schedule from below, and p processors bound it by their part of the moves. A schedule that leaves none of them idle
-- takes moves / p + (1 - 1 / p) * span units at most (Brent 1974), so at most 2 - 1 / p times as many as the best (Graham 1966).
use Rattle.std.specs.Prelude.{◌≡◌, ◌≤◌, ◌+◌, ◌-◌, ◌*◌, ℕ, suc, List, length, Some, None}
use Rattle.pcf_values.specs.declared.val.Val.{Val}
use Rattle.net_build.specs.Nets.{NetTree}
use Rattle.interleave_laws.specs.States.{State}
use Rattle.interleave_laws.specs.Runs.{Runs, LeadsTo}
use Rattle.interleave_laws.specs.Bare.{SameBare}
use Rattle.adequacy_laws.specs.Questions.{Length, Span}
use Rattle.round_laws.specs.Rounds.{live_of, round_log, round_units}
use Rattle.round_laws.specs.AfterRounds.{rounds}
use Rattle.round_laws.specs.Units.{joined, IsSchedule, IsProcessorsSchedule, LeavesNoneIdle}

-- rounds are a schedule, and one that leaves none idle of any number of processors
abbrev pub RoundsSchedule : Type 0
RoundsSchedule = (net : NetTree) → Runs net → (p k : ℕ) → LeavesNoneIdle p net (round_units net k) ×
    (joined (round_units net k) ≡ round_log net k) × (length (round_units net k) ≡ k)

-- no schedule is faster: where its units have answered, they are at least as many as the span
abbrev pub NoFaster : Type 0
NoFaster = (net : NetTree) → Runs net → (ls : List (List ℕ)) → IsSchedule net ls → (S : State) →
    LeadsTo net (joined ls) S → (v : Val) → S.answered ≡ Some v → (n : ℕ) × Span net v n × (n ≤ length ls)

-- a schedule that leaves none of p processors idle: as long as there is no answer, p times the next unit's number is at most one more than
-- the moves so far, and (p - 1) times the span
abbrev pub NearlyAsFast : Type 0
NearlyAsFast = (net : NetTree) → Runs net → (v : Val) (n : ℕ) → Span net v n → (p : ℕ) → 1 ≤ p → (ls : List (List ℕ)) →
    LeavesNoneIdle p net ls → (S : State) → LeadsTo net (joined ls) S → S.answered ≡ None →
    p * suc (length ls) ≤ suc (length (joined ls)) + (p - 1) * n

-- so the answer comes after moves / p + (1 - 1 / p) * span units at most: where the net has this length and span, each unit whose number is
-- greater finds an answer
abbrev pub BoundOfBrent : Type 0
BoundOfBrent = (net : NetTree) → Runs net → (v w : Val) (n m : ℕ) → Span net v n → Length net w m → (p : ℕ) → 1 ≤ p →
    (ls : List (List ℕ)) → LeavesNoneIdle p net ls → (S : State) → LeadsTo net (joined ls) S → S.answered ≡ None →
    p * suc (length ls) ≤ m + (p - 1) * n

-- where no more than p tokens are live before any round, such a schedule makes rounds: after as many units the state is that of the
-- rounds, but for tickets
abbrev pub EnoughProcessors : Type 0
EnoughProcessors = (net : NetTree) → Runs net → (p : ℕ) →
    ((k : ℕ) (S : State) → rounds net k ≡ Some S → length (live_of S) ≤ p) → (ls : List (List ℕ)) → LeavesNoneIdle p net ls →
    (S T : State) → LeadsTo net (joined ls) S → rounds net (length ls) ≡ Some T → SameBare S T

-- p processors can leave none idle: of every number of units there is such a schedule, whose units have p tickets at most
abbrev pub ProcessorsCan : Type 0
ProcessorsCan = (net : NetTree) → Runs net → (p k : ℕ) → (ls : List (List ℕ)) × IsProcessorsSchedule p net ls ×
    LeavesNoneIdle p net ls × (length ls ≡ k) × ((S : State) × LeadsTo net (joined ls) S)

-- the units of p processors are at least a p-th of the moves
abbrev pub WorkTakesUnits : Type 0
WorkTakesUnits = (net : NetTree) (p : ℕ) (ls : List (List ℕ)) → IsProcessorsSchedule p net ls → length (joined ls) ≤ p * length ls

-- so whatever p processors do, leaving none idle takes at most 2 - 1 / p times as long: before the answer, the next unit's number is at
-- most as many times the units of any schedule of p processors that has answered
abbrev pub BoundOfGraham : Type 0
BoundOfGraham = (net : NetTree) → Runs net → (p : ℕ) → 1 ≤ p → (ls ms : List (List ℕ)) → LeavesNoneIdle p net ls →
    IsProcessorsSchedule p net ms → (S T : State) → LeadsTo net (joined ls) S → LeadsTo net (joined ms) T → S.answered ≡ None →
    (v : Val) → T.answered ≡ Some v → p * suc (length ls) ≤ (2 * p - 1) * length ms
