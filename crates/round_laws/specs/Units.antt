-- Units of time, in which any set of the live tickets moves, each once; and schedules, which are lists of units.
-- A round is the unit of all live tickets. A machine of p processors makes units of p tickets at most; where none of them is idle while a
-- token waits, a unit of fewer leaves no live ticket out.
use Rattle.std.specs.Prelude.{◌≡◌, ◌≤◌, ◌⊎◌, ℕ, List, [], ◌∷◌, ◌++◌, length, Option, Some, None}
use Rattle.net_build.specs.Nets.{NetTree}
use Rattle.move_rules.specs.Places.{TokenTree}
use Rattle.interleave_laws.specs.Start.{start_of}
use Rattle.interleave_laws.specs.States.{State, start, run}
use Rattle.interleave_laws.specs.Asked.{Member, Once}

-- the ticket has a token
abbrev pub LiveIn : State → ℕ → Type 0
LiveIn S i = (x : TokenTree) × (S.tokens i ≡ Some x)

-- a list of live tickets, each once
pub record IsUnit (S : State) (l : List ℕ) : Type 0 where
  pub live : (i : ℕ) → Member i l → LiveIn S i
  pub once : Once l

-- all live tickets are in the list
abbrev pub IsWhole : State → List ℕ → Type 0
IsWhole S l = (i : ℕ) → LiveIn S i → Member i l

-- it holds of the state, where there is one
abbrev pub InState : Option State → (State → Type 0) → Type 0
InState None P = ⊥
InState (Some S) P = P S

-- the list of lists as units, one after the other, each of which also meets P in the state in which it begins
abbrev pub AreUnits : (State → List ℕ → Type 0) → NetTree → State → List (List ℕ) → Type 0
AreUnits P net S [] = Unit {0}
AreUnits P net S (l ∷ ls) = IsUnit S l × P S l × InState (run net S l) (λ T. AreUnits P net T ls)

-- all tickets of a list of lists, in turn
abbrev pub joined : List (List ℕ) → List ℕ
joined [] = []
joined (l ∷ ls) = l ++ joined ls

-- no more is asked of a unit
abbrev pub AnyUnit : State → List ℕ → Type 0
AnyUnit S l = Unit {0}

-- none of p processors is idle while a token waits: the unit leaves no live ticket out, or has p tickets or more
abbrev pub NoneIdle : ℕ → State → List ℕ → Type 0
NoneIdle p S l = IsWhole S l ⊎ (p ≤ length l)

-- p processors can make the unit: it has p tickets at most
abbrev pub AtMost : ℕ → State → List ℕ → Type 0
AtMost p S l = length l ≤ p

-- a schedule of the net: units from its start
abbrev pub IsSchedule : NetTree → List (List ℕ) → Type 0
IsSchedule net ls = AreUnits AnyUnit net (start (start_of net)) ls

-- a schedule of p processors: units of p tickets at most
abbrev pub IsProcessorsSchedule : ℕ → NetTree → List (List ℕ) → Type 0
IsProcessorsSchedule p net ls = AreUnits (AtMost p) net (start (start_of net)) ls

-- a schedule that leaves none of p processors idle while a token waits; it says nothing of how many tickets a unit may have
abbrev pub LeavesNoneIdle : ℕ → NetTree → List (List ℕ) → Type 0
LeavesNoneIdle p net ls = AreUnits (NoneIdle p) net (start (start_of net)) ls
