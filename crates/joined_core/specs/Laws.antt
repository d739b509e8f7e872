-- The circuit over compound cells goes along with the processor, as many moves a cycle as its row has, or is full: the statements of
-- `law_joined_step`, `law_joined_follow` and `law_joined_means`.
use Rattle.std.specs.Prelude.{◌≡◌, ◌⊎◌, ◌≤◌, ℕ, true, false, List, [], ◌∷◌, length, Option, Some, None}
use Rattle.net_build.specs.Nets.{NetTree}
use Rattle.net_build.specs.NetOf.{net_of}
use Rattle.move_rules.specs.Places.{Place, TokenTree, ask, ans}
use Rattle.move_rules.specs.Stacks.{work_at, boxes_at}
use Rattle.interleave_laws.specs.States.{State}
use Rattle.interleave_laws.specs.Runs.{LeadsTo, Runs}
use Rattle.adequacy_laws.specs.Adequacy.{OfEveryProgram}
use Rattle.net_rows.specs.Rows.{channel_of}
use Rattle.newest_core.specs.Processor.{Half, waits, came, OpenFork, Registers, ticks, reset, newest}
use Rattle.newest_core.specs.ProcessorLaws.{Shows}
use Rattle.newest_core.specs.Meaning.{Tells}
use Rattle.joined_rows.specs.Compound.{Pointer, Account, Right, AllRead, signs_of}
use Rattle.joined_core.specs.Rows.{work_sorts, Table}
use Rattle.joined_core.specs.Right.{IsTable}
use Rattle.joined_core.specs.Circuit.{JoinedToken, JoinedFork, JoinedCircuit, Room, joined_clock, joined_circuit}

-- the token's key has the place's channel and marks, and its lists stand for the place's stacks
pub record StandsAt (n : ℕ) (M : Account) (p : Place) (k : JoinedToken) : Type 0 where
  pub channel : k.key.channel ≡ channel_of p
  pub marks : k.key.marks ≡ work_sorts (work_at p)
  pub sigs : AllRead n M k.lists.sigs (signs_of (work_at p))
  pub boxes : AllRead n M k.lists.boxes (boxes_at p)

-- they are those of a token; what value a question keeps isn't asked
abbrev pub IsToken : ℕ → Account → TokenTree → JoinedToken → Type 0
IsToken n M (ask p) k = (k.key.answers ≡ false) × StandsAt n M p k
IsToken n M (ans v p) k = (k.key.answers ≡ true) × (k.value ≡ v) × StandsAt n M p k

abbrev pub IsLive : ℕ → Account → Option (ℕ × TokenTree) → Option JoinedToken → Type 0
IsLive n M None None = Unit {0}
IsLive n M None (Some k) = ⊥
IsLive n M (Some c) None = ⊥
IsLive n M (Some c) (Some k) = IsToken n M c.1 k

-- a fork has its left answer
abbrev pub IsHalf : Half → JoinedFork → Type 0
IsHalf (waits j p) g = Unit {0}
IsHalf (came v) g = g.answered ≡ Some v

-- and its boxes, among the cells in use when it was opened
pub record IsFork (n : ℕ) (M : Account) (f : OpenFork) (g : JoinedFork) : Type 0 where
  pub half : IsHalf f.half g
  pub boxes : AllRead g.top M g.boxes f.boxes
  pub low : g.top ≤ n

abbrev pub IsStack : ℕ → Account → List OpenFork → List JoinedFork → Type 0
IsStack n M [] [] = Unit {0}
IsStack n M [] (g ∷ gs) = ⊥
IsStack n M (f ∷ fs) [] = ⊥
IsStack n M (f ∷ fs) (g ∷ gs) = IsFork n M f g × IsStack g.top M fs gs

-- the circuit has the token, the forks, the answer and the count of moves of the processor, by some account of its cells
pub record JoinedHas (R : Registers) (C : JoinedCircuit) : Type 0 where
  pub account : Account
  pub right : Right C.store account
  pub live : IsLive C.store.top account R.live C.live
  pub forks : IsStack C.store.top account R.forks C.forks
  pub result : C.result ≡ R.result
  pub moves : C.moves ≡ R.moves
  pub ready : C.full ≡ false

-- it has what the processor has after as many moves as it counted
abbrev pub Keeps : NetTree → JoinedCircuit → Type 0
Keeps net C = JoinedHas (ticks net C.moves (reset net)) C

-- one cycle on a net that runs, of whatever room: the circuit is full, or it has what the processor has after the row's moves
abbrev pub JoinedStep : Type 0
JoinedStep = (net : NetTree) → Runs net → (T : Table) → IsTable net T → (z : Room) (C : JoinedCircuit) → Keeps net C →
    ((joined_clock T z C).full ≡ true) ⊎ Keeps net (joined_clock T z C)

-- it shows the state to which the schedule of as many moves as it counted leads
pub record JoinedGoes (net : NetTree) (C : JoinedCircuit) : Type 0 where
  pub state : State
  pub leads : LeadsTo net (newest net C.moves) state
  pub registers : Registers
  pub shows : Shows registers state
  pub has : JoinedHas registers C
  pub moves : C.moves ≡ length (newest net C.moves)
  pub result : C.result ≡ state.answered

-- on a net that runs, after k cycles it is full or goes so
abbrev pub JoinedFollow : Type 0
JoinedFollow = (net : NetTree) → Runs net → (T : Table) → IsTable net T → (k : ℕ) (z : Room) (mem : ℕ → ℕ → Pointer) →
    ((joined_circuit net T z mem k).full ≡ true) ⊎ JoinedGoes net (joined_circuit net T z mem k)

-- and the circuit of every program, with any right table of its net, is full or tells what the program means
abbrev pub JoinedMeans : Type 0
JoinedMeans = OfEveryProgram (λ m. (T : Table) → IsTable (net_of m) T → (k : ℕ) (z : Room) (mem : ℕ → ℕ → Pointer) →
    let C = joined_circuit (net_of m) T z mem k in (C.full ≡ true) ⊎ Tells m C.moves C.result C.moves)
