-- What a worker did, whatever the others did meanwhile.
-- Between two calls of a worker the bench behind the lock may have become any other. So what is known of a worker names no bench: there
-- was some bench, and some bench after the call, with the bench's own relation between them.
use Rattle.std.specs.Prelude.{◌⊎◌, ◌≤◌, ◌<◌, ℕ, Option, Some, None, Result, IfOk}
use Rattle.std.specs.declared.alloc.AllocError.{AllocError}
use Rattle.gate_workers.specs.declared.turn.Turn.{Turn}
use Rattle.gate_workers.specs.declared.turn.Turn.TheVariants.{Over}
use Rattle.gate_workers.specs.Served.{HandedIn}

-- a bench gave worker w this turn
abbrev pub Given : {B P : Type 0} → (B → ℕ → Turn P → B → Type 0) → ℕ → Turn P → Type 0
Given {B} gives w turn = (old : B) × (new : B) × gives old w turn new

-- a bench took in what worker w brought, if it brought something
abbrev pub TakenIn : {B M : Type 0} → (B → ℕ → M → B → Type 0) → ℕ → Option (Result M AllocError) → Type 0
TakenIn {B} takes_in w brought = (old : B) × (new : B) × HandedIn takes_in old w brought new

-- a bench was stopped
abbrev pub Stopped : {B : Type 0} → (B → B → Type 0) → Type 0
Stopped {B} halts = (old : B) × (new : B) × halts old new

-- worker w goes home: a bench told it that all is over, or was stopped
abbrev pub GoesHome : {B P : Type 0} → (B → ℕ → Turn P → B → Type 0) → (B → B → Type 0) → ℕ → Type 0
GoesHome gives halts w = Given gives w Over ⊎ Stopped halts

-- what worker w brought was taken in before it went home, or a bench was stopped
abbrev pub Leaves : {B M P : Type 0} → (B → ℕ → M → B → Type 0) → (B → ℕ → Turn P → B → Type 0) →
    (B → B → Type 0)
    → ℕ → Option (Result M AllocError) → Type 0
Leaves takes_in gives halts w brought = (TakenIn takes_in w brought × Given gives w Over) ⊎ Stopped halts

-- each worker from the one number to below the other goes home
abbrev pub AllGoHome : {B P : Type 0} → (B → ℕ → Turn P → B → Type 0) → (B → B → Type 0) → ℕ → ℕ → Type 0
AllGoHome gives halts from to = (w : ℕ) → from ≤ w → w < to → GoesHome gives halts w

-- a worker brings what was made of a piece, or want of memory
abbrev pub Brings : {M : Type 0} → (M → Type 0) → Option (Result M AllocError) → Type 0
Brings makes None = ⊥
Brings makes (Some made) = IfOk made makes
