-- What happens to a bench while one worker holds the lock, by the bench's own relations.
-- A worker hands in what it made since it last held the lock, if anything, and asks what to do next. One that brings want of memory, or
-- meets it here, stops the bench before it lets the lock go.
use Rattle.std.specs.Prelude.{◌≡◌, ◌⊎◌, ℕ, Option, Some, None, Result, Ok, Err}
use Rattle.std.specs.declared.alloc.AllocError.{AllocError}
use Rattle.gate_workers.specs.declared.turn.Turn.{Turn}

-- the bench after what a worker made was taken in, or the same bench where it made nothing; want of memory can't be handed in
abbrev pub HandedIn : {B M : Type 0} → (B → ℕ → M → B → Type 0) → B → ℕ → Option (Result M AllocError) → B → Type 0
HandedIn takes_in old w None new = new ≡ old
HandedIn takes_in old w (Some (Ok made)) new = takes_in old w made new
HandedIn takes_in old w (Some (Err e)) new = ⊥

-- what a worker brought was handed in, and then the bench gave it this turn
abbrev pub Asked : {B M P : Type 0} → (B → ℕ → M → B → Type 0) → (B → ℕ → Turn P → B → Type 0)
    → B → ℕ → Option (Result M AllocError) → Turn P → B → Type 0
Asked {B} takes_in gives old w brought turn new = (between : B) × HandedIn takes_in old w brought between × gives between w turn new

-- the bench at which memory was wanting: the one from before, or the one that took in what was brought
abbrev pub Reached : {B M : Type 0} → (B → ℕ → M → B → Type 0) → B → ℕ → Option (Result M AllocError) → B → Type 0
Reached takes_in old w brought new = (new ≡ old) ⊎ HandedIn takes_in old w brought new

-- the bench was stopped there
abbrev pub Halted : {B M : Type 0} → (B → ℕ → M → B → Type 0) → (B → B → Type 0) → B → ℕ →
    Option (Result M AllocError) → B → Type 0
Halted {B} takes_in halts old w brought new = (reached : B) × Reached takes_in old w brought reached × halts reached new
