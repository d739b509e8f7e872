-- What is seen of files and of a sink, whatever the device.
--
-- What isn't known is left out: bytes are an `Option`, absent where nobody can tell them. `steady` and `spare` are what is certain of
-- the calls to come; `false` and 0 say nothing.
use Rattle.std.specs.Prelude.{◌≡◌, ℕ, Bool, IsTrue, List, Option}

-- the bytes of each file, where they are known; which names no file has; how often a read has failed; and whether it is certain that no
-- read will fail but of a name that is lacked
pub record FilesState : Type 0 where
  pub told : List ℕ → Option (List ℕ)
  pub lacks : List ℕ → Bool
  pub faults : ℕ
  pub steady : Bool

-- the same of files that hold this
abbrev pub holding : (List ℕ → Option (List ℕ)) → FilesState → FilesState
holding told files = record files { told = told }

-- what stays as it was, whatever is read
pub record FilesKept (old new : FilesState) : Type 0 where
  pub told : new.told ≡ old.told
  pub lacks : new.lacks ≡ old.lacks
  pub steady : new.steady ≡ old.steady
  pub quiet : IsTrue old.steady → new.faults ≡ old.faults

-- the bytes that were written, where they are known; how often a write has failed; and how many bytes more are certain to be taken, in
-- however many writes
pub record SinkState : Type 0 where
  pub written : Option (List ℕ)
  pub faults : ℕ
  pub spare : ℕ
