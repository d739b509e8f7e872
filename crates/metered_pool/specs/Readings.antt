-- What a reader of a meter has read: what serves private contracts only.
use Rattle.std.specs.Prelude.{◌≡◌, ℕ, List, ◌++◌, length}
use Rattle.progress_meter.specs.Meters.{Listener}

-- the reader read sixteen times more, and these are the numbers
abbrev pub HasRead : Listener → Listener → List ℕ → Type 0
HasRead old new numbers = (new.meter ≡ old.meter) × (new.readings ≡ old.readings ++ numbers) × (length numbers ≡ 16)
