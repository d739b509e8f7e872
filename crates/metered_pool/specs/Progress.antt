-- What is read on the meter of a run, and what of it is told.
-- When the readings are taken is left out: a run may be over before the first of them, and then each is the number of its moves, or not
-- yet begun, and then each is 0. No clause ties the sixteen numbers to a reading: a run that nobody drives, or whose length is told
-- seventeen times, has such numbers too. That a meter can be read while workers run is shown by tests; that these readings are taken
-- then isn't.
use Rattle.std.specs.Prelude.{◌≡◌, ℕ, List, length}
use Rattle.std.specs.List.Sorted.{IsNonDecreasing}
use Rattle.progress_meter.specs.Last.{last_of}

-- Sixteen readings and behind them the number of moves of the whole run: the numbers never go down, so that none is above that number.
pub record IsProgress (moves : ℕ) (numbers : List ℕ) : Type 0 where
  pub many : length numbers ≡ 17
  pub never_down : IsNonDecreasing numbers
  pub ends : last_of numbers ≡ moves
