use Rattle.std.proofs.Common.{◌≡◌, ◌++◌, length}
use Rattle.metered_pool.proofs.watching.push_all.Given as goal

abbrev pub invariant-loop-n : goal.invariant-loop-n
invariant-loop-n g l =
    (l.reader.meter ≡ l.initial.reader.meter)
    × (l.reader.readings ≡ l.initial.reader.readings ++ l.readings.items)
    × (length l.readings.items ≡ l.n)
