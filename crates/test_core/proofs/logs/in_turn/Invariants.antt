use Rattle.std.proofs.Common.{◌≡◌, length}
use Rattle.test_core.proofs.logs.in_turn.Given as goal

abbrev pub invariant-loop-i : goal.invariant-loop-i
invariant-loop-i l = record {
  one_a_turn : length l.log.entries ≡ l.i;
  room : l.log.room ≡ l.initial.log.room;
}
