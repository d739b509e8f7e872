use Rattle.std.specs.Prelude.{take}
use Rattle.std.specs.List.{All}
use Rattle.move_rules.specs.Walks.{Stands}
use Rattle.interleave_core.proofs.adopting.stands.Given as goal

abbrev pub invariant-loop-i : goal.invariant-loop-i
invariant-loop-i l = All (Stands l.fn.net) (take l.i l.fn.trail)
