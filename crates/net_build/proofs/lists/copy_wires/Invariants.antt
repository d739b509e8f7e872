use Rattle.std.proofs.Common.{◌≡◌, map, take}
use Rattle.net_build.specs.Views.{wire_of}
use Rattle.net_build.proofs.lists.copy_wires.Given as goal

abbrev pub invariant-loop-wire : goal.invariant-loop-wire
invariant-loop-wire l = map wire_of l.copies.items ≡ map wire_of (take l.wire-index l.wires)
