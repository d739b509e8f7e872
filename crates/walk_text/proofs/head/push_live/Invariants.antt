use Rattle.std.proofs.Common.{◌++◌}
use Rattle.interleave_laws.specs.Maps.{seen}
use Rattle.walk_text.specs.Traces.{live_lines}
use Rattle.walk_text.proofs.Heading.{LiveFrom, left_of}
use Rattle.walk_text.proofs.head.push_live.Given as goal

abbrev pub invariant-loop-next : goal.invariant-loop-next
invariant-loop-next l = LiveFrom l.core l.next l.text.items (l.fn.text.items ++ live_lines (seen l.core).tokens 0 l.core.next)

abbrev pub decreases-loop-next : goal.decreases-loop-next
decreases-loop-next l = left_of l.core l.next
