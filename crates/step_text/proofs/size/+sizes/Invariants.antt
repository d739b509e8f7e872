use Rattle.std.proofs.Common.{◌+◌, ◌*◌}
use Rattle.pcf_values.specs.NamedSize.{named_size}
use Rattle.pcf_values.specs.Views.{named_of}
use Rattle.step_text.proofs.size.+sizes.Given as goal

abbrev pub decreases-room_beside : goal.decreases-room_beside
decreases-room_beside l = 2 * named_size (named_of l.term.now)

abbrev pub decreases-room_beside_both : goal.decreases-room_beside_both
decreases-room_beside_both l = 2 * (named_size (named_of l.a.now) + named_size (named_of l.b.now)) + 1
