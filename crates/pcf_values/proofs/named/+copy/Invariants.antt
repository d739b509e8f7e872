use Rattle.std.proofs.Common.{◌+◌, ◌*◌, max}
use Rattle.pcf_values.specs.Named.{named_height}
use Rattle.pcf_values.specs.Views.{raw_of, named_of}
use Rattle.pcf_values.proofs.named.+copy.Given as goal

abbrev pub decreases-Raw::copy : goal.decreases-Raw::copy
decreases-Raw::copy l = 4 * named_height (raw_of l.self.now 0)

abbrev pub decreases-Named::copy : goal.decreases-Named::copy
decreases-Named::copy l = 4 * named_height (named_of l.self.now) + 1

abbrev pub decreases-copy_box : goal.decreases-copy_box
decreases-copy_box l = 4 * named_height (named_of l.term.now) + 2

abbrev pub decreases-copy_both : goal.decreases-copy_both
decreases-copy_both l = 4 * max (named_height (named_of l.a.now)) (named_height (named_of l.b.now)) + 3
