use Rattle.std.proofs.Common.{◌+◌, ◌*◌, max}
use Rattle.pcf_values.specs.Named.{named_height}
use Rattle.pcf_values.specs.Views.{named_of}
use Rattle.test_core.proofs.outline.+outline.Given as goal

abbrev pub decreases-push : goal.decreases-push
decreases-push l = 3 * named_height (named_of l.tree.now)

abbrev pub decreases-push_part : goal.decreases-push_part
decreases-push_part l = 3 * named_height (named_of l.a.now) + 1

abbrev pub decreases-push_parts : goal.decreases-push_parts
decreases-push_parts l = 3 * max (named_height (named_of l.a.now)) (named_height (named_of l.b.now)) + 2
