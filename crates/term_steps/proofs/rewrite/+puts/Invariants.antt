use Rattle.std.proofs.Common.{◌+◌, ◌*◌}
use Rattle.pcf_values.specs.NamedSize.{named_size}
use Rattle.pcf_values.specs.Views.{named_of}
use Rattle.term_steps.proofs.rewrite.+puts.Given as goal

abbrev pub decreases-put : goal.decreases-put
decreases-put l = 4 * named_size (named_of l.body.now)

abbrev pub decreases-put_box : goal.decreases-put_box
decreases-put_box l = 4 * named_size (named_of l.body.now) + 1

abbrev pub decreases-put_both : goal.decreases-put_both
decreases-put_both l = 4 * (named_size (named_of l.a.now) + named_size (named_of l.b.now)) + 2

abbrev pub decreases-put_under : goal.decreases-put_under
decreases-put_under l = 4 * named_size (named_of l.body.now) + 2
