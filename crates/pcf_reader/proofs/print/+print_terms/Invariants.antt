use Rattle.std.proofs.Common.{◌+◌, ◌*◌}
use Rattle.pcf_values.specs.NamedSize.{named_size}
use Rattle.pcf_values.specs.Views.{named_of}
use Rattle.pcf_reader.proofs.print.+print_terms.Given as goal

abbrev pub decreases-push_term : goal.decreases-push_term
decreases-push_term l = 3 * named_size (named_of l.term.now)

abbrev pub decreases-push_fitted : goal.decreases-push_fitted
decreases-push_fitted l = 3 * named_size (named_of l.term.now) + 1

abbrev pub decreases-push_after : goal.decreases-push_after
decreases-push_after l = 3 * named_size (named_of l.term.now) + 1

abbrev pub decreases-push_operated : goal.decreases-push_operated
decreases-push_operated l = 3 * (named_size (named_of l.left.now) + named_size (named_of l.right.now)) + 2

abbrev pub decreases-push_applied : goal.decreases-push_applied
decreases-push_applied l = 3 * (named_size (named_of l.function.now) + named_size (named_of l.argument.now)) + 2

abbrev pub decreases-push_choice : goal.decreases-push_choice
decreases-push_choice l = 3 * (named_size (named_of l.test.now) + named_size (named_of l.yes.now) + named_size (named_of l.no.now)) + 2

abbrev pub decreases-push_pair : goal.decreases-push_pair
decreases-push_pair l = 3 * (named_size (named_of l.left.now) + named_size (named_of l.right.now)) + 2

abbrev pub decreases-push_binding : goal.decreases-push_binding
decreases-push_binding l = 3 * named_size (named_of l.body.now) + 2
