use Rattle.std.proofs.Common.{◌+◌, ◌*◌, max}
use Rattle.pcf_values.specs.Views.{named_of}
use Rattle.pcf_values.specs.Named.{named_height}
use Rattle.pcf_types.proofs.infer.+infer.Given as goal

abbrev pub decreases-infer : goal.decreases-infer
decreases-infer l = 5 * named_height (named_of l.tree.now)

abbrev pub decreases-number : goal.decreases-number
decreases-number l = 5 * named_height (named_of l.tree.now) + 2

abbrev pub decreases-numbers : goal.decreases-numbers
decreases-numbers l = 5 * max (named_height (named_of l.a.now)) (named_height (named_of l.b.now)) + 3

abbrev pub decreases-function : goal.decreases-function
decreases-function l = 5 * named_height (named_of l.tree.now) + 1

abbrev pub decreases-paired : goal.decreases-paired
decreases-paired l = 5 * named_height (named_of l.tree.now) + 1

abbrev pub decreases-of_type : goal.decreases-of_type
decreases-of_type l = 5 * named_height (named_of l.tree.now) + 1

abbrev pub decreases-function_of : goal.decreases-function_of
decreases-function_of l = 5 * named_height (named_of l.body.now) + 2

abbrev pub decreases-fixed_point : goal.decreases-fixed_point
decreases-fixed_point l = 5 * named_height (named_of l.body.now) + 2

abbrev pub decreases-application : goal.decreases-application
decreases-application l = 5 * max (named_height (named_of l.f.now)) (named_height (named_of l.a.now)) + 2

abbrev pub decreases-pair_of : goal.decreases-pair_of
decreases-pair_of l = 5 * max (named_height (named_of l.a.now)) (named_height (named_of l.b.now)) + 2

abbrev pub decreases-choice : goal.decreases-choice
decreases-choice l = 5 * max (named_height (named_of l.c.now)) (max (named_height (named_of l.p.now)) (named_height (named_of l.q.now))) + 4
