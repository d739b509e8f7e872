use Rattle.std.proofs.Common.{◌+◌, ◌*◌}
use Rattle.pcf_values.specs.Terms.{size}
use Rattle.pcf_values.specs.Views.{term_of}
use Rattle.net_build.proofs.translate.+place.Given as goal

abbrev pub decreases-place : goal.decreases-place
decreases-place l = 3 * size (term_of l.term.now)

abbrev pub decreases-place_unary : goal.decreases-place_unary
decreases-place_unary l = 3 * size (term_of l.operand.now) + 2

abbrev pub decreases-place_double : goal.decreases-place_double
decreases-place_double l = 3 * (size (term_of l.left.now) + size (term_of l.right.now)) + 2

abbrev pub decreases-place_ifz : goal.decreases-place_ifz
decreases-place_ifz l = 3 * (size (term_of l.test.now) + size (term_of l.then.now) + size (term_of l.otherwise.now)) + 2

abbrev pub decreases-place_fun : goal.decreases-place_fun
decreases-place_fun l = 3 * size (term_of l.body.now) + 2

abbrev pub decreases-place_fix : goal.decreases-place_fix
decreases-place_fix l = 3 * size (term_of l.body.now) + 2

abbrev pub decreases-place_app : goal.decreases-place_app
decreases-place_app l = 3 * (size (term_of l.function.now) + size (term_of l.argument.now)) + 2

abbrev pub decreases-place_body : goal.decreases-place_body
decreases-place_body l = 3 * size (term_of l.body.now) + 1
