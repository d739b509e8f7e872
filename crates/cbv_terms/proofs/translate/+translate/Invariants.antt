use Rattle.std.proofs.Common.{◌+◌, ◌*◌}
use Rattle.pcf_values.specs.Terms.{size}
use Rattle.pcf_values.specs.Views.{term_of}
use Rattle.cbv_terms.proofs.translate.+translate.Given as goal

abbrev pub decreases-translate : goal.decreases-translate
decreases-translate l = 3 * size (term_of l.term.now)

abbrev pub decreases-translate_unary : goal.decreases-translate_unary
decreases-translate_unary l = 3 * size (term_of l.a.now) + 2

abbrev pub decreases-translate_binary : goal.decreases-translate_binary
decreases-translate_binary l = 3 * (size (term_of l.a.now) + size (term_of l.b.now)) + 2

abbrev pub decreases-translate_ifz : goal.decreases-translate_ifz
decreases-translate_ifz l = 3 * (size (term_of l.c.now) + size (term_of l.p.now) + size (term_of l.q.now)) + 2

abbrev pub decreases-translate_app : goal.decreases-translate_app
decreases-translate_app l = 3 * (size (term_of l.f.now) + size (term_of l.a.now)) + 2

abbrev pub decreases-translate_fun : goal.decreases-translate_fun
decreases-translate_fun l = 3 * size (term_of l.body.now) + 2

abbrev pub decreases-translate_fix : goal.decreases-translate_fix
decreases-translate_fix l = 3 * size (term_of l.function.now) + 2

abbrev pub decreases-translate_function : goal.decreases-translate_function
decreases-translate_function l = 3 * size (term_of l.body.now) + 2

abbrev pub decreases-translate_body : goal.decreases-translate_body
decreases-translate_body l = 3 * size (term_of l.body.now) + 1
