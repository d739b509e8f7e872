use Rattle.std.proofs.Common.{◌+◌, ◌*◌}
use Rattle.pcf_values.specs.Terms.{size}
use Rattle.pcf_values.specs.Views.{term_of}
use Rattle.net_terms.proofs.infer.+infer.Given as goal

abbrev pub decreases-infer : goal.decreases-infer
decreases-infer l = 3 * size (term_of l.term.now)

abbrev pub decreases-is_number : goal.decreases-is_number
decreases-is_number l = 3 * size (term_of l.term.now) + 1

abbrev pub decreases-infer_fun : goal.decreases-infer_fun
decreases-infer_fun l = 3 * size (term_of l.body.now) + 2

abbrev pub decreases-infer_fix : goal.decreases-infer_fix
decreases-infer_fix l = 3 * size (term_of l.body.now) + 2

abbrev pub decreases-infer_app : goal.decreases-infer_app
decreases-infer_app l = 3 * (size (term_of l.f.now) + size (term_of l.a.now)) + 1

abbrev pub decreases-infer_pair : goal.decreases-infer_pair
decreases-infer_pair l = 3 * (size (term_of l.a.now) + size (term_of l.b.now)) + 1

abbrev pub decreases-infer_body : goal.decreases-infer_body
decreases-infer_body l = 3 * size (term_of l.body.now) + 1
