use Rattle.std.proofs.Common.{◌+◌, ◌*◌}
use Rattle.pcf_values.specs.Terms.{size}
use Rattle.pcf_values.specs.Views.{term_of}
use Rattle.net_terms.proofs.uses.+take.Given as goal

abbrev pub decreases-take : goal.decreases-take
decreases-take l = 3 * size (term_of l.term.now)

abbrev pub decreases-take_two : goal.decreases-take_two
decreases-take_two l = 3 * (size (term_of l.a.now) + size (term_of l.b.now)) + 1

abbrev pub decreases-take_three : goal.decreases-take_three
decreases-take_three l = 3 * (size (term_of l.a.now) + size (term_of l.b.now) + size (term_of l.c.now)) + 2

abbrev pub decreases-take_body : goal.decreases-take_body
decreases-take_body l = 3 * size (term_of l.body.now) + 1
