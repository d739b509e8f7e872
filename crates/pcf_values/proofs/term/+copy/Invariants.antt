use Rattle.std.proofs.Common.{◌+◌, ◌*◌, max}
use Rattle.pcf_values.specs.Terms.{height}
use Rattle.pcf_values.specs.Views.{term_of}
use Rattle.pcf_values.proofs.term.+copy.Given as goal

abbrev pub decreases-Term::copy : goal.decreases-Term::copy
decreases-Term::copy l = 3 * height (term_of l.self.now)

abbrev pub decreases-copy_box : goal.decreases-copy_box
decreases-copy_box l = 3 * height (term_of l.term.now) + 1

abbrev pub decreases-copy_both : goal.decreases-copy_both
decreases-copy_both l = 3 * max (height (term_of l.a.now)) (height (term_of l.b.now)) + 2
