-- The terms of the forms with one operand and with two, as the code tells forms apart.
use Rattle.pcf_values.specs.Terms.{TermTree, succ_of, pred_of, binary, app, pair, proj}
use Rattle.net_terms.specs.declared.forms.One.{One}
use Rattle.net_terms.specs.declared.forms.One.TheVariants as one
use Rattle.net_terms.specs.declared.forms.Two.{Two}
use Rattle.net_terms.specs.declared.forms.Two.TheVariants as two

-- the term of a form with one operand
abbrev pub one_term : One → TermTree → TermTree
one_term one.Succ = succ_of
one_term one.Pred = pred_of
one_term (one.Proj side) = proj side

-- the term of a form with two operands
abbrev pub two_term : Two → TermTree → TermTree → TermTree
two_term (two.Binary operator) = binary operator
two_term two.App = app
two_term two.Pair = pair
