use Rattle.std.proofs.Common.{◌+◌, ◌*◌}
use Rattle.pcf_values.specs.NamedSize.{named_size}
use Rattle.pcf_values.specs.Views.{named_of}
use Rattle.step_text.proofs.mark.+leads.Given as goal

abbrev pub decreases-lead : goal.decreases-lead
decreases-lead l = 8 * named_size (named_of l.term.now)

abbrev pub decreases-lead_behind : goal.decreases-lead_behind
decreases-lead_behind l = 8 * named_size (named_of l.term.now) + 1

abbrev pub decreases-lead_fitted : goal.decreases-lead_fitted
decreases-lead_fitted l = 8 * named_size (named_of l.term.now) + 2

abbrev pub decreases-lead_within : goal.decreases-lead_within
decreases-lead_within l = 8 * named_size (named_of l.term.now) + 3

abbrev pub decreases-lead_operand : goal.decreases-lead_operand
decreases-lead_operand l = 8 * named_size (named_of l.a.now) + 4

abbrev pub decreases-lead_test : goal.decreases-lead_test
decreases-lead_test l = 8 * named_size (named_of l.c.now) + 4

abbrev pub decreases-lead_part : goal.decreases-lead_part
decreases-lead_part l = 8 * named_size (named_of l.a.now) + 4

abbrev pub decreases-lead_function : goal.decreases-lead_function
decreases-lead_function l = 8 * named_size (named_of l.f.now) + 4

abbrev pub decreases-lead_binary : goal.decreases-lead_binary
decreases-lead_binary l = 8 * (named_size (named_of l.a.now) + named_size (named_of l.b.now)) + 6

abbrev pub decreases-lead_right : goal.decreases-lead_right
decreases-lead_right l = 8 * named_size (named_of l.b.now) + 5

abbrev pub decreases-lead_over : goal.decreases-lead_over
decreases-lead_over l = 8 * named_size (named_of l.b.now) + 4
