use Rattle.std.proofs.Common.{◌+◌, ◌*◌}
use Rattle.pcf_values.specs.NamedSize.{named_size}
use Rattle.pcf_values.specs.Views.{named_of}
use Rattle.term_steps.proofs.rewrite.+steps.Given as goal

abbrev pub decreases-step : goal.decreases-step
decreases-step l = 6 * named_size (named_of l.term.now)

abbrev pub decreases-stepped : goal.decreases-stepped
decreases-stepped l = 6 * named_size (named_of l.term.now) + 1

abbrev pub decreases-step_succ : goal.decreases-step_succ
decreases-step_succ l = 6 * named_size (named_of l.a.now) + 2

abbrev pub decreases-step_pred : goal.decreases-step_pred
decreases-step_pred l = 6 * named_size (named_of l.a.now) + 2

abbrev pub decreases-step_proj : goal.decreases-step_proj
decreases-step_proj l = 6 * named_size (named_of l.a.now) + 2

abbrev pub decreases-step_app : goal.decreases-step_app
decreases-step_app l = 6 * (named_size (named_of l.f.now) + named_size (named_of l.a.now)) + 2

abbrev pub decreases-step_ifz : goal.decreases-step_ifz
decreases-step_ifz l = 6 * (named_size (named_of l.c.now) + named_size (named_of l.p.now) + named_size (named_of l.q.now)) + 2

abbrev pub decreases-step_binary : goal.decreases-step_binary
decreases-step_binary l = 6 * (named_size (named_of l.a.now) + named_size (named_of l.b.now)) + 3

abbrev pub decreases-step_right : goal.decreases-step_right
decreases-step_right l = 6 * (named_size (named_of l.a.now) + named_size (named_of l.b.now)) + 2
