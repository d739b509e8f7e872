use Rattle.std.proofs.Common.{◌≡◌, ◌-◌}
use Rattle.pcf_values.specs.Views.{named_of}
use Rattle.step_text.specs.Courses.{goes_on}
use Rattle.step_text.proofs.course.follow.Given as goal

abbrev pub invariant-loop-k : goal.invariant-loop-k
invariant-loop-k l = goes_on l.from l.most l.room (l.budget - l.k) l.k l.lines.items (named_of l.now)
    ≡ goes_on l.from l.most l.room l.budget 0 l.initial.lines.items (named_of l.initial.now)
