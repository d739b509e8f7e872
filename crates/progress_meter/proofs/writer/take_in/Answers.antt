use Rattle.std.proofs.Common.{sym, subst, rules}
use Rattle.progress_meter.specs.Rule.{IsReader}
use Rattle.progress_meter.proofs.Steps.{whole_view_as, joins_as}
use Rattle.progress_meter.proofs.writer.take_in.Goals as goal

pub split_pass-whole-requires : goal.split_pass-whole-requires
split_pass-whole-requires c = (search rules, (search rules, (search rules, whole_view_as _ _ c.requires.views.1)))

pub join_pass-requires : goal.join_pass-requires
join_pass-requires c =
    let given = c.split_pass-whole.ensures.given in
    (search rules, (search rules, (search rules, joins_as _ _ _ _ c.requires.views.0 (subst IsReader (sym given.1) c.requires.views.1))))
