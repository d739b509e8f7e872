use Rattle.std.proofs.Common.{sym, ap, ◌∙◌}
use Rattle.joined_module.specs.Machine.{RowFork, value_or_zero}
use Rattle.joined_needs.proofs.Lists.{innermost_is}
use Rattle.joined_needs.proofs.forks.innermost_answer.Goals as goal

pub returns-in-Some : goal.returns-in-Some
returns-in-Some c =
    ap value_or_zero (sym c.in-Some.is)
    ∙ ap (λ (f : RowFork). value_or_zero f.answered)
    (sym (innermost_is c.args.forks.now c.last-item.result c.in-len1-up.len_at_least c.last-item.is))

pub returns-in-None : goal.returns-in-None
returns-in-None c =
    ap value_or_zero (sym c.in-None.is)
    ∙ ap (λ (f : RowFork). value_or_zero f.answered)
    (sym (innermost_is c.args.forks.now c.last-item.result c.in-len1-up.len_at_least c.last-item.is))
