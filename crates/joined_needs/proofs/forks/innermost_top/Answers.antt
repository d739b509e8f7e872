use Rattle.std.proofs.Common.{sym, ap}
use Rattle.joined_module.specs.Machine.{RowFork}
use Rattle.joined_needs.proofs.Lists.{innermost_is}
use Rattle.joined_needs.proofs.forks.innermost_top.Goals as goal

pub returns-in-len1-up : goal.returns-in-len1-up
returns-in-len1-up c =
    ap (λ (f : RowFork). f.top) (sym (innermost_is c.args.forks.now c.last-item.result c.in-len1-up.len_at_least c.last-item.is))
