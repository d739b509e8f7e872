use Rattle.std.proofs.Common.{◌+◌, ◌-◌, ◌/◌, rules}
use Rattle.gate_workers.proofs.Rows.{both_go_home}
use Rattle.gate_workers.proofs.workers.+fn-work_from-join+arg2+fn-work_from-join+arg3+work_from.Goals as goal

pub returns : goal.returns
returns g t c =
    both_go_home g.B.Bench.gives g.B.Bench.halts c.args.from (c.args.from + (c.args.to - c.args.from) / 2) c.args.to
    (search rules) (search rules)

pub returns-then-to-from-eq1 : goal.returns-then-to-from-eq1
returns-then-to-from-eq1 g t c = search rules
