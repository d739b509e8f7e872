use Rattle.std.proofs.Common.{◌+◌, ◌-◌, ◌/◌, IfOk, arith, rules, subst}
use Rattle.std.specs.List.{All}
use Rattle.batch_pool.specs.Apart.{IsRanIn}
use Rattle.batch_pool.proofs.Whole.{both_ran, one_ran}
use Rattle.batch_pool.proofs.apart.+fn-work_from-join+arg2+fn-work_from-join+arg3+work_from.Goals as goal

pub returns : goal.returns
returns g t c =
    let jobs = c.args.jobs.now in
    let from = c.args.from in
    let to = c.args.to in
    let some = c.requires.some in
    let middle = from + (to - from) / 2 in
    both_ran (λ v. v.items) jobs from to c.both.result middle (omega arith) (omega (arith, some))
    c.in_ok-first.field-0.items c.in_ok-second.field-0.items
    (subst (λ r. IfOk r (λ v. All (IsRanIn jobs from middle) v.items)) c.in_ok-first.was (search rules))
    (subst (λ r. IfOk r (λ v. All (IsRanIn jobs middle to) v.items)) c.in_ok-second.was (search rules))
    c.both.ensures

pub returns-then-to-from-eq1 : goal.returns-then-to-from-eq1
returns-then-to-from-eq1 g t c =
    one_ran (λ v. v.items) c.args.jobs.now c.args.from c.args.to c.work_as.result c.requires.some c.work_as.ensures
