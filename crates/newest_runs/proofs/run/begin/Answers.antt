use Rattle.std.proofs.Common.{Some, refl, sym, subst}
use Rattle.newest_runs.specs.Moving.{IsMoved}
use Rattle.newest_runs.proofs.Going.{moved_none}
use Rattle.newest_runs.proofs.run.begin.Goals as goal

pub returns-clause-moved : goal.returns-clause-moved
returns-clause-moved c =
    subst (λ S. IsMoved c.args.net.now S (record { ticket = Some 0; waiting = c.new.result }) 0) (sym c.in_ok-core.ensures)
    (moved_none c.args.net.now (record { ticket = Some 0; waiting = c.new.result }) refl c.new.ensures.items)
