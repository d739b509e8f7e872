use Rattle.goi_c.proofs.ManyRows.{owned_each, each_fits}
use Rattle.goi_c.proofs.rows.goi_tell_each.Goals as goal

pub returns-then-is_asked-clause-own : goal.returns-then-is_asked-clause-own
returns-then-is_asked-clause-own c = λ asked.
    owned_each _ c.args.budget c.args.values.now c.args.text.now _ _ c.law_one_function.ensures c.run_each.ensures.tells

pub returns-then-is_asked-clause-room : goal.returns-then-is_asked-clause-room
returns-then-is_asked-clause-room c = each_fits _ c.args.budget c.args.values.now c.args.text.now _ _ c.run_each.ensures.tells
