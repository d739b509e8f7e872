use Rattle.goi_c.proofs.ManyRows.{settled}
use Rattle.goi_c.proofs.rows.tell_function.Goals as goal

pub returns-clause-told : goal.returns-clause-told
returns-clause-told c =
    let told = c.tell_rows-told in
    settled c.args.function.now c.args.budget c.args.values.now told.result _ _ _ told.ensures.rows c.settle.ensures.told
    c.settle.ensures.no_memory
