use Rattle.std.proofs.Common.{[], ◌∷◌, ◌∙◌, sym, rules}
use Rattle.crossbeam_utils.specs.Seq.{cell_view}
use Rattle.progress_meter.proofs.Steps.{stores_as}
use Rattle.progress_meter.proofs.Ends.{has_published}
use Rattle.progress_meter.proofs.writer.Writer.publish.Goals as goal

pub store-requires-clause-rule : goal.store-requires-clause-rule
store-requires-clause-rule g c = stores_as _ _ c.args.n c.self.invariant.1.is_writer (search rules)

pub invariant_of-self : goal.invariant_of-self
invariant_of-self g c =
    let i = c.self.invariant in
    let s = c.store.ensures in
    let v = cell_view c.self.inside.end in
    (s.cell ∙ i.0, has_published v (cell_view c.store.new.end) c.self.inside.last (c.args.n ∷ []) i.1 (search rules) s.stored)

pub returns-clause-last : goal.returns-clause-last
returns-clause-last g c =
    let i = c.self.invariant in
    let v = cell_view c.self.inside.end in
    let h = has_published v (cell_view c.store.new.end) c.self.inside.last (c.args.n ∷ []) i.1 (search rules) c.store.ensures.stored in
    sym h.last_is
