use Rattle.std.proofs.Common.{[], ◌∷◌, ◌∙◌, sym}
use Rattle.crossbeam_utils.specs.Seq.{cell_view}
use Rattle.progress_meter.proofs.Steps.{loads_as}
use Rattle.progress_meter.proofs.Ends.{has_read}
use Rattle.progress_meter.proofs.reader.Reader.read.Goals as goal

pub load-n-requires-clause-rule : goal.load-n-requires-clause-rule
load-n-requires-clause-rule g c = loads_as _ _ c.self.invariant.1.is_reader

pub invariant_of-self : goal.invariant_of-self
invariant_of-self g c =
    let i = c.self.invariant in
    let s = c.load-n.ensures in
    let v = cell_view c.self.inside.end in
    (s.cell ∙ i.0, has_read v (cell_view c.load-n.new.end) c.self.inside.last (c.load-n.result ∷ []) i.1 s.loaded)

pub returns-clause-last : goal.returns-clause-last
returns-clause-last g c =
    let i = c.self.invariant in
    let v = cell_view c.self.inside.end in
    let h = has_read v (cell_view c.load-n.new.end) c.self.inside.last (c.load-n.result ∷ []) i.1 c.load-n.ensures.loaded in
    sym h.last_is

pub returns-clause-rises : goal.returns-clause-rises
returns-clause-rises g c =
    let i = c.self.invariant in
    let v = cell_view c.self.inside.end in
    let h = has_read v (cell_view c.load-n.new.end) c.self.inside.last (c.load-n.result ∷ []) i.1 c.load-n.ensures.loaded in
    h.rises
