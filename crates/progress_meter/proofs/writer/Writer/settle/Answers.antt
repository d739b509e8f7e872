use Rattle.std.proofs.Common.{List, ℕ, ◌∙◌, ap, subst}
use Rattle.crossbeam_utils.specs.Seq.{cell_view}
use Rattle.progress_meter.specs.Meters.{AreReadingsOf}
use Rattle.progress_meter.specs.Rule.{readings_of}
use Rattle.progress_meter.proofs.Steps.{compares_as}
use Rattle.progress_meter.proofs.Ends.{reader_is, writer_is, has_settled, has_compared}
use Rattle.progress_meter.proofs.writer.Writer.settle.Goals as goal

pub take_in-requires-clause-views : goal.take_in-requires-clause-views
take_in-requires-clause-views g c = (c.self.invariant.1.is_writer, reader_is _ c.args.reader.readings c.into_end-readings.ensures.view)

pub compare-requires-clause-rule : goal.compare-requires-clause-rule
compare-requires-clause-rule g c = compares_as _ _ (writer_is _ _ _ c.take_in.ensures.joined)

pub invariant_of-self : goal.invariant_of-self
invariant_of-self g c =
    let i = c.self.invariant in
    let v = cell_view c.self.inside.end in
    let w = cell_view c.into_end-readings.result in
    let now = cell_view c.take_in.new.end in
    let s = c.compare.ensures in (
      s.cell ∙ c.take_in.ensures.cell ∙ i.0,
      has_settled v w now (cell_view c.compare.new.end) c.self.inside.last i.1 c.take_in.ensures.joined s.compared,
    )

pub returns-clause-readings : goal.returns-clause-readings
returns-clause-readings g c =
    let v = cell_view c.self.inside.end in
    let w = cell_view c.into_end-readings.result in
    let now = cell_view c.take_in.new.end in
    let are = has_compared v w now (cell_view c.compare.new.end) c.take_in.ensures.joined c.compare.ensures.compared in
    subst (λ (x : List ℕ × List ℕ). AreReadingsOf x.0 x.1)
    (λ i. (ap (λ p. p.published) c.self.view_is i, ap readings_of c.into_end-readings.ensures.view i))
    are

pub returns-clause-faithful : goal.returns-clause-faithful
returns-clause-faithful g c =
    let v = cell_view c.self.inside.end in
    let w = cell_view c.into_end-readings.result in
    let now = cell_view c.take_in.new.end in
    let s = c.compare.ensures in
    let h = has_settled v w now (cell_view c.compare.new.end) c.self.inside.last c.self.invariant.1 c.take_in.ensures.joined s.compared in
    record { rises = h.rises; settled = h.settled }
