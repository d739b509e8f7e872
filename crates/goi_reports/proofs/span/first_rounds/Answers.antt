use Rattle.std.proofs.Common.{sym, arith}
use Rattle.goi_reports.specs.Spans.{most_rounds}
use Rattle.goi_reports.proofs.Rounding.{first_of, all_of}
use Rattle.goi_reports.proofs.span.first_rounds.Goals as goal

pub slice_bounds-result-end : goal.slice_bounds-result-end
slice_bounds-result-end c = sym (first_of most_rounds c.args.widths.now c.if-widths-most.true)

pub returns-then-widths-most-clause-few : goal.returns-then-widths-most-clause-few
returns-then-widths-most-clause-few c =
    let e = first_of most_rounds c.args.widths.now c.if-widths-most.true in omega (arith, e)

pub returns-else-widths-most-clause-first : goal.returns-else-widths-most-clause-first
returns-else-widths-most-clause-first c = all_of most_rounds c.args.widths.now c.if-widths-most.false
