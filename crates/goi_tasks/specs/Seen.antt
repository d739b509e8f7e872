-- What contracts see of the code's report.
use Rattle.goi_tasks.specs.declared.report.Report.{Report}
use Rattle.goi_tasks.specs.Outputs.{Output, output}

-- the output that the code's report is
abbrev pub output_of : Report → Output
output_of r = output r.status r.text.items r.notes.items
