use Rattle.std.proofs.Common.{codes, string_bytes}
use Rattle.embedding.proofs.Lined.{line_ran, line_refused, of_run}
use Rattle.embedding.proofs.lines.together_line.Goals as goal

pub returns-in-Ok : goal.returns-in-Ok
returns-in-Ok g c =
    let bytes = c.args.bytes.now in
    let ended = c.in-Ok.ended in
    line_ran (codes "together") bytes string_bytes c.run_line-line.result ended.answer c.len.result
    (of_run 4 bytes ended.answer ended.log.entries c.len.result c.in-Ok.ensures.run c.len.ensures) c.run_line-line.ensures

pub returns-in-Err-Fault : goal.returns-in-Err-Fault
returns-in-Err-Fault g c =
    line_refused (codes "together") c.args.bytes.now string_bytes c.refused_line.result c.in-Err-Fault.fault c.in-Err-Fault.field-0
    c.in-Err-Fault.field-0-is c.in-Err-Fault.ensures.fault c.refused_line.ensures
