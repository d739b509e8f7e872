use Rattle.std.proofs.Common.{codes, string_bytes}
use Rattle.embedding.proofs.Lined.{line_ran, line_refused}
use Rattle.embedding.proofs.by_hand.hand_line.Goals as goal

pub returns-in-Ok : goal.returns-in-Ok
returns-in-Ok c =
    line_ran (codes "by hand") c.args.bytes.now string_bytes c.run_line.result c.in-Ok.walked.answer c.in-Ok.walked.moves
    c.in-Ok.ensures.walked c.run_line.ensures

pub returns-in-Err-Fault : goal.returns-in-Err-Fault
returns-in-Err-Fault c =
    line_refused (codes "by hand") c.args.bytes.now string_bytes c.refused_line.result c.in-Err-Fault.fault c.in-Err-Fault.field-0
    c.in-Err-Fault.field-0-is c.in-Err-Fault.ensures.fault c.refused_line.ensures
