use Rattle.program_runs.proofs.OneProgram.{one_program}
use Rattle.program_runs.proofs.laws.law_one_program.Goals as goal

pub returns : goal.returns
returns c =
    one_program c.law_one_tree.ensures c.law_text_one_fault.ensures c.law_text_or_fault.ensures.not_both c.law_text_or_fault.ensures.either
    c.law_faults.ensures.one c.law_faults.ensures.some
