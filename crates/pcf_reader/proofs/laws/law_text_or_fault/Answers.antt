use Rattle.pcf_reader.proofs.Splitting.{text_no_fault}
use Rattle.pcf_reader.proofs.TextOrFault.{text_or_fault}
use Rattle.pcf_reader.proofs.laws.law_text_or_fault.Goals as goal

pub returns-clause-either : goal.returns-clause-either
returns-clause-either c = text_or_fault

pub returns-clause-not_both : goal.returns-clause-not_both
returns-clause-not_both c = text_no_fault
