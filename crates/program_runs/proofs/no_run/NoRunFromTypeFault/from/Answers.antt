use Rattle.std.proofs.Common.{rules}
use Rattle.program_runs.proofs.no_run.NoRunFromTypeFault.from.Goals as goal

pub returns-in_default : goal.returns-in_default
returns-in_default c = search rules
