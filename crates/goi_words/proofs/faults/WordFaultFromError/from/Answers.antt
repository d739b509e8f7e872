use Rattle.std.proofs.Common.{rules}
use Rattle.goi_words.proofs.faults.WordFaultFromError.from.Goals as goal

pub returns-in-OutOfMemory : goal.returns-in-OutOfMemory
returns-in-OutOfMemory c = search rules
