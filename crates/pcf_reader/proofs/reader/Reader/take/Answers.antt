use Rattle.std.proofs.Common.{rules}
use Rattle.pcf_reader.proofs.reader.Reader.take.Goals as goal

pub returns-then-nodes-gt-PROGRAM_NODES-clause-goes : goal.returns-then-nodes-gt-PROGRAM_NODES-clause-goes
returns-then-nodes-gt-PROGRAM_NODES-clause-goes c = search rules
