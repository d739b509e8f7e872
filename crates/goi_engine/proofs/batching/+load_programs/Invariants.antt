use Rattle.std.proofs.Common.{length}
use Rattle.goi_engine.proofs.batching.+load_programs.Given as goal

abbrev pub decreases-load_programs : goal.decreases-load_programs
decreases-load_programs g l = length l.lines.now
