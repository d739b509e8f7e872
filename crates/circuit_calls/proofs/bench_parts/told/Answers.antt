use Rattle.std.proofs.Common.{refl}
use Rattle.circuit_calls.specs.BenchText.{bench_told}
use Rattle.circuit_calls.proofs.bench_parts.told.Goals as goal

pub returns : goal.returns
unfolding bench_told
returns c = refl
