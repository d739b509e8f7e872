use Rattle.std.proofs.Common.{refl}
use Rattle.circuit_calls.specs.BenchText.{bench_last}
use Rattle.circuit_calls.proofs.bench_parts.last.Goals as goal

pub returns : goal.returns
unfolding bench_last
returns c = refl
