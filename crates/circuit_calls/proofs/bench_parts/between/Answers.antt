use Rattle.std.proofs.Common.{refl}
use Rattle.circuit_calls.specs.BenchText.{bench_between}
use Rattle.circuit_calls.proofs.bench_parts.between.Goals as goal

pub returns : goal.returns
unfolding bench_between
returns c = refl
