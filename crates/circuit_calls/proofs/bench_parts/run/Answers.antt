use Rattle.std.proofs.Common.{refl}
use Rattle.circuit_calls.specs.BenchText.{bench_loop}
use Rattle.circuit_calls.proofs.bench_parts.run.Goals as goal

pub returns : goal.returns
unfolding bench_loop
returns c = refl
