use Rattle.std.proofs.Common.{refl}
use Rattle.circuit_calls.specs.BenchText.{bench_begin}
use Rattle.circuit_calls.proofs.bench_parts.begin.Goals as goal

pub returns : goal.returns
unfolding bench_begin
returns c = refl
