use Rattle.std.proofs.Common.{refl}
use Rattle.circuit_calls.specs.BenchText.{bench_head}
use Rattle.circuit_calls.proofs.bench_parts.head.Goals as goal

pub returns : goal.returns
unfolding bench_head
returns c = refl
