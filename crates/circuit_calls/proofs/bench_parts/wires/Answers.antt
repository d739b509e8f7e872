use Rattle.std.proofs.Common.{refl}
use Rattle.circuit_calls.specs.BenchText.{bench_wires}
use Rattle.circuit_calls.proofs.bench_parts.wires.Goals as goal

pub returns : goal.returns
unfolding bench_wires
returns c = refl
