use Rattle.std.proofs.Common.{refl}
use Rattle.circuit_calls.specs.BenchText.{bench_circuit}
use Rattle.circuit_calls.proofs.bench_parts.circuit.Goals as goal

pub returns : goal.returns
unfolding bench_circuit
returns c = refl
