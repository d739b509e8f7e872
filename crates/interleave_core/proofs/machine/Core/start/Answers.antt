use Rattle.std.proofs.Common.{sym, subst}
use Rattle.interleave_laws.specs.Start.{start_of}
use Rattle.interleave_laws.proofs.Few.{Few, start_few}
use Rattle.interleave_core.proofs.machine.Core.start.Goals as goal

pub invariant_of-result : goal.invariant_of-result
invariant_of-result c = subst Few (sym c.in_ok-parts.ensures) (start_few (start_of c.args.net.now))
