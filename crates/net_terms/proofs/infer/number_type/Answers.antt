use Rattle.std.proofs.Common.{◌^◌, Some, None, sym, ap, arith}
use Rattle.std.specs.Prelude.{if◌then◌else◌}
use Rattle.std.proofs.lemmas.Bool.{lt-ltb}
use Rattle.pcf_values.specs.Terms.{nat}
use Rattle.net_terms.proofs.infer.number_type.Goals as goal

pub returns : goal.returns
returns c = sym (ap (λ b. if b then Some nat else None) (lt-ltb c.args.n (2 ^ 64) (omega (arith, c.ranges.n))))
