use Rattle.std.proofs.Common.{arith}
use Rattle.pcf_values.specs.Views.{ty_of}
use Rattle.net_text.proofs.TypesRead.{low}
use Rattle.net_text.proofs.types.+is_within.Goals as goal

pub returns-then-most-eq0 : goal.returns-then-most-eq0
returns-then-most-eq0 t c = (λ h. cc, λ l. absurd (low (ty_of c.args.ty.now) (omega (arith, l, c.if-most-eq0.true))))
