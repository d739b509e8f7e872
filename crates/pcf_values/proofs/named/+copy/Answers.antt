use Rattle.std.proofs.Common.{ap}
use Rattle.pcf_values.proofs.named.+copy.Goals as goal

-- src/named.rt:39:5
pub Named::copy-returns : goal.Named::copy-returns
Named::copy-returns t c = ap (λ f. f c.args.self.now.at) c.in_ok-copy.ensures
