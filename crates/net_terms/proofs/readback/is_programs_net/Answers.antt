use Rattle.pcf_values.specs.Views.{term_of}
use Rattle.net_terms.proofs.UsesKept.{uses_of}
use Rattle.net_terms.proofs.readback.is_programs_net.Goals as goal

pub returns-else-branch-clause-other : goal.returns-else-branch-clause-other
returns-else-branch-clause-other c =
    λ f t e. c.in_ok-has_uses.ensures c.if-branch.false (uses_of c.args.net.now (term_of c.args.term.now) e)
