use Rattle.pcf_values.specs.Views.{term_of}
use Rattle.net_terms.proofs.Taking.{not_used}
use Rattle.net_terms.proofs.uses.has_uses.Goals as goal

pub returns : goal.returns
returns c = λ f e. not_used c.in_ok-fits.fits _ _ _ (term_of c.args.term.now) c.new-context.ensures.items c.in_ok-fits.ensures.uses f e
