use Rattle.meaning_laws.proofs.Exchanged.{in_every_context}
use Rattle.meaning_laws.proofs.laws.law_equations.Goals as goal

pub returns : goal.returns
returns c = in_every_context
