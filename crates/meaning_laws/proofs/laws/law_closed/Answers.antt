use Rattle.meaning_laws.proofs.Exchanged.{closed_put, typed_closed}
use Rattle.meaning_laws.proofs.laws.law_closed.Goals as goal

pub returns-clause-put : goal.returns-clause-put
returns-clause-put c = closed_put

pub returns-clause-typed : goal.returns-clause-typed
returns-clause-typed c = typed_closed
