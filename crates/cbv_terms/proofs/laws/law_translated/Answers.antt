use Rattle.cbv_terms.proofs.Typed.{translated_typed, translated_size, translated_height}
use Rattle.cbv_terms.proofs.laws.law_translated.Goals as goal

pub returns-clause-typed : goal.returns-clause-typed
returns-clause-typed c = translated_typed

pub returns-clause-size : goal.returns-clause-size
returns-clause-size c = translated_size

pub returns-clause-height : goal.returns-clause-height
returns-clause-height c = translated_height
