use Rattle.cbv_terms.proofs.Fundamental.{from_by_value, to_by_value}
use Rattle.cbv_terms.proofs.laws.law_by_value.Goals as goal

pub returns : goal.returns
returns c m h k v = (from_by_value m h k v, to_by_value m h k v)
