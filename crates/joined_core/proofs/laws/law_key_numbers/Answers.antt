use Rattle.joined_core.proofs.Numbers.{numbers_differ, numbers_find}
use Rattle.joined_core.proofs.laws.law_key_numbers.Goals as goal

pub returns-clause-differ : goal.returns-clause-differ
returns-clause-differ c = numbers_differ

pub returns-clause-find : goal.returns-clause-find
returns-clause-find c = numbers_find
