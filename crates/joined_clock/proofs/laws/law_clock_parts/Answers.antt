use Rattle.joined_clock.proofs.Parts.{clock_by_parts}
use Rattle.joined_clock.proofs.laws.law_clock_parts.Goals as goal

pub returns : goal.returns
returns c = clock_by_parts
