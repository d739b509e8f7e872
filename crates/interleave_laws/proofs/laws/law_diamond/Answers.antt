use Rattle.interleave_laws.proofs.Diamond.{diamond}
use Rattle.interleave_laws.proofs.laws.law_diamond.Goals as goal

pub returns : goal.returns
returns c = diamond
