use Rattle.joined_numbers.proofs.Runs.{rows_mean}
use Rattle.joined_numbers.proofs.laws.law_rows_mean.Goals as goal

pub returns : goal.returns
returns c m h = rows_mean m h (c.law_built_sound.ensures m h)
