use Rattle.meaning_laws.proofs.Exchanged.{no_fix_length}
use Rattle.meaning_laws.proofs.Tait.{no_fix_value}
use Rattle.meaning_laws.proofs.laws.law_no_fix.Goals as goal

pub returns-clause-value : goal.returns-clause-value
returns-clause-value c = no_fix_value

pub returns-clause-length : goal.returns-clause-length
returns-clause-length c m h = no_fix_length m h (c.law_built_sound.ensures m h)
