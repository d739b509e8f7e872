use Rattle.meaning_laws.proofs.Exchanged.{kept, all_kept}
use Rattle.meaning_laws.proofs.Types.{types_kept}
use Rattle.meaning_laws.proofs.laws.law_programs.Goals as goal

pub returns-clause-types : goal.returns-clause-types
returns-clause-types k = types_kept

pub returns-clause-programs : goal.returns-clause-programs
returns-clause-programs k = kept k.law_built_sound.ensures

pub returns-clause-rewrites : goal.returns-clause-rewrites
returns-clause-rewrites k = all_kept k.law_built_sound.ensures
