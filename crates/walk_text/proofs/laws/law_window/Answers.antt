use Rattle.walk_text.proofs.Going.{window_is_part}
use Rattle.walk_text.proofs.laws.law_window.Goals as goal

pub returns : goal.returns
returns c = window_is_part
