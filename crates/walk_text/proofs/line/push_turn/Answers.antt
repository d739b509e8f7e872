use Rattle.std.proofs.Common.{rules}
use Rattle.walk_text.proofs.line.push_turn.Goals as goal

pub returns-in-Forked : goal.returns-in-Forked
returns-in-Forked c = search rules

pub returns-in-Joined : goal.returns-in-Joined
returns-in-Joined c = search rules
