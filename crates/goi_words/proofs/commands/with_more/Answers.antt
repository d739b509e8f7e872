use Rattle.std.proofs.Common.{IfOk, refl, subst}
use Rattle.std.proofs.lemmas.Result.{IfOk-weaker}
use Rattle.goi_words.specs.Growing.{IsCommand}
use Rattle.goi_words.proofs.Building.{more_subcommands}
use Rattle.goi_words.proofs.commands.with_more.Goals as goal

pub returns-in-Ok : goal.returns-in-Ok
returns-in-Ok c = IfOk-weaker c.subcommand.result _ _
    (λ command added s is. more_subcommands _ _ _ _ s added (subst (λ m. IfOk m (IsCommand s)) c.in-Ok.is is) refl) c.subcommand.ensures
