use Rattle.goi_words.proofs.Building.{next_command}
use Rattle.goi_words.proofs.commands.with_commands.Goals as goal

pub loop-name-preserved : goal.loop-name-preserved
loop-name-preserved c =
    next_command _ c.args.names.now c.loop-name.name-index _ c.loop-name.whole c.in_ok-whole.whole c.subcommand.result
    c.loop-name-test.true c.loop-name.invariant c.in_ok-whole.ensures c.subcommand.ensures
