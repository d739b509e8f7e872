use Rattle.goi_words.proofs.Building.{next_argument}
use Rattle.goi_words.proofs.commands.command.Goals as goal

pub loop-argument-init : goal.loop-argument-init
loop-argument-init c = (c.new-made.ensures.app, c.new-made.ensures.local)

pub loop-argument-preserved : goal.loop-argument-preserved
loop-argument-preserved c =
    next_argument c.args.name.now c.args.arguments.now c.loop-argument.argument-index _ c.loop-argument.made c.in_ok-made.made
    c.clap_arg.result c.loop-argument-test.true c.loop-argument.invariant c.in_ok-made.ensures c.clap_arg.ensures.local
    c.clap_arg.ensures.rule
