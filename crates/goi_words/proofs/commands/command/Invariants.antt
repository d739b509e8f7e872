use Rattle.std.proofs.Common.{map, take}
use Rattle.goi_words.specs.Commands.{command}
use Rattle.goi_words.specs.Growing.{IsCommand, rule_of_argument}
use Rattle.goi_words.proofs.commands.command.Given as goal

abbrev pub invariant-loop-argument : goal.invariant-loop-argument
invariant-loop-argument l = IsCommand (command l.fn.name (map rule_of_argument (take l.argument-index l.arguments))) l.made
