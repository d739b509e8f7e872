use Rattle.std.proofs.Common.{◌≡◌, fold, take}
use Rattle.clap.specs.Words.{app_of}
use Rattle.goi_words.specs.Growing.{with_named}
use Rattle.goi_words.proofs.commands.with_commands.Given as goal

abbrev pub invariant-loop-name : goal.invariant-loop-name
invariant-loop-name l = app_of l.whole ≡ fold with_named (app_of l.fn.program) (take l.name-index l.names)
