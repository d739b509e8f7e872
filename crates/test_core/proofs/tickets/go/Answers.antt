use Rattle.std.proofs.Common.{◌+◌, arith}
use Rattle.interleave_core.proofs.Stepping.{reached_ok}
use Rattle.test_core.proofs.tickets.go.Goals as goal

pub returns-then-is_live : goal.returns-then-is_live
returns-then-is_live c =
    reached_ok c.step.result c.args.net.now (c.args.moves + 1) (c.args.moves + 2) c.args.ticket _ c.step.new.self (omega arith)
    c.requires.reached c.step.ensures.steps
