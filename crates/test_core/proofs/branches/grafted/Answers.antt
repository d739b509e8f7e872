use Rattle.std.proofs.Common.{◌+◌}
use Rattle.test_core.proofs.Reaching.{reached_row}
use Rattle.test_core.proofs.branches.grafted.Goals as goal

pub returns-in_ok-grown-in-Some : goal.returns-in_ok-grown-in-Some
returns-in_ok-grown-in-Some g c =
    reached_row c.graft.result g.N.OnNet.net (c.args.moves + 1) c.args.most c.args.ticket c.args.core.now c.graft.new.core
    c.in_ok-grown-in-Some.grown c.requires.reached c.in_ok-grown-in-Some.ensures.played.within c.requires.few.1 c.graft.ensures.taken
