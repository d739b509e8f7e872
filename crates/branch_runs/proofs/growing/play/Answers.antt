use Rattle.std.proofs.Common.{sym, subst}
use Rattle.fork_join.proofs.Nesting.{on_ok}
use Rattle.branch_runs.specs.Growing.{Grows, PlayedSo}
use Rattle.branch_runs.proofs.Grown.{grows_begins, walk_played}
use Rattle.branch_runs.proofs.growing.play.Goals as goal

pub grow-requires-clause-grown : goal.grow-requires-clause-grown
grow-requires-clause-grown c =
    let (x, o, e) = c.requires.begins in (
      x,
      o,
      subst (λ l. Grows c.args.net.now x l c.args.core.now) (sym c.requires.empty)
          (subst (Grows c.args.net.now x _) (sym e) (grows_begins c.args.net.now x)),
    )

pub returns-then-plain : goal.returns-then-plain
returns-then-plain c x o e =
    let net = c.args.net.now in
    on_ok c.walk.result (c.walk.ensures x e)
    (λ w. subst (λ plain. PlayedSo net x c.args.most plain c.walk.new.log c.walk.new.core) (sym c.if-plain.true)
    (walk_played net c.requires.runs.sound x o c.args.most c.walk.new.log c.walk.new.core w))
