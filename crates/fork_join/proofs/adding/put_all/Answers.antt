use Rattle.std.proofs.Common.{ap, sym, ◌∙◌, subst}
use Rattle.std.specs.Prelude.{map}
use Rattle.std.specs.FinMap.{get}
use Rattle.fork_join.specs.Listed.{open_of}
use Rattle.fork_join.specs.Filling.{filled, AllNew}
use Rattle.fork_join.proofs.Filling.{all_new, all_filled}
use Rattle.fork_join.proofs.adding.put_all.Goals as goal

pub put_list-requires : goal.put_list-requires
put_list-requires c =
    subst (λ es. AllNew es c.args.table.now) (sym (ap (map open_of) c.deref.ensures.value ∙ c.in_ok-list.ensures))
    (all_new c.args.other.now c.args.table.now (λ q. c.requires q.0 q.1))

pub returns-clause-ok : goal.returns-clause-ok
returns-clause-ok c n t =
    ap (λ f. get f (n, t)) c.in_ok-put_list.ensures.ok
    ∙ ap (λ es. get (filled es c.args.table.now) (n, t)) (ap (map open_of) c.deref.ensures.value ∙ c.in_ok-list.ensures)
    ∙ all_filled c.args.other.now c.args.table.now (n, t)
