use Rattle.std.proofs.Common.{ap, ◌∙◌, ◌∷◌}
use Rattle.std.specs.Prelude.{Some}
use Rattle.std.proofs.lemmas.Result.{on_ok_weaker}
use Rattle.joined_module.specs.Machine.{RowFork, innermost}
use Rattle.joined_needs.specs.Views.{forks_of}
use Rattle.joined_needs.proofs.forks.keep_answer.Goals as goal

pub returns : goal.returns
returns c =
    let t = c.take_fork-fork.ensures in
    on_ok_weaker c.open_fork.result
    (λ e. e ∙ ap (λ (f : RowFork). record f { answered = Some c.args.answer } ∷ forks_of c.take_fork-fork.new.forks.items) t.innermost
    ∙ ap (λ fs. record (innermost (forks_of c.args.forks.now.items)) { answered = Some c.args.answer } ∷ fs) t.around)
    c.open_fork.ensures
