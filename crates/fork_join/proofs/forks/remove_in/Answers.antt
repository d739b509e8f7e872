use Rattle.std.proofs.Common.{Some, sym, arith}
use Rattle.std.proofs.lemmas.Grind.{common_steps}
use Rattle.fork_join.proofs.Nesting.{puts}
use Rattle.fork_join.proofs.forks.remove_in.Goals as goal

pub returns-in-Some-clause-rest : goal.returns-in-Some-clause-rest
returns-in-Some-clause-rest c =
    let there = sym c.in-Some.ensures.value in
    puts _ _ _ _ (Some c.in-Some.forks.now) c.close.new.forks _ there (λ q. grind (arith, common_steps)) c.close.ensures
