use Rattle.cbn_meaning.proofs.Derived.{ev_eval, eval_ev}
use Rattle.cbn_meaning.proofs.Head.{head_steps}
use Rattle.cbn_meaning.proofs.Same.{ev_same}
use Rattle.cbn_meaning.proofs.law_derivations.Goals as goal

pub returns-clause-evaluates : goal.returns-clause-evaluates
returns-clause-evaluates c = λ s m r h. ev_eval h

pub returns-clause-derived : goal.returns-clause-derived
returns-clause-derived c = eval_ev

pub returns-clause-one : goal.returns-clause-one
returns-clause-one c = ev_same

pub returns-clause-smaller : goal.returns-clause-smaller
returns-clause-smaller c = head_steps
