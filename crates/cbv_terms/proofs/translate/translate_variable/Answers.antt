use Rattle.std.proofs.Common.{arith}
use Rattle.cbv_terms.proofs.Placing.{variable_within, variable_level}
use Rattle.cbv_terms.proofs.Translating.{variable_makes, both_ok}
use Rattle.cbv_terms.proofs.translate.translate_variable.Goals as goal

pub binder_of-binder-requires : goal.binder_of-binder-requires
binder_of-binder-requires c = let (t, h) = c.requires.ready.typed in variable_within c.args.binders.now.items c.args.i t h

pub overflow_sub-depth : goal.overflow_sub-depth
overflow_sub-depth c =
    let l = variable_level c.args.depth c.args.binders.now.items c.args.i c.binder_of-binder.result c.requires.ready.around
    c.binder_of-binder.ensures in
    omega arith

pub returns : goal.returns
returns c =
    both_ok c.hand_on.result _ _ _
    (λ made e q. variable_makes c.args.binders.now.items c.args.depth c.args.i c.binder_of-binder.result made c.requires.ready.around
    c.binder_of-binder.ensures e q)
    c.hand_on.ensures.term c.hand_on.ensures.typed
