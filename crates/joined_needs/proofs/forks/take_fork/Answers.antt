use Rattle.std.proofs.Common.{rules, option_to_list, map, None, ap, ◌∙◌, ◌++◌}
use Rattle.std.proofs.lemmas.Option.{MatchOption-at_none}
use Rattle.joined_module.specs.Machine.{RowFork}
use Rattle.joined_needs.specs.Views.{pointer_of}
use Rattle.joined_needs.proofs.Lists.{taken_some, taken_none}
use Rattle.joined_needs.proofs.forks.take_fork.Goals as goal

pub returns-in-Some : goal.returns-in-Some
returns-in-Some c =
    taken_some c.args.forks.now.items c.pop.new.self.items c.in-Some.fork
    (c.pop.ensures.items ∙ ap (λ o. c.pop.new.self.items ++ option_to_list o) c.in-Some.is)

pub returns-in-None : goal.returns-in-None
returns-in-None c =
    taken_none c.args.forks.now.items c.pop.new.self.items _
    (c.pop.ensures.items ∙ ap (λ o. c.pop.new.self.items ++ option_to_list o) c.in-None.is)
    (let h = (MatchOption-at_none _ _ c.in-None.is c.pop.ensures.cases).0 in search rules)
    (ap (λ ps. let f : RowFork = record { boxes = map pointer_of ps; answered = None; top = 0 } in f) c.new.ensures.items)
