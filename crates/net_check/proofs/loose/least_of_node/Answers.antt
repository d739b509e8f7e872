use Rattle.std.proofs.Common.{ap, ◌∙◌, [], ◌∷◌}
use Rattle.net_build.specs.Found.{present}
use Rattle.net_build.specs.Nets.{conclusions}
use Rattle.net_check.specs.Counts.{lesser_of}
use Rattle.net_check.proofs.Counting.{lesser_two, lesser_three}
use Rattle.net_check.proofs.loose.least_of_node.Goals as goal

pub returns : goal.returns
returns c =
    let k = c.args.count in
    let a = c.conclusions-first.result in
    let b = c.premises-first.result in
    let p = c.lesser_past-least.ensures ∙ ap (lesser_of k (present (a.1 ∷ []))) c.lesser_past.ensures ∙ lesser_two k a.0 a.1 c.args.least
    ∙ ap (λ ws. lesser_of k ws c.args.least) c.conclusions-first.ensures in
    c.lesser_past-4.ensures
    ∙ ap (lesser_of k (present (b.2 ∷ [])))
    (c.lesser_past-3.ensures
    ∙ ap (lesser_of k (present (b.1 ∷ []))) (c.lesser_past-2.ensures ∙ ap (lesser_of k (present (b.0 ∷ []))) p))
    ∙ lesser_three k b.0 b.1 b.2 (lesser_of k (conclusions c.args.node) c.args.least)
    ∙ ap (λ ws. lesser_of k ws (lesser_of k (conclusions c.args.node) c.args.least)) c.premises-first.ensures
