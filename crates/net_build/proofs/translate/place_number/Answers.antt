use Rattle.std.proofs.lemmas.Result.{IfOk-weaker}
use Rattle.net_build.proofs.Growing.{number_builds}
use Rattle.net_build.proofs.translate.place_number.Goals as goal

pub returns : goal.returns
returns c = IfOk-weaker c.finish.result _ _
    (λ r h. number_builds c.args.parts.now c.finish.new.parts c.args.depth c.args.v c.next.result c.new.result.items r c.next.ensures
    c.new.ensures.items h) c.finish.ensures
