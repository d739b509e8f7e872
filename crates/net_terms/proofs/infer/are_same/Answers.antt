use Rattle.pcf_values.specs.Views.{ty_of}
use Rattle.net_terms.proofs.Typings.{same_decides}
use Rattle.net_terms.proofs.infer.are_same.Goals as goal

pub returns : goal.returns
returns c = same_decides c.same.result (ty_of c.args.a.now) (ty_of c.args.b.now) c.same.ensures
