use Rattle.pcf_values.specs.Views.{named_of}
use Rattle.cbv_terms.proofs.Scanning.{told}
use Rattle.cbv_terms.proofs.refusal.refusal.Goals as goal

pub returns : goal.returns
returns c = told (named_of c.args.program.now) c.scan.result c.first_of.result (c.is_within.ensures.0 c.if-not-is_within.false)
    c.scan.ensures c.first_of.ensures
