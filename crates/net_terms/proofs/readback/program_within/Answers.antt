use Rattle.pcf_values.specs.Views.{term_of}
use Rattle.net_terms.proofs.ReadingBack.{not_typed_or_same}
use Rattle.net_terms.proofs.readback.program_within.Goals as goal

pub returns-else-branch : goal.returns-else-branch
returns-else-branch c =
    not_typed_or_same c.args.height c.args.net.now (term_of c.args.term) c.requires.only
    (c.in_ok-is_programs_net.ensures.other c.if-branch.false)
