use Rattle.std.proofs.Common.{arith}
use Rattle.std.proofs.lemmas.Result.{IfOk-weaker}
use Rattle.pcf_values.specs.Views.{term_of}
use Rattle.cbv_terms.proofs.Translating.{start_ready, start_makes}
use Rattle.cbv_terms.proofs.translate.translate_program.Goals as goal

pub translate-requires-clause-ready : goal.translate-requires-clause-ready
translate-requires-clause-ready c = start_ready c.new-binders.result.items (term_of c.args.term.now) c.new-binders.ensures.items
    c.requires.typed c.requires.taken

pub translate-requires-clause-room : goal.translate-requires-clause-room
translate-requires-clause-room c = omega (arith, c.requires.room)

pub returns : goal.returns
returns c =
    IfOk-weaker c.close_program.result _ _
    (λ t e. start_makes c.new-binders.result.items c.translate.new.binders.items (term_of c.args.term.now) c.in_ok-made.made t
    c.new-binders.ensures.items c.in_ok-made.ensures e)
    c.close_program.ensures
