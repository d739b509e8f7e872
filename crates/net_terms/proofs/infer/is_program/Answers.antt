use Rattle.std.proofs.Common.{sym, ap, ◌∙◌}
use Rattle.pcf_values.specs.Views.{term_of}
use Rattle.net_terms.specs.Typable.{context_of, if_number, type_of}
use Rattle.net_terms.proofs.Typings.{program_test}
use Rattle.net_terms.proofs.infer.is_program.Goals as goal

pub returns : goal.returns
returns c =
    let m = term_of c.args.term.now in
    program_test c.in_ok-numeric.numeric m
    (λ r. ap (λ xs. if_number (type_of (context_of xs) m) r) (sym c.new-context.ensures.items) ∙ c.in_ok-numeric.ensures.number r)
