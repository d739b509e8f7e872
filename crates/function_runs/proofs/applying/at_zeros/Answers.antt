use Rattle.pcf_values.specs.Views.{term_of}
use Rattle.function_runs.proofs.Zeros.{of_zeros}
use Rattle.function_runs.proofs.applying.at_zeros.Goals as goal

pub of-requires : goal.of-requires
of-requires c =
    of_zeros c.law_applied.ensures.has c.args.program.0 (term_of c.in_ok-applied.applied) (term_of c.into_term-term.result)
    c.args.program.1 c.args.arguments c.into_term-term.ensures.term c.in_ok-applied.ensures c.into_term-term.ensures.typed c.requires
