use Rattle.std.proofs.Common.{rules}
use Rattle.pcf_reader.proofs.print.+print_terms.Goals as goal

pub push_binding-returns : goal.push_binding-returns
push_binding-returns t c = search rules
