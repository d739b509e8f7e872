use Rattle.std.proofs.Common.{sym, ap, ◌∙◌}
use Rattle.std.specs.Option.{option_map}
use Rattle.pcf_values.specs.Views.{term_of}
use Rattle.net_terms.proofs.ReadingBack.{none_read}
use Rattle.net_terms.proofs.readback.term_within.Goals as goal

pub returns-in-None : goal.returns-in-None
returns-in-None c = none_read c.args.height c.args.net.now (sym c.in_ok-term.ensures ∙ ap (option_map term_of) c.in-None.is)
