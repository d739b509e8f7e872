use Rattle.std.proofs.Common.{◌∙◌}
use Rattle.verilog_run.proofs.Texts.{names_same}
use Rattle.verilog_run.proofs.names.same_bytes.Goals as goal

pub returns : goal.returns
returns c = c.eq.ensures ∙ names_same c.args.a.now c.args.b.now c.requires.first c.requires.second
