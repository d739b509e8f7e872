use Rattle.std.proofs.Common.{sym, ap, ◌∙◌, arith}
use Rattle.verilog_run.specs.Entries.{slot_of}
use Rattle.verilog_run.proofs.Texts.{codes_text}
use Rattle.verilog_run.proofs.names.slot_of_name.Goals as goal

pub returns : goal.returns
returns c = c.slot_of_bytes.ensures ∙ ap slot_of (sym (codes_text c.args.name.now (λ i. omega (arith, c.type_inv.name i))))
