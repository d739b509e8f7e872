use Rattle.std.proofs.Common.{◌∙◌, sym}
use Rattle.verilog_tree.proofs.Names.{nothing_left}
use Rattle.joined_fields.proofs.names.push_name.Goals as goal

pub returns : goal.returns
returns c =
    sym (nothing_left c.loop-byte.text.items c.args.name.now c.loop-byte.byte-index c.loop-byte-test.false) ∙ c.loop-byte.invariant
