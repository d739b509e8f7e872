use Rattle.std.proofs.Common.{◌≡◌, ◌++◌, drop, codes}
use Rattle.verilog_tree.specs.Names.{text_of}
use Rattle.joined_fields.proofs.names.push_name.Given as goal

abbrev pub invariant-loop-byte : goal.invariant-loop-byte
invariant-loop-byte l =
    l.text.items ++ codes (text_of (drop l.byte-index l.name)) ≡ l.fn.text.items ++ codes (text_of l.name)
