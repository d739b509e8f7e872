use Rattle.std.proofs.Common.{◌∙◌, ap, sym, nat_lt}
use Rattle.verilog_tree.specs.Names.{text_of}
use Rattle.verilog_run.specs.Writes.{after_all}
use Rattle.verilog_run.proofs.Placing.{word_past, word_there}
use Rattle.verilog_run.proofs.assign.add_word_in.Goals as goal

pub returns-then-is_below : goal.returns-then-is_below
returns-then-is_below c =
    λ S. c.in_ok-add_word.ensures S
    ∙ word_there (after_all c.args.writes.now.items S) (text_of c.args.name.now) _ c.args.at.now c.args.number
    (sym (c.is_below.ensures ∙ ap (nat_lt c.args.at.now) c.in_ok-count.ensures) ∙ c.if-is_below.true)

pub returns : goal.returns
returns c =
    λ S. word_past (after_all c.args.writes.now.items S) (text_of c.args.name.now) _ c.args.at.now c.args.number
    (sym (c.is_below.ensures ∙ ap (nat_lt c.args.at.now) c.in_ok-count.ensures) ∙ c.if-is_below.false)
