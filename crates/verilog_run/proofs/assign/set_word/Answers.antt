use Rattle.std.proofs.Common.{◌∙◌, ap, sym, nat_lt}
use Rattle.verilog_tree.specs.Names.{text_of}
use Rattle.verilog_run.specs.Held.{held}
use Rattle.verilog_run.proofs.Placing.{word_past, word_there}
use Rattle.verilog_run.proofs.assign.set_word.Goals as goal

pub returns-then-is_below : goal.returns-then-is_below
returns-then-is_below c =
    c.in_ok-set_word.ensures
    ∙ word_there (held c.args.store.now) (text_of c.args.name.now) _ c.args.at.now c.args.number
    (sym (c.is_below.ensures ∙ ap (nat_lt c.args.at.now) c.in_ok-count.ensures) ∙ c.if-is_below.true)

pub returns : goal.returns
returns c =
    word_past (held c.args.store.now) (text_of c.args.name.now) _ c.args.at.now c.args.number
    (sym (c.is_below.ensures ∙ ap (nat_lt c.args.at.now) c.in_ok-count.ensures) ∙ c.if-is_below.false)
