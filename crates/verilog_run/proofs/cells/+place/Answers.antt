use Rattle.std.proofs.Common.{sym, ◌∙◌}
use Rattle.verilog_tree.specs.Names.{text_of}
use Rattle.verilog_run.proofs.Putting.{place_here, place_later, place_none}
use Rattle.verilog_run.proofs.cells.+place.Goals as goal

pub returns-then-is_named-clause-some : goal.returns-then-is_named-clause-some
returns-then-is_named-clause-some t c =
    place_here c.args.cells.now c.first-item.result (text_of c.args.name.now) c.in-len1-up.len_at_least c.first-item.is
    (sym c.is_named.ensures ∙ c.if-is_named.true)

pub returns-in-Some-clause-some : goal.returns-in-Some-clause-some
returns-in-Some-clause-some t c =
    place_later c.args.cells.now c.first-item.result (text_of c.args.name.now) c.in-Some.k c.in-len1-up.len_at_least c.first-item.is
    (sym c.is_named.ensures ∙ c.if-is_named.false) c.in-Some.ensures.some

pub returns-in-None-clause-none : goal.returns-in-None-clause-none
returns-in-None-clause-none t c =
    place_none c.args.cells.now c.first-item.result (text_of c.args.name.now) c.in-len1-up.len_at_least c.first-item.is
    (sym c.is_named.ensures ∙ c.if-is_named.false) c.in-None.ensures.none
