use Rattle.std.proofs.Common.{true, false, sym, ap, ◌∙◌}
use Rattle.std.specs.Option.{option_map}
use Rattle.net_build.specs.Views.{wire_of}
use Rattle.net_text.proofs.LinesFit.{no_wire_here, wire_here}
use Rattle.net_text.proofs.wire_line.wire_at.Goals as goal

pub returns-then-branch : goal.returns-then-branch
returns-then-branch c =
    sym (wire_here c.args.height c.args.k c.args.line.now (wire_of c.in-Some.wire) true
    (sym c.in_ok-wire.ensures ∙ ap (option_map wire_of) c.in-Some.is) (sym c.if-branch.true ∙ c.in_ok-is_line-in-Some.ensures))

pub returns-else-branch : goal.returns-else-branch
returns-else-branch c =
    sym (wire_here c.args.height c.args.k c.args.line.now (wire_of c.in-Some.wire) false
    (sym c.in_ok-wire.ensures ∙ ap (option_map wire_of) c.in-Some.is) (sym c.if-branch.false ∙ c.in_ok-is_line-in-Some.ensures))

pub returns-in-None : goal.returns-in-None
returns-in-None c =
    sym (no_wire_here c.args.height c.args.k c.args.line.now (sym c.in_ok-wire.ensures ∙ ap (option_map wire_of) c.in-None.is))
