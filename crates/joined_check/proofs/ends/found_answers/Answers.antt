use Rattle.std.proofs.Common.{◌≡◌, sym, ◌∙◌}
use Rattle.circuit_rows.specs.Views.{channel_of}
use Rattle.joined_check.proofs.Ported.{answers_here, answers_none}
use Rattle.joined_check.proofs.ends.found_answers.Goals as goal

pub returns-in-Some : goal.returns-in-Some
returns-in-Some c =
    let e = answers_here c.args.net.now c.args.ports.now (channel_of c.args.channel) _ c.in-Some.found c.row_of.ensures c.in-Some.is in
    c.answers_on.ensures ∙ sym e

pub returns-in-None : goal.returns-in-None
returns-in-None c = sym (answers_none c.args.net.now c.args.ports.now (channel_of c.args.channel) _ c.row_of.ensures c.in-None.is)
