use Rattle.std.proofs.Common.{◌∙◌, ap}
use Rattle.verilog_tree.specs.Names.{text_of}
use Rattle.verilog_run.specs.Entries.{rows}
use Rattle.verilog_run.specs.Held.{held, with_word}
use Rattle.verilog_run.proofs.Putting.{word_put}
use Rattle.verilog_run.proofs.contents.Contents.set_word.Goals as goal

pub returns-in_ok-put_at-in-Some : goal.returns-in_ok-put_at-in-Some
returns-in_ok-put_at-in-Some c =
    word_put (rows c.args.self.now.vectors) _ _ (text_of c.args.name.now) c.in-Some.i c.args.number c.in_ok-put_at-in-Some.ensures
    ∙ ap (λ i. with_word (text_of c.args.name.now) i c.args.number (held c.args.self.now)) c.in-Some.ensures.found.0
