use Rattle.std.proofs.Common.{◌∙◌, ◌/◌}
use Rattle.verilog_waves.proofs.Appending.{tilde_more}
use Rattle.verilog_waves.proofs.words.push_code.Goals as goal

pub loop-n-preserved : goal.loop-n-preserved
loop-n-preserved c =
    tilde_more c.loop-n.text.items c.push.new.self.items (c.args.place / 94) c.loop-n.n c.loop-n-test.true c.in_ok-push.ensures.items
    ∙ c.loop-n.invariant
