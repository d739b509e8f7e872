use Rattle.std.proofs.Common.{◌∙◌, ◌+◌, ap}
use Rattle.verilog_waves.proofs.Appending.{digit_more}
use Rattle.verilog_waves.proofs.words.push_bits.Goals as goal

pub loop-left-preserved : goal.loop-left-preserved
loop-left-preserved c =
    digit_more c.loop-left.text.items c.push.new.self.items c.loop-left.left c.digit.result c.args.n.now c.loop-left-test.true
    (c.digit.ensures ∙ ap (λ b. 48 + b) c.bit.ensures) c.in_ok-push.ensures.items
    ∙ c.loop-left.invariant
