use Rattle.std.proofs.Common.{ap, codes, sym}
use Rattle.verilog_waves.specs.Views.{word_of}
use Rattle.verilog_waves.proofs.shown.word.Goals as goal

pub returns-in-Wire : goal.returns-in-Wire
returns-in-Wire c = sym (ap (λ k. codes (word_of k)) c.in-Wire.is)

pub returns-in-Reg : goal.returns-in-Reg
returns-in-Reg c = sym (ap (λ k. codes (word_of k)) c.in-Reg.is)
