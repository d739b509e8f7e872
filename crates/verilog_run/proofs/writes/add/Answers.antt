use Rattle.std.proofs.Common.{ap, ◌∙◌}
use Rattle.verilog_run.specs.Writes.{after_all}
use Rattle.verilog_run.proofs.Stepping.{after_push}
use Rattle.verilog_run.proofs.writes.add.Goals as goal

pub returns : goal.returns
returns c =
    λ S. ap (λ ws. after_all ws S) c.in_ok-push.ensures.items ∙ after_push c.args.writes.now.items c.args.write S
