use Rattle.std.proofs.Common.{ap, ◌∙◌, ◌++◌, ℕ}
use Rattle.circuit_calls.specs.CallText.{call_text}
use Rattle.goi_reports.specs.Reports.{where_asked}
use Rattle.goi_tasks.proofs.circuit.text_of.Goals as goal

pub returns : goal.returns
returns c =
    let text = c.in_ok-text.text.items in record {
      circuit = text;
      prints = c.in_ok-text.ensures;
      text_is = c.in_ok-push_asked_call.ensures
          ∙ ap (λ (n : ℕ). text ++ where_asked c.args.handshake (call_text c.args.name.now n)) c.arguments-arguments.ensures;
    }
