use Rattle.goi_tasks.proofs.Functions.{no_any_function}
use Rattle.goi_tasks.proofs.circuit.report_circuit.Goals as goal

pub returns-clause-report : goal.returns-clause-report
returns-clause-report c =
    let f = c.in_ok-function.function in record {
      term = f.0;
      count = f.1;
      is = c.in_ok-function.ensures.function;
      so = record { text = c.in_ok-text.text.items; prints = c.in_ok-text.ensures; output_is = c.plain.ensures };
    }

pub returns-in_err-function-clause-fault : goal.returns-in_err-function-clause-fault
returns-in_err-function-clause-fault c =
    no_any_function c.args.bytes.now c.from_residual.result _ c.from_residual.ensures.1 c.in_err-function.ensures.fault
