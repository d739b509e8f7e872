use Rattle.std.proofs.Common.{arith, codes}
use Rattle.goi_c.specs.Calls.{circuit_alone}
use Rattle.goi_c.proofs.Called.{called}
use Rattle.goi_c.proofs.Owned.{owned}
use Rattle.goi_c.proofs.checking.goi_circuit.Goals as goal

pub returns-clause-calls : goal.returns-clause-calls
returns-clause-calls c =
    let h = c.report_verilog-printed in
    record {
      right = λ asked. called _ _ h.result _ h.ensures.report h.ensures.fault c.give_result.ensures;
      wrong = λ n.
          absurd (n (
            (omega (arith, c.if-cells-lt1.false), omega (arith, c.if-cells-gt-MOST_CELLS.false)),
            (omega (arith, c.if-forks-lt1.false), omega (arith, c.if-forks-gt-MOST_FORKS.false)),
          ));
    }

pub returns-clause-own : goal.returns-clause-own
returns-clause-own c = λ asked.
    let h = c.report_verilog-printed in
    owned _ _ _ (c.law_tasks_settled.ensures.verilogs (codes "goi") (circuit_alone c.args.cells c.args.forks) c.args.text.now) _
    (called _ _ h.result _ h.ensures.report h.ensures.fault c.give_result.ensures)
