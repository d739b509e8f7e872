use Rattle.std.proofs.Common.{◌≡◌, ◌∙◌, OnOk, ap, subst, sym}
use Rattle.verilog_tree.specs.Meaning.{run as run_of}
use Rattle.verilog_tree.specs.Views.{arms_of, expr_of, stmt_of}
use Rattle.verilog_run.specs.Held.{held}
use Rattle.verilog_run.specs.Scopes.{scope_of}
use Rattle.verilog_run.proofs.Stepping.{run_taken, run_passed, run_case_is}
use Rattle.verilog_run.proofs.run.+run.Goals as goal

pub run-returns-in-Seq : goal.run-returns-in-Seq
run-returns-in-Seq t c =
    subst (λ s. OnOk c.run_both.result (held c.run_both.new.store ≡ run_of (scope_of c.args.scene.now) s (held c.args.store.now)))
    (sym (ap stmt_of c.in-Seq.is)) c.run_both.ensures

pub run-returns-in-Branch : goal.run-returns-in-Branch
run-returns-in-Branch t c =
    subst (λ s. OnOk c.run_one.result (held c.run_one.new.store ≡ run_of (scope_of c.args.scene.now) s (held c.args.store.now)))
    (sym (ap stmt_of c.in-Branch.is)) c.run_one.ensures

pub run-returns-in-Case : goal.run-returns-in-Case
run-returns-in-Case t c =
    subst (λ s. OnOk c.run_case.result (held c.run_case.new.store ≡ run_of (scope_of c.args.scene.now) s (held c.args.store.now)))
    (sym (ap stmt_of c.in-Case.is)) c.run_case.ensures

pub run_arms-returns-then-taken : goal.run_arms-returns-then-taken
run_arms-returns-then-taken t c =
    run_taken (scope_of c.args.scene.now) (held c.args.store.now) _ c.args.w.now c.args.n.now _ _ _ _ (arms_of c.args.arms.now)
    c.in_ok-taken-in-Arm.taken (ap arms_of c.in-Arm.is) c.in_ok-taken-in-Arm.ensures c.if-taken.true c.in_ok-run-in-Arm.ensures

pub run_arms-returns-in_ok-run_arms-in-Arm : goal.run_arms-returns-in_ok-run_arms-in-Arm
run_arms-returns-in_ok-run_arms-in-Arm t c =
    run_passed (scope_of c.args.scene.now) (held c.args.store.now) _ c.args.w.now c.args.n.now _ _ _ _ (arms_of c.args.arms.now)
    c.in_ok-taken-in-Arm.taken (ap arms_of c.in-Arm.is) c.in_ok-taken-in-Arm.ensures c.if-taken.false c.in_ok-run_arms-in-Arm.ensures

pub run_both-returns : goal.run_both-returns
run_both-returns t c =
    c.in_ok-run-2.ensures ∙ ap (λ T. run_of (scope_of c.args.scene.now) (stmt_of c.args.t.now) T) c.in_ok-run.ensures

pub run_case-returns : goal.run_case-returns
run_case-returns t c =
    run_case_is (scope_of c.args.scene.now) (held c.args.store.now) _ (expr_of c.args.e.now) (arms_of c.args.arms.now) c.in_ok-w.w _
    c.in_ok-w.ensures c.in_ok-n.ensures c.in_ok-run_arms.ensures
