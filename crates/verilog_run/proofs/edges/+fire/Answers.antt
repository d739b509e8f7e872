use Rattle.std.proofs.Common.{◌≡◌, ◌∙◌, OnOk, ap, subst, sym}
use Rattle.verilog_tree.specs.Meaning.{Store, fire as fire_of}
use Rattle.verilog_tree.specs.Views.{arms_of, expr_of, stmt_of}
use Rattle.verilog_run.specs.Held.{held}
use Rattle.verilog_run.specs.Scopes.{scope_of}
use Rattle.verilog_run.specs.Writes.{after_all}
use Rattle.verilog_run.proofs.Stepping.{fire_taken, fire_passed, fire_case_is}
use Rattle.verilog_run.proofs.edges.+fire.Goals as goal

pub fire-returns-in-Seq : goal.fire-returns-in-Seq
fire-returns-in-Seq t c =
    subst (λ s. OnOk c.fire_both.result ((S : Store) → after_all c.fire_both.new.writes.items S
    ≡ fire_of (scope_of c.args.scene.now) (held c.args.read.now) s (after_all c.args.writes.now.items S)))
    (sym (ap stmt_of c.in-Seq.is)) c.fire_both.ensures

pub fire-returns-in-Branch : goal.fire-returns-in-Branch
fire-returns-in-Branch t c =
    subst (λ s. OnOk c.fire_one.result ((S : Store) → after_all c.fire_one.new.writes.items S
    ≡ fire_of (scope_of c.args.scene.now) (held c.args.read.now) s (after_all c.args.writes.now.items S)))
    (sym (ap stmt_of c.in-Branch.is)) c.fire_one.ensures

pub fire-returns-in-Case : goal.fire-returns-in-Case
fire-returns-in-Case t c =
    subst (λ s. OnOk c.fire_case.result ((S : Store) → after_all c.fire_case.new.writes.items S
    ≡ fire_of (scope_of c.args.scene.now) (held c.args.read.now) s (after_all c.args.writes.now.items S)))
    (sym (ap stmt_of c.in-Case.is)) c.fire_case.ensures

pub fire_arms-returns-then-taken : goal.fire_arms-returns-then-taken
fire_arms-returns-then-taken t c =
    fire_taken (scope_of c.args.scene.now) (held c.args.read.now) c.args.writes.now.items
    c.fire-then-taken.new.writes.items c.args.w.now c.args.n.now _ _ _ _
    (arms_of c.args.arms.now)
    c.in_ok-taken-in-Arm.taken (ap arms_of c.in-Arm.is) c.in_ok-taken-in-Arm.ensures c.if-taken.true c.in_ok-fire-in-Arm.ensures

pub fire_arms-returns-in_ok-fire_arms-in-Arm : goal.fire_arms-returns-in_ok-fire_arms-in-Arm
fire_arms-returns-in_ok-fire_arms-in-Arm t c =
    fire_passed (scope_of c.args.scene.now) (held c.args.read.now) c.args.writes.now.items
    c.fire_arms.new.writes.items c.args.w.now c.args.n.now _ _ _ _
    (arms_of c.args.arms.now)
    c.in_ok-taken-in-Arm.taken (ap arms_of c.in-Arm.is) c.in_ok-taken-in-Arm.ensures c.if-taken.false c.in_ok-fire_arms-in-Arm.ensures

pub fire_both-returns : goal.fire_both-returns
fire_both-returns t c =
    λ S. c.in_ok-fire-2.ensures S
    ∙ ap (λ T. fire_of (scope_of c.args.scene.now) (held c.args.read.now) (stmt_of c.args.t.now) T) (c.in_ok-fire.ensures S)

pub fire_case-returns : goal.fire_case-returns
fire_case-returns t c =
    fire_case_is (scope_of c.args.scene.now) (held c.args.read.now) c.args.writes.now.items
    c.fire_arms.new.writes.items (expr_of c.args.e.now)
    (arms_of c.args.arms.now) c.in_ok-w.w _ c.in_ok-w.ensures c.in_ok-n.ensures c.in_ok-fire_arms.ensures
