use Rattle.std.proofs.Common.{rules, ◌≡◌, ◌+◌, ◌*◌, ◌^◌, ◌<◌, refl, sym, ap, ◌∙◌, subst, arith}
use Rattle.std.specs.Prelude.{vec_len}
use Rattle.pcf_values.specs.Terms.{var, succ_of, pred_of, binary, ifz, lam, fix, app, height}
use Rattle.pcf_values.specs.Views.{ty_of, term_of}
use Rattle.cbv_terms.specs.Views.{context_of, IsReady}
use Rattle.cbv_terms.proofs.Placing.{taken_off}
use Rattle.cbv_terms.proofs.Translating.{ready_at, unary_ready, unary_height, left_ready, right_ready, test_ready, then_ready, else_ready}
use Rattle.cbv_terms.proofs.Translating.{function_ready, argument_ready, fun_ready, fix_ready, body_ready, inner_ready, unary_makes}
use Rattle.cbv_terms.proofs.Translating.{binary_makes, ifz_makes, function_arrow, app_makes, body_makes, function_makes, fun_makes}
use Rattle.cbv_terms.proofs.Translating.{fix_makes, both_ok, one_part, two_parts, three_parts, part_falls, asked_of, made_of, number_makes}
use Rattle.cbv_terms.proofs.translate.+translate.Goals as goal

pub translate-translate_variable-requires : goal.translate-translate_variable-requires
translate-translate_variable-requires t c = record {
  ready = subst (IsReady c.args.binders.now.items c.args.depth (context_of c.args.binders.now.items)) (ap term_of c.in-Var.is)
      c.requires.ready;
}

pub translate-translate_unary-requires : goal.translate-translate_unary-requires
translate-translate_unary-requires t c =
    let e = one_part succ_of c.args.term.now _ _ (ap term_of c.in-Succ.is) c.deref.ensures in (
      part_falls t _ _ _ e c.decreases refl,
      asked_of c.args.binders.now.items c.args.depth _ _ e c.requires.ready c.requires.room,
    )

pub translate-translate_unary-requires-in-Pred : goal.translate-translate_unary-requires-in-Pred
translate-translate_unary-requires-in-Pred t c =
    let e = one_part pred_of c.args.term.now _ _ (ap term_of c.in-Pred.is) c.deref-in-Pred.ensures in (
      part_falls t _ _ _ e c.decreases refl,
      asked_of c.args.binders.now.items c.args.depth _ _ e c.requires.ready c.requires.room,
    )

pub translate-translate_binary-requires : goal.translate-translate_binary-requires
translate-translate_binary-requires t c =
    let e = two_parts (binary c.in-Binary.operator) c.args.term.now _ _ _ _ (ap term_of c.in-Binary.is)
    c.deref-in-Binary.ensures c.deref-in-Binary-2.ensures in (
      part_falls t _ _ _ e c.decreases refl,
      asked_of c.args.binders.now.items c.args.depth _ _ e c.requires.ready c.requires.room,
    )

pub translate-translate_ifz-requires : goal.translate-translate_ifz-requires
translate-translate_ifz-requires t c =
    let e = three_parts ifz c.args.term.now _ _ _ _ _ _ (ap term_of c.in-Ifz.is)
    c.deref-in-Ifz.ensures c.deref-in-Ifz-2.ensures c.deref-in-Ifz-3.ensures in (
      part_falls t _ _ _ e c.decreases refl,
      asked_of c.args.binders.now.items c.args.depth _ _ e c.requires.ready c.requires.room,
    )

pub translate-translate_fun-requires : goal.translate-translate_fun-requires
translate-translate_fun-requires t c =
    let e = one_part (lam (ty_of c.in-Fun.ty)) c.args.term.now _ _ (ap term_of c.in-Fun.is) c.deref-in-Fun.ensures in (
      part_falls t _ _ _ e c.decreases refl,
      asked_of c.args.binders.now.items c.args.depth _ _ e c.requires.ready c.requires.room,
    )

pub translate-translate_fix-requires : goal.translate-translate_fix-requires
translate-translate_fix-requires t c =
    let e = one_part (fix (ty_of c.in-Fix.ty)) c.args.term.now _ _ (ap term_of c.in-Fix.is) c.deref-in-Fix.ensures in (
      part_falls t _ _ _ e c.decreases refl,
      asked_of c.args.binders.now.items c.args.depth _ _ e c.requires.ready c.requires.room,
    )

pub translate-translate_app-requires : goal.translate-translate_app-requires
translate-translate_app-requires t c =
    let e = two_parts app c.args.term.now _ _ _ _ (ap term_of c.in-App.is) c.deref-in-App.ensures c.deref-in-App-2.ensures in (
      part_falls t _ _ _ e c.decreases refl,
      asked_of c.args.binders.now.items c.args.depth _ _ e c.requires.ready c.requires.room,
    )

pub translate-returns-in-Number : goal.translate-returns-in-Number
translate-returns-in-Number t c =
    both_ok c.hand_on.result _ _ _
    (λ made e q. number_makes c.args.binders.now.items c.args.depth c.in-Number.n (term_of c.args.term.now) made
    (ap term_of c.in-Number.is) e q)
    c.hand_on.ensures.term c.hand_on.ensures.typed

pub translate-returns-in-Var : goal.translate-returns-in-Var
translate-returns-in-Var t c =
    made_of c.translate_variable.result c.args.binders.now.items c.args.binders.now.items c.args.depth (term_of c.args.term.now)
    (var c.in-Var.i) (ap term_of c.in-Var.is) c.translate_variable.ensures

pub translate-returns-in-Succ : goal.translate-returns-in-Succ
translate-returns-in-Succ t c =
    let e = one_part succ_of c.args.term.now _ _ (ap term_of c.in-Succ.is) c.deref.ensures in
    made_of c.translate_unary.result c.args.binders.now.items c.translate_unary.new.binders.items c.args.depth _ _ e
    c.translate_unary.ensures

pub translate-returns-in-Pred : goal.translate-returns-in-Pred
translate-returns-in-Pred t c =
    let e = one_part pred_of c.args.term.now _ _ (ap term_of c.in-Pred.is) c.deref-in-Pred.ensures in
    made_of c.translate_unary-in-Pred.result c.args.binders.now.items c.translate_unary-in-Pred.new.binders.items c.args.depth _ _ e
    c.translate_unary-in-Pred.ensures

pub translate-returns-in-Binary : goal.translate-returns-in-Binary
translate-returns-in-Binary t c =
    let e = two_parts (binary c.in-Binary.operator) c.args.term.now _ _ _ _ (ap term_of c.in-Binary.is)
    c.deref-in-Binary.ensures c.deref-in-Binary-2.ensures in
    made_of c.translate_binary.result c.args.binders.now.items c.translate_binary.new.binders.items c.args.depth _ _ e
    c.translate_binary.ensures

pub translate-returns-in-Ifz : goal.translate-returns-in-Ifz
translate-returns-in-Ifz t c =
    let e = three_parts ifz c.args.term.now _ _ _ _ _ _ (ap term_of c.in-Ifz.is)
    c.deref-in-Ifz.ensures c.deref-in-Ifz-2.ensures c.deref-in-Ifz-3.ensures in
    made_of c.translate_ifz.result c.args.binders.now.items c.translate_ifz.new.binders.items c.args.depth _ _ e
    c.translate_ifz.ensures

pub translate-returns-in-Fun : goal.translate-returns-in-Fun
translate-returns-in-Fun t c =
    let e = one_part (lam (ty_of c.in-Fun.ty)) c.args.term.now _ _ (ap term_of c.in-Fun.is) c.deref-in-Fun.ensures in
    made_of c.translate_fun.result c.args.binders.now.items c.translate_fun.new.binders.items c.args.depth _ _ e
    c.translate_fun.ensures

pub translate-returns-in-Fix : goal.translate-returns-in-Fix
translate-returns-in-Fix t c =
    let e = one_part (fix (ty_of c.in-Fix.ty)) c.args.term.now _ _ (ap term_of c.in-Fix.is) c.deref-in-Fix.ensures in
    made_of c.translate_fix.result c.args.binders.now.items c.translate_fix.new.binders.items c.args.depth _ _ e
    c.translate_fix.ensures

pub translate-returns-in-App : goal.translate-returns-in-App
translate-returns-in-App t c =
    let e = two_parts app c.args.term.now _ _ _ _ (ap term_of c.in-App.is) c.deref-in-App.ensures c.deref-in-App-2.ensures in
    made_of c.translate_app.result c.args.binders.now.items c.translate_app.new.binders.items c.args.depth _ _ e
    c.translate_app.ensures

pub translate_app-translate-requires : goal.translate_app-translate-requires
translate_app-translate-requires t c = (
  search rules,
  (
    function_ready c.args.binders.now.items c.args.depth (term_of c.args.f.now) (term_of c.args.a.now) c.requires.ready,
    omega (arith, c.requires.room),
  ),
)

pub translate_app-translate-requires-2 : goal.translate_app-translate-requires-2
translate_app-translate-requires-2 t c = (
  search rules,
  (
    ready_at c.translate.new.binders.items c.args.binders.now.items (c.args.depth + 2) (term_of c.args.a.now) c.in_ok-f.ensures.binders
        (argument_ready c.args.binders.now.items c.args.depth (term_of c.args.f.now) (term_of c.args.a.now) c.requires.ready),
    omega (arith, c.requires.room),
  ),
)

pub translate_app-close_app-requires : goal.translate_app-close_app-requires
translate_app-close_app-requires t c =
    function_arrow c.args.binders.now.items c.translate.new.binders.items c.args.depth (term_of c.args.f.now) (term_of c.args.a.now)
    c.in_ok-f.f c.requires.ready c.in_ok-f.ensures

pub translate_app-returns : goal.translate_app-returns
translate_app-returns t c =
    both_ok c.close_app.result _ _ _
    (λ made e q. app_makes c.args.binders.now.items c.translate.new.binders.items c.translate-2.new.binders.items c.args.depth
    (term_of c.args.f.now) (term_of c.args.a.now) c.in_ok-f.f c.in_ok-a.a made
    c.requires.ready.around c.in_ok-f.ensures c.in_ok-a.ensures e q)
    c.close_app.ensures.term c.close_app.ensures.typed

pub translate_body-translate-requires : goal.translate_body-translate-requires
translate_body-translate-requires t c = (
  search rules,
  (
    body_ready c.args.binders.now.items c.push.new.self.items _ c.args.depth (term_of c.args.body.now) c.in_ok-push.ensures.items refl
        c.requires.ready,
    omega (arith, c.requires.room),
  ),
)

pub translate_body-returns : goal.translate_body-returns
translate_body-returns t c =
    body_makes c.args.binders.now.items c.push.new.self.items c.translate.new.binders.items c.pop.new.self.items _ c.args.depth
    (term_of c.args.body.now) c.in_ok-made.made c.in_ok-push.ensures.items refl
    c.requires.ready.around c.in_ok-made.ensures
    (taken_off c.args.binders.now.items c.translate.new.binders.items c.pop.new.self.items _ (vec_len c.translate.new.binders)
    (c.in_ok-made.ensures.binders ∙ c.in_ok-push.ensures.items) (omega (arith, c.translate.new.binders.ok.0)) c.pop.ensures.rest)

pub translate_binary-translate-requires : goal.translate_binary-translate-requires
translate_binary-translate-requires t c = (
  search rules,
  (
    left_ready c.args.operator c.args.binders.now.items c.args.depth (term_of c.args.a.now) (term_of c.args.b.now) c.requires.ready,
    omega (arith, c.requires.room),
  ),
)

pub translate_binary-translate-requires-2 : goal.translate_binary-translate-requires-2
translate_binary-translate-requires-2 t c = (
  search rules,
  (
    ready_at c.translate.new.binders.items c.args.binders.now.items (c.args.depth + 2) (term_of c.args.b.now) c.in_ok-a.ensures.binders
        (right_ready c.args.operator c.args.binders.now.items c.args.depth (term_of c.args.a.now) (term_of c.args.b.now)
        c.requires.ready),
    omega (arith, c.requires.room),
  ),
)

pub translate_binary-returns : goal.translate_binary-returns
translate_binary-returns t c =
    both_ok c.close_binary.result _ _ _
    (λ made e q. binary_makes c.args.operator c.args.binders.now.items c.translate.new.binders.items c.translate-2.new.binders.items
    c.args.depth (term_of c.args.a.now) (term_of c.args.b.now) c.in_ok-a.a c.in_ok-b.b made
    c.requires.ready.around c.in_ok-a.ensures c.in_ok-b.ensures e q)
    c.close_binary.ensures.term c.close_binary.ensures.typed

pub translate_fix-translate_function-requires : goal.translate_fix-translate_function-requires
translate_fix-translate_function-requires t c =
    let e : term_of c.args.function.now ≡ lam (ty_of c.in-Fun.argument) (term_of c.deref.result.now) = ap term_of c.in-Fun.is ∙
    ap (λ m. lam (ty_of c.in-Fun.argument) (term_of m)) (sym c.deref.ensures) in
    let r : c.args.depth + 5 * height (fix (ty_of c.args.ty.now) (lam (ty_of c.in-Fun.argument) (term_of c.deref.result.now))) < 2 ^ 32 =
    subst (λ m. c.args.depth + 5 * height (fix (ty_of c.args.ty.now) m) < 2 ^ 32) e c.requires.room in (
      search rules,
      (
        fix_ready c.args.binders.now.items c.args.depth (ty_of c.args.ty.now) (ty_of c.in-Fun.argument) (term_of c.deref.result.now)
            (term_of c.args.function.now) e c.requires.ready,
        omega (arith, r),
      ),
    )

pub translate_fix-returns : goal.translate_fix-returns
translate_fix-returns t c =
    let e : term_of c.args.function.now ≡ lam (ty_of c.in-Fun.argument) (term_of c.deref.result.now) = ap term_of c.in-Fun.is ∙
    ap (λ m. lam (ty_of c.in-Fun.argument) (term_of m)) (sym c.deref.ensures) in
    both_ok c.close_fix.result _ _ _
    (λ made x q. fix_makes c.args.binders.now.items c.translate_function.new.binders.items c.args.depth (ty_of c.args.ty.now)
    (ty_of c.in-Fun.argument) (term_of c.deref.result.now) (term_of c.args.function.now)
    c.in_ok-function-in-Fun.function.value made e c.requires.ready.around c.in_ok-function-in-Fun.ensures x q)
    c.close_fix.ensures.term c.close_fix.ensures.typed

pub translate_fun-translate_body-requires : goal.translate_fun-translate_body-requires
translate_fun-translate_body-requires t c = (
  search rules,
  (
    fun_ready c.args.binders.now.items c.args.depth (ty_of c.args.ty.now) (term_of c.args.body.now) c.requires.ready,
    omega (arith, c.requires.room),
  ),
)

pub translate_fun-returns : goal.translate_fun-returns
translate_fun-returns t c =
    both_ok c.close_fun.result _ _ _
    (λ made e q. fun_makes c.args.binders.now.items c.translate_body.new.binders.items c.args.depth (ty_of c.args.ty.now)
    (term_of c.args.body.now) c.in_ok-body.body made c.requires.ready.around c.in_ok-body.ensures e q)
    c.close_fun.ensures.term c.close_fun.ensures.typed

pub translate_function-translate_body-requires : goal.translate_function-translate_body-requires
translate_function-translate_body-requires t c = (
  search rules,
  (
    inner_ready c.args.binders.now.items c.push.new.self.items _ c.args.depth (ty_of c.args.argument.now) (term_of c.args.body.now)
        c.in_ok-push.ensures.items refl c.requires.ready,
    omega (arith, c.requires.room),
  ),
)

pub translate_function-returns : goal.translate_function-returns
translate_function-returns t c =
    function_makes c.args.binders.now.items c.push.new.self.items c.translate_body.new.binders.items c.pop.new.self.items _ c.args.depth
    (ty_of c.args.argument.now) (term_of c.args.body.now) c.in_ok-body.body
    c.in_ok-new.field-0.value c.in_ok-push.ensures.items refl c.requires.ready.around c.in_ok-body.ensures
    (taken_off c.args.binders.now.items c.translate_body.new.binders.items c.pop.new.self.items _ (vec_len c.translate_body.new.binders)
    (c.in_ok-body.ensures.binders ∙ c.in_ok-push.ensures.items) (omega (arith, c.translate_body.new.binders.ok.0)) c.pop.ensures.rest)
    (ap term_of c.in_ok-new.ensures.ok ∙ ap (λ a. lam a (term_of c.in_ok-body.body.term.value)) c.in_ok-argument.ensures)

pub translate_ifz-translate-requires : goal.translate_ifz-translate-requires
translate_ifz-translate-requires t c = (
  search rules,
  (
    test_ready c.args.binders.now.items c.args.depth (term_of c.args.c.now) (term_of c.args.p.now) (term_of c.args.q.now) c.requires.ready,
    omega (arith, c.requires.room),
  ),
)

pub translate_ifz-translate-requires-2 : goal.translate_ifz-translate-requires-2
translate_ifz-translate-requires-2 t c = (
  search rules,
  (
    ready_at c.translate.new.binders.items c.args.binders.now.items (c.args.depth + 2) (term_of c.args.p.now) c.in_ok-c.ensures.binders
        (then_ready c.args.binders.now.items c.args.depth (term_of c.args.c.now) (term_of c.args.p.now) (term_of c.args.q.now)
        c.requires.ready),
    omega (arith, c.requires.room),
  ),
)

pub translate_ifz-translate-requires-3 : goal.translate_ifz-translate-requires-3
translate_ifz-translate-requires-3 t c = (
  search rules,
  (
    ready_at c.translate-2.new.binders.items c.args.binders.now.items (c.args.depth + 2) (term_of c.args.q.now)
        (c.in_ok-p.ensures.binders ∙ c.in_ok-c.ensures.binders)
        (else_ready c.args.binders.now.items c.args.depth (term_of c.args.c.now) (term_of c.args.p.now) (term_of c.args.q.now)
        c.requires.ready),
    omega (arith, c.requires.room),
  ),
)

pub translate_ifz-returns : goal.translate_ifz-returns
translate_ifz-returns t c =
    both_ok c.close_ifz.result _ _ _
    (λ made e y. ifz_makes c.args.binders.now.items c.translate.new.binders.items c.translate-2.new.binders.items
    c.translate-3.new.binders.items c.args.depth (term_of c.args.c.now) (term_of c.args.p.now) (term_of c.args.q.now)
    c.in_ok-c.c c.in_ok-p.p c.in_ok-q.q made c.requires.ready.around c.in_ok-c.ensures c.in_ok-p.ensures c.in_ok-q.ensures e y)
    c.close_ifz.ensures.term c.close_ifz.ensures.typed

pub translate_unary-translate-requires : goal.translate_unary-translate-requires
translate_unary-translate-requires t c = (
  search rules,
  (
    unary_ready c.args.form c.args.binders.now.items c.args.depth (term_of c.args.a.now) c.requires.ready,
    omega (arith, c.requires.room, unary_height c.args.form (term_of c.args.a.now)),
  ),
)

pub translate_unary-returns : goal.translate_unary-returns
translate_unary-returns t c =
    both_ok c.close_unary.result _ _ _
    (λ made e q. unary_makes c.args.form c.args.binders.now.items c.translate.new.binders.items c.args.depth (term_of c.args.a.now)
    c.in_ok-a.a made c.requires.ready.around c.in_ok-a.ensures e q)
    c.close_unary.ensures.term c.close_unary.ensures.typed
