use Rattle.std.proofs.Common.{rules, ◌+◌, arith, ap, ◌∙◌}
use Rattle.std.proofs.lemmas.Result.{IfOk-weaker}
use Rattle.pcf_values.specs.Views.{ty_of, term_of}
use Rattle.net_build.specs.Building.{part_at, unary_node, unary_type}
use Rattle.net_build.proofs.Ending.{unary_ending}
use Rattle.net_build.proofs.Placing.{double_builds, ifz_room, ifz_close_room, ifz_builds, app_builds_at, lam_builds, fix_close_room_at}
use Rattle.net_build.proofs.Placing.{fix_builds_at, unary_room, unary_next_room, double_first_room, double_second_room, double_close_room}
use Rattle.net_build.proofs.Placing.{ifz_first_room, ifz_second_room, app_first_room, app_second_room_at, app_close_room_at}
use Rattle.net_build.proofs.Placing.{lam_first_room, lam_close_room, placed_body, placed_new}
use Rattle.net_build.proofs.translate.+place.Goals as goal

pub place_unary-returns : goal.place_unary-returns
place_unary-returns t c =
    let form = c.args.form in
    let operand = c.in_ok-operand.operand in
    IfOk-weaker c.finish.result _ _
    (λ x f. unary_ending c.args.parts.now c.place.new.parts c.finish.new.parts form c.args.depth
    (part_at c.args.parts.now c.args.depth (term_of c.args.operand.now)) operand (ty_of c.in_ok-ty.ty) c.node-node.result x
    c.in_ok-operand.ensures
    (c.in_ok-ty.ensures ∙ ap (unary_type form) c.ty.ensures) (c.node-node.ensures ∙ ap (unary_node form operand.out) c.next.ensures) f)
    c.finish.ensures

pub place_double-returns : goal.place_double-returns
place_double-returns t c =
    IfOk-weaker c.close_double.result _ _
    (λ r j. double_builds c.args.form c.args.parts.now c.place.new.parts c.args.depth (term_of c.args.left.now) (term_of c.args.right.now)
    c.in_ok-left.left c.in_ok-left.ensures
    c.place-2.new.parts c.in_ok-right.right c.in_ok-right.ensures c.close_double.new.parts r j)
    c.close_double.ensures

pub place_ifz-place-requires-3 : goal.place_ifz-place-requires-3
place_ifz-place-requires-3 t c = (
  search rules,
  ifz_room c.args.parts.now c.place.new.parts c.args.depth (term_of c.args.test.now) (term_of c.args.then.now)
      (term_of c.args.otherwise.now) c.in_ok-test.test c.in_ok-test.ensures
      c.place-2.new.parts c.in_ok-then.then c.in_ok-then.ensures c.requires,
)

pub place_ifz-close_ifz-requires-clause-room : goal.place_ifz-close_ifz-requires-clause-room
place_ifz-close_ifz-requires-clause-room t c =
    ifz_close_room c.args.parts.now c.place.new.parts c.args.depth (term_of c.args.test.now) (term_of c.args.then.now)
    (term_of c.args.otherwise.now) c.in_ok-test.test c.in_ok-test.ensures
    c.place-2.new.parts c.in_ok-then.then c.in_ok-then.ensures c.place-3.new.parts c.in_ok-otherwise.otherwise c.in_ok-otherwise.ensures
    c.requires

pub place_ifz-returns : goal.place_ifz-returns
place_ifz-returns t c =
    IfOk-weaker c.close_ifz.result _ _
    (λ r j. ifz_builds c.args.parts.now c.place.new.parts c.args.depth (term_of c.args.test.now) (term_of c.args.then.now)
    (term_of c.args.otherwise.now) c.in_ok-test.test c.in_ok-test.ensures
    c.place-2.new.parts c.in_ok-then.then c.in_ok-then.ensures c.place-3.new.parts c.in_ok-otherwise.otherwise c.in_ok-otherwise.ensures
    c.close_ifz.new.parts r j)
    c.close_ifz.ensures

pub place_fun-returns : goal.place_fun-returns
place_fun-returns t c =
    IfOk-weaker c.close_fun.result _ _
    (λ r j. lam_builds c.args.parts.now c.place_body.new.parts c.args.depth (ty_of c.args.ty.now) (term_of c.args.body.now)
    c.in_ok-body.body c.in_ok-body.ensures c.close_fun.new.parts r j)
    c.close_fun.ensures

pub place_fix-close_fix-requires-clause-room : goal.place_fix-close_fix-requires-clause-room
place_fix-close_fix-requires-clause-room t c =
    fix_close_room_at c.args.parts.now c.place_body.new.parts c.args.depth (c.args.depth + 1) (ty_of c.args.ty.now)
    (term_of c.args.body.now) c.in_ok-body.body (omega arith) c.in_ok-body.ensures c.requires

pub place_fix-returns : goal.place_fix-returns
place_fix-returns t c =
    IfOk-weaker c.close_fix.result _ _
    (λ r j. fix_builds_at c.args.parts.now c.place_body.new.parts c.close_fix.new.parts c.args.depth (c.args.depth + 1)
    (ty_of c.args.ty.now) (term_of c.args.body.now) c.in_ok-body.body r (omega arith) c.in_ok-body.ensures j)
    c.close_fix.ensures

pub place_app-returns : goal.place_app-returns
place_app-returns t c =
    IfOk-weaker c.close_app.result _ _
    (λ r j. app_builds_at c.args.parts.now c.place.new.parts c.place-2.new.parts c.close_app.new.parts c.args.depth (c.args.depth + 1)
    (term_of c.args.function.now) (term_of c.args.argument.now) c.in_ok-function.function c.in_ok-argument.argument r
    (omega arith) c.in_ok-function.ensures c.in_ok-argument.ensures j)
    c.close_app.ensures

pub place_unary-place-requires : goal.place_unary-place-requires
place_unary-place-requires t c =
    (search rules, unary_room c.args.form c.args.parts.now c.args.depth (term_of c.args.operand.now) c.requires)

pub place_unary-next-requires : goal.place_unary-next-requires
place_unary-next-requires t c =
    unary_next_room c.args.form c.args.parts.now c.place.new.parts c.args.depth (term_of c.args.operand.now) c.in_ok-operand.operand
    c.in_ok-operand.ensures c.requires

pub place_unary-finish-requires : goal.place_unary-finish-requires
place_unary-finish-requires t c =
    unary_next_room c.args.form c.args.parts.now c.place.new.parts c.args.depth (term_of c.args.operand.now) c.in_ok-operand.operand
    c.in_ok-operand.ensures c.requires

pub place_unary-ty-requires : goal.place_unary-ty-requires
place_unary-ty-requires t c =
    c.in_ok-operand.ensures.gives.inside

pub place_double-place-requires : goal.place_double-place-requires
place_double-place-requires t c = (
  search rules,
  double_first_room c.args.form c.args.parts.now c.args.depth (term_of c.args.left.now) (term_of c.args.right.now) c.requires,
)

pub place_double-place-requires-2 : goal.place_double-place-requires-2
place_double-place-requires-2 t c = (
  search rules,
  double_second_room c.args.form c.args.parts.now c.place.new.parts c.args.depth (term_of c.args.left.now) (term_of c.args.right.now)
      c.in_ok-left.left c.in_ok-left.ensures c.requires,
)

pub place_double-close_double-requires-clause-right : goal.place_double-close_double-requires-clause-right
place_double-close_double-requires-clause-right t c =
    placed_new c.place.new.parts c.place-2.new.parts _ c.in_ok-right.right c.in_ok-right.ensures

pub place_double-close_double-requires-clause-room : goal.place_double-close_double-requires-clause-room
place_double-close_double-requires-clause-room t c =
    double_close_room c.args.form c.args.parts.now c.place.new.parts c.args.depth (term_of c.args.left.now) (term_of c.args.right.now)
    c.in_ok-left.left c.in_ok-left.ensures c.place-2.new.parts c.in_ok-right.right c.in_ok-right.ensures c.requires

pub place_ifz-place-requires : goal.place_ifz-place-requires
place_ifz-place-requires t c = (
  search rules,
  ifz_first_room c.args.parts.now c.args.depth (term_of c.args.test.now) (term_of c.args.then.now) (term_of c.args.otherwise.now)
      c.requires,
)

pub place_ifz-place-requires-2 : goal.place_ifz-place-requires-2
place_ifz-place-requires-2 t c = (
  search rules,
  ifz_second_room c.args.parts.now c.place.new.parts c.args.depth (term_of c.args.test.now) (term_of c.args.then.now)
      (term_of c.args.otherwise.now)
      c.in_ok-test.test c.in_ok-test.ensures c.requires,
)

pub place_ifz-close_ifz-requires-clause-otherwise : goal.place_ifz-close_ifz-requires-clause-otherwise
place_ifz-close_ifz-requires-clause-otherwise t c =
    placed_new c.place-2.new.parts c.place-3.new.parts _ c.in_ok-otherwise.otherwise c.in_ok-otherwise.ensures

pub place_fun-place_body-requires : goal.place_fun-place_body-requires
place_fun-place_body-requires t c =
    (search rules, lam_first_room c.args.parts.now c.args.depth (ty_of c.args.ty.now) (term_of c.args.body.now) c.requires)

pub place_fun-close_fun-requires-clause-body : goal.place_fun-close_fun-requires-clause-body
place_fun-close_fun-requires-clause-body t c =
    placed_body c.args.parts.now c.place_body.new.parts _ c.in_ok-body.body c.in_ok-body.ensures

pub place_fun-close_fun-requires-clause-room : goal.place_fun-close_fun-requires-clause-room
place_fun-close_fun-requires-clause-room t c =
    lam_close_room c.args.parts.now c.place_body.new.parts c.args.depth (ty_of c.args.ty.now) (term_of c.args.body.now)
    c.in_ok-body.body c.in_ok-body.ensures c.requires

pub place_fix-close_fix-requires-clause-body : goal.place_fix-close_fix-requires-clause-body
place_fix-close_fix-requires-clause-body t c =
    placed_body c.args.parts.now c.place_body.new.parts _ c.in_ok-body.body c.in_ok-body.ensures

pub place_app-place-requires : goal.place_app-place-requires
place_app-place-requires t c =
    (search rules, app_first_room c.args.parts.now c.args.depth (term_of c.args.function.now) (term_of c.args.argument.now) c.requires)

pub place_app-place-requires-2 : goal.place_app-place-requires-2
place_app-place-requires-2 t c = (
  search rules,
  app_second_room_at c.args.parts.now c.place.new.parts c.args.depth (c.args.depth + 1) (term_of c.args.function.now)
      (term_of c.args.argument.now)
      c.in_ok-function.function (omega arith) c.in_ok-function.ensures c.requires,
)

pub place_app-close_app-requires-clause-argument : goal.place_app-close_app-requires-clause-argument
place_app-close_app-requires-clause-argument t c =
    placed_new c.place.new.parts c.place-2.new.parts _
    c.in_ok-argument.argument c.in_ok-argument.ensures

pub place_app-close_app-requires-clause-room : goal.place_app-close_app-requires-clause-room
place_app-close_app-requires-clause-room t c =
    app_close_room_at c.args.parts.now c.place.new.parts c.place-2.new.parts c.args.depth (c.args.depth + 1)
    (term_of c.args.function.now) (term_of c.args.argument.now)
    c.in_ok-function.function c.in_ok-argument.argument (omega arith) c.in_ok-function.ensures c.in_ok-argument.ensures c.requires
