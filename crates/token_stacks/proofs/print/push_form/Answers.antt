use Rattle.std.proofs.Common.{sym, ◌∙◌, arith}
use Rattle.token_stacks.proofs.Said.{if_map, parts, flat, left_said, right_said, pair_said, again_said, writes_as, writes_behind}
use Rattle.token_stacks.proofs.print.push_form.Goals as goal

pub returns-then-deep-eq0 : goal.returns-then-deep-eq0
returns-then-deep-eq0 c s e n =
    let p = parts c.args.rest.now c.args.form s e in
    if_map c.push_mark.result
    (λ h. writes_as _ _ _ _ (sym (flat s c.args.deep c.if-deep-eq0.true (λ z. n (p.last ∙ z)))) (omega arith))
    (c.push_mark.ensures c.args.todo.now.items)

pub returns-then-form-eq-LEFT : goal.returns-then-form-eq-LEFT
returns-then-form-eq-LEFT c s e n =
    left_said c.push_marked.result s c.args.form c.args.deep c.args.rest.now c.args.text.now.items c.push_marked.new.text.items
    c.args.todo.now.items c.args.todo.now.items _ _ c.if-form-eq-LEFT.true c.if-deep-eq0.false (omega arith) e
    (λ t f. c.push_marked.ensures t c.args.todo.now.items f)

pub returns-then-form-eq-RIGHT : goal.returns-then-form-eq-RIGHT
returns-then-form-eq-RIGHT c s e n =
    right_said c.push_marked-then-form-eq-RIGHT.result s c.args.form c.args.deep c.args.rest.now c.args.text.now.items
    c.push_marked-then-form-eq-RIGHT.new.text.items c.args.todo.now.items c.args.todo.now.items _ _
    c.if-form-eq-RIGHT.true c.if-deep-eq0.false (omega arith) e
    (λ t f. c.push_marked-then-form-eq-RIGHT.ensures t c.args.todo.now.items f)

pub returns-then-form-eq-PAIR : goal.returns-then-form-eq-PAIR
returns-then-form-eq-PAIR c s e n =
    pair_said c.push_two.result s c.args.form c.args.deep c.args.rest.now c.args.text.now.items c.push_two.new.text.items
    c.args.todo.now.items c.push_two.new.todo.items _ _ c.if-form-eq-PAIR.true c.if-deep-eq0.false (omega arith) e
    c.push_two.ensures

pub returns : goal.returns
returns c s e n =
    again_said c.push_two-2.result s c.args.form c.args.deep c.args.rest.now c.args.text.now.items c.push_two-2.new.text.items
    c.args.todo.now.items c.push_two-2.new.todo.items _ _ n c.if-form-eq-LEFT.false c.if-form-eq-RIGHT.false
    c.if-form-eq-PAIR.false c.if-deep-eq0.false (omega arith) e
    (λ t u f. if_map c.push_two-2.result (λ h. writes_behind _ _ _ _ _ _ _ _ c.in_ok-push.ensures.items) (c.push_two-2.ensures t u f))
