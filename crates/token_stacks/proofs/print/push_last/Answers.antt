use Rattle.std.proofs.Common.{sym, ◌∙◌, arith}
use Rattle.token_stacks.proofs.Said.{if_map, parts, star_text, writes_as}
use Rattle.token_stacks.proofs.print.push_last.Goals as goal

pub returns-then-form-eq-STAR : goal.returns-then-form-eq-STAR
returns-then-form-eq-STAR c s e =
    let p = parts c.args.rest.now c.args.form s e in
    if_map c.push_mark.result
    (λ h. writes_as _ _ _ _ (sym (star_text s c.args.deep (sym p.last ∙ c.if-form-eq-STAR.true))) (omega arith))
    (c.push_mark.ensures c.args.todo.now.items)
