use Rattle.std.proofs.Common.{◌≡◌, ◌≤◌, true, ◌++◌, ◌∙◌, arith}
use Rattle.std.specs.Prelude.{codes}
use Rattle.std.specs.Str.Parse.{digits_value}
use Rattle.text_lines.specs.Digits.{behind, capped, digits_in, is_number}
use Rattle.batch_lists.specs.Limits.{most_job_budget}
use Rattle.batch_lists.proofs.ListLine.{no_budget_low, no_budget_high, budget_is, space_behind}
use Rattle.batch_lists.proofs.line.budget_in.Goals as goal
use Rattle.batch_lists.proofs.line.budget_in.Goals.{then-value-eq0-via-then-value-eq0, then-value-eq0-via-else-value-eq0+then-value}

pub returns-then-value-eq0 : goal.returns-then-value-eq0
returns-then-value-eq0 c =
    let bytes = c.args.bytes.now in
    let v : c.in-Some.value ≡ capped (digits_value 10 (digits_in c.args.bytes.now)) = cc (c.in-Some.ensures.value) in
    elim c.then-value-eq0.branch [
      | then-value-eq0-via-then-value-eq0 w ↦ no_budget_low bytes c.in-Some.value v w.if-value-eq0.true
      | then-value-eq0-via-else-value-eq0+then-value w ↦
          no_budget_high bytes c.in-Some.value v (let l = w.if-value.true in omega (arith, l))
    ]

pub returns-in-Some-behind_space : goal.returns-in-Some-behind_space
returns-in-Some-behind_space c =
    let told : is_number (digits_in c.args.bytes.now) ≡ true = cc (c.in-Some.ensures.told) in
    let v : c.in-Some.value ≡ capped (digits_value 10 (digits_in c.args.bytes.now)) = cc (c.in-Some.ensures.value) in
    let m : c.in-Some.more.now ≡ behind c.args.bytes.now = cc (c.in-Some.ensures.rest) in
    let s : c.in-Some.more.now ≡ codes " " ++ c.in-Some-behind_space.rest.now = cc (c.in-Some-behind_space.ensures) in
    let some : 1 ≤ c.in-Some.value = (let k = c.if-value-eq0.false in omega (arith, k)) in
    let few : c.in-Some.value ≤ most_job_budget = (let k = c.if-value.false in omega (arith, k)) in
    budget_is c.args.bytes.now c.in-Some.more.now c.in-Some-behind_space.rest.now c.in-Some.value told v some few m s

pub returns-in-None : goal.returns-in-None
returns-in-None c = λ n rest x.
    let m : c.in-Some.more.now ≡ behind c.args.bytes.now = cc (c.in-Some.ensures.rest) in
    c.in-None.ensures rest (m ∙ space_behind c.args.bytes.now n rest x)
