use Rattle.std.proofs.Common.{◌≡◌, ◌≤◌, List, ℕ, length, string_bytes, sym, subst}
use Rattle.std.proofs.lemmas.Result.{IfOk-weaker}
use Rattle.goi_tasks.specs.Refusals.{most_line, inner_line}
use Rattle.goi_tasks.proofs.Short.{inner_short}
use Rattle.goi_tasks.proofs.refusal.inner_line.Goals as goal

pub returns-clause-short : goal.returns-clause-short
returns-clause-short c =
    IfOk-weaker c.format.result (λ text. string_bytes text ≡ inner_line c.args.name.now c.args.at)
    (λ text. length (string_bytes text) ≤ most_line)
    (λ text h. subst (λ (bs : List ℕ). length bs ≤ most_line) (sym h) (inner_short c.args.name.now c.args.at c.requires c.ranges.at.fits))
    c.format.ensures.ok
