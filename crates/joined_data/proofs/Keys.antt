-- Rows that wait, from the first key on.
use Rattle.std.proofs.Common.{◌≡◌, ◌∙◌, ◌≤◌, ◌<◌, ◌-◌, ◌+◌, ◌++◌, ℕ, suc, List, sym, ap, arith, append_assoc}
use Rattle.joined_module.specs.Rows.{ModuleRow}
use Rattle.joined_module.specs.Module.{waiting_at, waiting_rows}

-- those at one key more
pub one_more : (rows : List ModuleRow) (n k : ℕ) (found next all : List ModuleRow) → k < n →
    found ++ waiting_rows rows k (n - k) ≡ all → next ≡ found ++ waiting_at rows k →
    (next ++ waiting_rows rows (k + 1) (n - (k + 1)) ≡ all) × (k + 1 ≤ n)
one_more rows n k found next all h so e =
    let less : n - k ≡ suc (n - (k + 1)) = omega arith in
    let up : k + 1 ≡ suc k = omega arith in (
      ap (λ x. x ++ waiting_rows rows (k + 1) (n - (k + 1))) e
          ∙ append_assoc found (waiting_at rows k) (waiting_rows rows (k + 1) (n - (k + 1)))
          ∙ ap (λ j. found ++ (waiting_at rows k ++ waiting_rows rows j (n - (k + 1)))) up
          ∙ sym (ap (λ m. found ++ waiting_rows rows k m) less) ∙ so,
      omega arith,
    )
