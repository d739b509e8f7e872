-- A line that isn't the last one.
use Rattle.std.proofs.Common.{◌≡◌, Bool, false, List, ℕ}
use Rattle.std.specs.Prelude.{◌↔◌, IsTrue}
use Rattle.std.proofs.lemmas.Bool.{both_ways}
use Rattle.text_lines.specs.Lines.{end_line}

-- A line that is told not to be the last one isn't.
pub not_end : (b : Bool) (l : List ℕ) → (IsTrue b ↔ (l ≡ end_line)) → b ≡ false → l ≡ end_line → ⊥
not_end b l d e g = both_ways b e (d.1 g)
