use Rattle.std.proofs.Common.{◌≡◌, ℕ, length}
use Rattle.net_text.specs.Scanning.{in_word}
use Rattle.net_text.specs.WireText.{number_from}
use Rattle.net_text.proofs.scan.number.Given as goal

abbrev pub invariant-loop-rest : goal.invariant-loop-rest
invariant-loop-rest l = (n : ℕ) × (l.value ≡ in_word n) × (number_from n l.rest ≡ number_from 0 l.text)

abbrev pub decreases-loop-rest : goal.decreases-loop-rest
decreases-loop-rest l = length l.rest
