use Rattle.std.proofs.Common.{◌≡◌, length}
use Rattle.net_text.specs.TypeText.{behind}
use Rattle.net_text.proofs.scan.behind.Given as goal

abbrev pub invariant-loop-left : goal.invariant-loop-left
invariant-loop-left l = behind l.left l.rest ≡ behind l.word l.text

abbrev pub decreases-loop-left : goal.decreases-loop-left
decreases-loop-left l = length l.left
